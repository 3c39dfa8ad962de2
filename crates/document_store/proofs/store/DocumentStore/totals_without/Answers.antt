use Rattle.std.proofs.Common.{◌∙◌, ◌-◌, ap, arith}
use Rattle.document_store.specs.Inside.{file_in}
use Rattle.document_store.proofs.MemberLemmas.{some_file, few_bytes, counted_without, counted_none, file_seen, counted_seen, within_seen, some_seen}
use Rattle.document_store.proofs.store.DocumentStore.totals_without.Goals as goal

pub without-requires-clause-files : goal.without-requires-clause-files
without-requires-clause-files c =
    let seen = file_seen c.args.self.now c.self.inside.paths.keys c.self.inside.files.items c.self.inside.documents.items c.self.inside.pool c.self.view_is c.args.at c.index-file.result.now
    (within_seen c.args.self.now c.self.inside.paths.keys c.self.inside.files.items c.self.inside.documents.items c.self.inside.pool c.self.view_is c.args.at c.requires) c.index-file.ensures in
    let some = some_seen c.self.inside.pool c.index-file.result.now c.in-Some.field-0 c.in-Some.is in
    some_file c.args.self.now.store.files c.args.at _ c.requires seen c.self.inside.totals (counted_seen c.args.self.now c.self.inside.paths.keys c.self.inside.files.items c.self.inside.documents.items c.self.inside.pool c.self.view_is c.self.inside.totals c.self.invariant.1) some.0 some.1

pub without-requires-clause-bytes : goal.without-requires-clause-bytes
without-requires-clause-bytes c =
    let seen = file_seen c.args.self.now c.self.inside.paths.keys c.self.inside.files.items c.self.inside.documents.items c.self.inside.pool c.self.view_is c.args.at c.index-file.result.now
    (within_seen c.args.self.now c.self.inside.paths.keys c.self.inside.files.items c.self.inside.documents.items c.self.inside.pool c.self.view_is c.args.at c.requires) c.index-file.ensures in
    let few = few_bytes c.args.self.now.store.files c.args.at _ c.requires seen c.self.inside.totals (counted_seen c.args.self.now c.self.inside.paths.keys c.self.inside.files.items c.self.inside.documents.items c.self.inside.pool c.self.view_is c.self.inside.totals c.self.invariant.1) in
    omega (arith, few, c.size_kept.ensures)

pub returns-in-Some : goal.returns-in-Some
returns-in-Some c =
    let seen = file_seen c.args.self.now c.self.inside.paths.keys c.self.inside.files.items c.self.inside.documents.items c.self.inside.pool c.self.view_is c.args.at c.index-file.result.now
    (within_seen c.args.self.now c.self.inside.paths.keys c.self.inside.files.items c.self.inside.documents.items c.self.inside.pool c.self.view_is c.args.at c.requires) c.index-file.ensures in
    let some = some_seen c.self.inside.pool c.index-file.result.now c.in-Some.field-0 c.in-Some.is in
    counted_without c.args.self.now.store.files c.args.at _ c.requires seen c.self.inside.totals (counted_seen c.args.self.now c.self.inside.paths.keys c.self.inside.files.items c.self.inside.documents.items c.self.inside.pool c.self.view_is c.self.inside.totals c.self.invariant.1)
    some.0 some.1 _ (c.without.ensures ∙ ap (λ n. record { files = c.self.inside.totals.files - 1; bytes = c.self.inside.totals.bytes - n }) c.size_kept.ensures)

pub returns-in-None : goal.returns-in-None
returns-in-None c =
    let seen = file_seen c.args.self.now c.self.inside.paths.keys c.self.inside.files.items c.self.inside.documents.items c.self.inside.pool c.self.view_is c.args.at c.index-file.result.now
    (within_seen c.args.self.now c.self.inside.paths.keys c.self.inside.files.items c.self.inside.documents.items c.self.inside.pool c.self.view_is c.args.at c.requires) c.index-file.ensures in
    counted_none c.args.self.now.store.files c.args.at _ c.requires seen c.self.inside.totals (counted_seen c.args.self.now c.self.inside.paths.keys c.self.inside.files.items c.self.inside.documents.items c.self.inside.pool c.self.view_is c.self.inside.totals c.self.invariant.1)
    (ap (file_in c.self.inside.pool) c.in-None.is)
