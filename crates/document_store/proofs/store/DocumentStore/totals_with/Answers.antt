use Rattle.std.proofs.Common.{◌∙◌, ◌<◌, ◌+◌, ℕ, Option, ap, sym, subst, arith, length}
use Rattle.document_store.specs.Members.{placed}
use Rattle.document_store.specs.Inside.{AreCounted}
use Rattle.document_store.proofs.MemberLemmas.{counted_placed, less_bounds, are_seen, if_some}
use Rattle.document_store.proofs.store.DocumentStore.totals_with.Goals as goal

pub with-requires-clause-files : goal.with-requires-clause-files
with-requires-clause-files c =
    let within = if_some c.args.at c.in-Some.number (λ n. n < length c.args.self.now.store.files) c.in-Some.is c.requires.within in
    let bounds = less_bounds c.args.self.now.store.files c.in-Some.number within c.self.inside.totals c.totals_without.result
    (are_seen c.args.self.now c.self.inside.paths.keys c.self.inside.files.items c.self.inside.documents.items c.self.inside.pool c.self.view_is c.self.inside.totals c.self.invariant.1) c.totals_without.ensures in
    omega (arith, bounds.0)

pub with-requires-clause-bytes : goal.with-requires-clause-bytes
with-requires-clause-bytes c =
    let within = if_some c.args.at c.in-Some.number (λ n. n < length c.args.self.now.store.files) c.in-Some.is c.requires.within in
    let bounds = less_bounds c.args.self.now.store.files c.in-Some.number within c.self.inside.totals c.totals_without.result
    (are_seen c.args.self.now c.self.inside.paths.keys c.self.inside.files.items c.self.inside.documents.items c.self.inside.pool c.self.view_is c.self.inside.totals c.self.invariant.1) c.totals_without.ensures in
    omega (arith, bounds.1, c.requires.small)

pub returns-in-Some : goal.returns-in-Some
returns-in-Some c = λ file size.
    let within = if_some c.args.at c.in-Some.number (λ n. n < length c.args.self.now.store.files) c.in-Some.is c.requires.within in
    subst (λ (o : Option ℕ). AreCounted c.with.result (placed c.args.self.now.store.files o file)) (sym c.in-Some.is)
    (counted_placed c.args.self.now.store.files c.in-Some.number file c.totals_without.result c.with.result within c.totals_without.ensures
    (c.with.ensures ∙ ap (λ n. record { files = c.totals_without.result.files + 1; bytes = c.totals_without.result.bytes + n }) (sym size)))
