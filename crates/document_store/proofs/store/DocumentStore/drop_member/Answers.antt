use Rattle.std.proofs.Common.{◌<◌, arith, length}
use Rattle.document_store.proofs.MemberLemmas.{IsKept-dropped, dropped_counted, dropped_member, less_within, are_seen, within_seen}
use Rattle.document_store.proofs.store.DocumentStore.drop_member.Goals as goal

pub invariant_of-self : goal.invariant_of-self
invariant_of-self c =
    let inside : c.args.path.0 < length c.args.self.now.store.files = omega (arith, c.if-at-file_count.true, c.file_count.ensures.count) in
    let within = within_seen c.args.self.now c.self.inside.paths.keys c.self.inside.files.items c.self.inside.documents.items c.self.inside.pool c.self.view_is c.args.path.0 inside in
    let less = less_within c.args.self.now.store.files c.args.path.0 inside c.self.inside.totals c.totals_without-totals.result
    (are_seen c.args.self.now c.self.inside.paths.keys c.self.inside.files.items c.self.inside.documents.items c.self.inside.pool c.self.view_is c.self.inside.totals c.self.invariant.1) c.totals_without-totals.ensures in (
      IsKept-dropped c.self.inside.paths.keys c.self.inside.files.items c.self.inside.documents.items c.self.inside.pool c.self.invariant.0 c.args.path.0 c.index.result.now within c.index.ensures _ c.let_go.ensures,
      record {
        counted = dropped_counted c.self.inside.paths.keys c.self.inside.files.items c.self.inside.documents.items c.self.inside.pool c.self.invariant.0 c.args.path.0 c.index.result.now within c.index.ensures _ c.let_go.ensures
            c.args.self.now c.self.view_is c.totals_without-totals.result c.totals_without-totals.ensures;
        fit = less.fit;
      },
    )

pub returns-then-at-file_count : goal.returns-then-at-file_count
returns-then-at-file_count c =
    let inside : c.args.path.0 < length c.args.self.now.store.files = omega (arith, c.if-at-file_count.true, c.file_count.ensures.count) in
    dropped_member c.self.inside.paths.keys c.self.inside.files.items c.self.inside.documents.items c.self.inside.pool c.self.invariant.0 c.args.path.0 c.index.result.now (within_seen c.args.self.now c.self.inside.paths.keys c.self.inside.files.items c.self.inside.documents.items c.self.inside.pool c.self.view_is c.args.path.0 inside) c.index.ensures _ c.let_go.ensures
    c.args.self.now c.self.view_is
