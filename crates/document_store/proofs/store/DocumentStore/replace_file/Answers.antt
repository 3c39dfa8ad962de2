use Rattle.document_store.proofs.MemberLemmas.{IsKept-replaced, replaced_within, replaced_member, within_seen}
use Rattle.document_store.proofs.store.DocumentStore.replace_file.Goals as goal

pub invariant_of-self-2 : goal.invariant_of-self-2
invariant_of-self-2 c =
    let within = within_seen c.args.self.now c.self.inside.paths.keys c.self.inside.files.items c.self.inside.documents.items c.self.inside.pool c.self.view_is c.args.at c.requires.there in (
      IsKept-replaced c.self.inside.paths.keys c.self.inside.files.items c.self.inside.documents.items c.self.inside.pool c.self.invariant.0 c.args.at c.index-old.result.now within c.index-old.ensures _ _ _ _ c.in_ok-file.ensures.taken c.let_go.ensures,
      replaced_within c.self.inside.paths.keys c.self.inside.files.items c.self.inside.documents.items c.self.inside.pool c.self.invariant.0 c.args.at c.index-old.result.now within c.index-old.ensures _ _ _ _ c.in_ok-file.ensures.taken c.let_go.ensures
          c.args.self.now c.self.view_is c.args.totals c.requires.within,
    )

pub returns-clause-replaced : goal.returns-clause-replaced
returns-clause-replaced c =
    let within = within_seen c.args.self.now c.self.inside.paths.keys c.self.inside.files.items c.self.inside.documents.items c.self.inside.pool c.self.view_is c.args.at c.requires.there in
    replaced_member c.self.inside.paths.keys c.self.inside.files.items c.self.inside.documents.items c.self.inside.pool c.self.invariant.0 c.args.at c.index-old.result.now within c.index-old.ensures _ _ _ _ c.in_ok-file.ensures.taken c.let_go.ensures
    c.args.self.now c.self.view_is
