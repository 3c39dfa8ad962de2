use Rattle.std.proofs.Common.{◌∙◌, ap, subst, List, length, get_or, ◌<◌, ◌≤◌, ◌≡◌}
use Rattle.document_store.specs.declared.kept.KeptDocument.{KeptDocument}
use Rattle.document_store.proofs.ShowLemmas.{shown_is, shown_none}
use Rattle.document_store.proofs.store.DocumentStore.shown.Goals as goal

pub returns-in-Some : goal.returns-in-Some
returns-in-Some c =
    let lookup = c.in-Some.ensures.lookup in
    let here : c.in-Some.kept.now ≡ get_or c.deref.result.now c.args.at c.in-Some.kept.now = lookup.1 in
    shown_is c.args.self.now c.self.inside.paths.keys c.self.inside.files.items c.self.inside.documents.items c.self.inside.pool c.self.view_is c.self.invariant.0 c.args.at c.in-Some.kept.now c.shown.result
    (subst (λ (ks : List KeptDocument). c.args.at < length ks) c.deref.ensures.value lookup.3.0)
    (here ∙ ap (λ ks. get_or ks c.args.at c.in-Some.kept.now) c.deref.ensures.value)
    c.shown.ensures.path c.shown.ensures.uri c.shown.ensures.language c.shown.ensures.version

pub returns-in-None : goal.returns-in-None
returns-in-None c =
    shown_none c.args.self.now c.self.inside.paths.keys c.self.inside.files.items c.self.inside.documents.items c.self.inside.pool c.self.view_is c.args.at
    (subst (λ (ks : List KeptDocument). length ks ≤ c.args.at) c.deref.ensures.value c.in-None.ensures.lookup.3)
