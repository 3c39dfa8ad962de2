use Rattle.std.proofs.Common.{ap, sym, subst, ◌∙◌, Some, List, ℕ, length, ◌≤◌}
use Rattle.std.specs.Prelude.{chars}
use Rattle.document_store.specs.Store.{number_of}
use Rattle.document_store.specs.Inside.{paths_in}
use Rattle.document_store.proofs.DocumentLemmas.{with_path-known, with_path-new, number_of-last}
use Rattle.document_store.proofs.PathLemmas.{length-paths_in}
use Rattle.document_store.proofs.paths.number_for.Goals as goal

pub returns-in-Some-clause-few : goal.returns-in-Some-clause-few
returns-in-Some-clause-few c =
    let paths = paths_in c.args.paths.now.keys in
    subst (λ (ps : List (List ℕ)). length ps ≤ 4294967296)
    (sym (with_path-known paths (chars c.args.path.now) c.in-Some.number (sym c.number_in.ensures ∙ c.in-Some.is)))
    (subst (λ (n : ℕ). n ≤ 4294967296) (sym (length-paths_in c.args.paths.now.keys)) c.requires)

pub returns-in-Ok-clause-number : goal.returns-in-Ok-clause-number
returns-in-Ok-clause-number c =
    let paths = paths_in c.args.paths.now.keys in
    ap (λ ps. number_of ps (chars c.args.path.now)) (with_path-new paths (chars c.args.path.now) (sym c.number_in.ensures ∙ c.in-None.is))
    ∙ number_of-last paths (chars c.args.path.now) (sym c.number_in.ensures ∙ c.in-None.is)
    ∙ ap Some (length-paths_in c.args.paths.now.keys ∙ sym c.len.ensures.len ∙ sym c.in-Ok.ensures.1)
