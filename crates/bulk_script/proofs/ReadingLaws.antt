-- A body reads as its value (this project).
use Rattle.std.proofs.Common.{◌≡◌, ◌≤◌, ℕ, List, Some, sym, ap, subst, ◌∙◌}
use Rattle.serde_json.specs.Data.{Data, depth}
use Rattle.serde_json.specs.Read.{max_depth}
use Rattle.json_view.specs.Texts.{reading}

pub reads_as : (bytes : List ℕ) (d e : Data) → d ≡ e → depth e ≤ max_depth → (depth d ≤ max_depth → reading bytes ≡ Some d) → reading bytes ≡ Some e
reads_as bytes d e is low reads = reads (subst (λ x. depth x ≤ max_depth) (sym is) low) ∙ ap (λ x. Some x) is
