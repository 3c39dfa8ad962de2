-- Texts and their characters.
use Rattle.std.proofs.Common.{◌≡◌, ℕ, List, [], ◌∷◌, None}
use Rattle.std.specs.Prelude.{slice_get}
use Rattle.std.specs.Str.{chars}
use Rattle.std.proofs.lemmas.Str.{chars-nil}
use Rattle.layout_statements.specs.Equates.{first_in}

-- where there is no operand the first one is empty
pub first-none : (texts : List (List ℕ)) → None ≡ slice_get texts 0 → chars [] ≡ first_in texts
first-none [] h = chars-nil
first-none (text ∷ texts) h = absurd cc
