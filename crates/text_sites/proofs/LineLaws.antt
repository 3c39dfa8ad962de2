-- Lines by their numbers.
use Rattle.std.proofs.Common.{◌≡◌, ℕ, zero, suc, List, [], Option, Some, None, refl, ap, ◌∙◌}
use Rattle.std.specs.Prelude.{slice_get, unwrap_or}
use Rattle.std.proofs.lemmas.Option.{unwrap_or-slice_get}
use Rattle.hl_base.specs.Texts.{lines}
use Rattle.document_store.specs.Positions.{line_of}

-- the line that a look-up found
pub line_found : (text found : List ℕ) (line : ℕ) → Some found ≡ slice_get (lines text) line → found ≡ line_of text line
line_found text found line is = ap (λ (f : Option (List ℕ)). unwrap_or f []) is ∙ unwrap_or-slice_get (lines text) line []

-- past the last line there is nothing
pub line_past : (text : List ℕ) (line : ℕ) → None ≡ slice_get (lines text) line → [] ≡ line_of text line
line_past text line is = ap (λ (f : Option (List ℕ)). unwrap_or f []) is ∙ unwrap_or-slice_get (lines text) line []

-- nor is there in the empty text
pub line_of-nil : (line : ℕ) → [] ≡ line_of [] line
unfolding lines
line_of-nil zero = refl
line_of-nil (suc line) = refl
