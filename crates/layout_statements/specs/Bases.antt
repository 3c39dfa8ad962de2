-- Whether USING and DROP need a place (HLASM Language Reference SC26-4940, "USING instruction", "Location counter reference"):
-- where `*` is a term of an operand, or of a base or an end in a list of two.
use Rattle.std.specs.Prelude.{ℕ, ◌==◌, ◌||◌, Bool, false, List, [], ◌∷◌, length, Option, Some, None, if◌then◌else◌}
use Rattle.std.specs.List.{list_any}
use Rattle.operand_list.specs.SplitSublist.{elements_of}
use Rattle.layout_statements.specs.Expressions.{text_reads_place}

abbrev pub any_reads_place : List (List ℕ) → Bool
any_reads_place texts = list_any text_reads_place texts

abbrev pub elements_read_place : Option (List (List ℕ)) → Bool
elements_read_place None = false
elements_read_place (Some elements) = if length elements == 2 then any_reads_place elements else false

abbrev pub pair_reads_place : List ℕ → Bool
pair_reads_place text = elements_read_place (elements_of text)

abbrev pub using_reads_place : List (List ℕ) → Bool
using_reads_place [] = false
using_reads_place (first ∷ others) = pair_reads_place first || any_reads_place (first ∷ others)
