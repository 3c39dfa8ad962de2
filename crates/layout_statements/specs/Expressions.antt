-- Expressions of a statement as they are read (HLASM Language Reference SC26-4940, "Expressions", "Location counter
-- reference").
use Rattle.std.specs.Prelude.{ℕ, ◌||◌, Bool, true, false, List, [], ◌∷◌, Option, Some, None, Result, Ok, Err, slice_get}
use Rattle.expression_grammar.specs.declared.character.Grammar.TheVariants.{Ordinary}
use Rattle.expression_grammar.specs.Readings.{read}
use Rattle.expression_grammar.specs.Trees.{Tree, Here, Signed, Pair, Paren}

-- the tree of an expression, or how far it can be read
abbrev pub reading : List ℕ → Result Tree ℕ
reading text = read Ordinary text

-- an operand that may be left away: an empty one is none
abbrev pub if_some : List ℕ → Option (Result Tree ℕ)
if_some [] = None
if_some (c ∷ text) = Some (reading (c ∷ text))

abbrev pub if_there : Option (List ℕ) → Option (Result Tree ℕ)
if_there None = None
if_there (Some operand) = if_some operand

-- the operand at a place, if there is one that is not empty
abbrev pub reading_at : ℕ → List (List ℕ) → Option (Result Tree ℕ)
reading_at place operands = if_there (slice_get operands place)

-- whether `*` is a term of an expression
abbrev pub mentions_place : Tree → Bool
mentions_place Here = true
mentions_place (Signed sign operand) = mentions_place operand
mentions_place (Pair operator left right) = mentions_place left || mentions_place right
mentions_place (Paren inner) = mentions_place inner
mentions_place other = false

-- whether `*` is a term of what was read, if it was
abbrev pub reads_place : Result Tree ℕ → Bool
reads_place (Ok tree) = mentions_place tree
reads_place (Err at) = false

abbrev pub text_reads_place : List ℕ → Bool
text_reads_place text = reads_place (reading text)
