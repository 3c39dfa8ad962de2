-- The variable symbol that a text begins with (HLASM Language Reference SC26-4940, "Variable symbols", "Subscripted SET
-- symbols").
use Rattle.std.specs.Prelude.{ℕ, ◌+◌, Bool, true, false, List, length, take, Option, Some, None, Result, Ok, Err, if◌then◌else◌}
use Rattle.expression_grammar.specs.declared.character.Grammar.TheVariants.{Arithmetic}
use Rattle.expression_grammar.specs.Readings.{Front, read, read_variable}
use Rattle.expression_grammar.specs.Trees.{Tree}
use Rattle.conditional_fields.specs.Fronts.{is_variable}
use Rattle.conditional_fields.specs.Templates.{bare_length, has_subscripts}

-- a variable symbol at the front of a text, and how many characters it has
pub record Found : Type 0 where
  pub tree : Tree
  pub count : ℕ

-- with subscripts its last character is their closing parenthesis
abbrev pub closed : Result Front ℕ → Option Found
closed (Ok front) = Some (record { tree = front.tree; count = front.before + 1 })
closed (Err at) = None

-- without subscripts it has so many characters
abbrev pub bare : ℕ → Result Tree ℕ → Option Found
bare count (Ok tree) = if is_variable tree then Some (record { tree = tree; count = count }) else None
bare count (Err at) = None

abbrev pub symbol_with : (subscripts : Bool) → List ℕ → Option Found
symbol_with true text = closed (read_variable text)
symbol_with false text = bare (bare_length text) (read Arithmetic (take (bare_length text) text))

-- the variable symbol that a text begins with
abbrev pub symbol : List ℕ → Option Found
symbol text = symbol_with (has_subscripts text) text

-- all characters of an expression, or as many as some expression begins with
abbrev pub reach_of : ℕ → Result Tree ℕ → ℕ
reach_of all (Ok tree) = all
reach_of all (Err at) = at

-- how many characters of a text some arithmetic expression begins with
abbrev pub reach : List ℕ → ℕ
reach text = reach_of (length text) (read Arithmetic text)
