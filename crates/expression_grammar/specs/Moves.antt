-- What one character does to the reader of expressions, and what reading a text answers (this project).
use Rattle.std.specs.Prelude.{◌≡◌, ℕ, ◌+◌, List, Option, Some, None}
use Rattle.expression_grammar.specs.declared.reader.Moved.{Moved}
use Rattle.expression_grammar.specs.Reading.{Layer, State, weight}
use Rattle.expression_grammar.specs.Stacks.{stand}

-- the state that follows, if one does, and by how much larger it is
abbrev pub Moves : Option State → ℕ → Option Moved → List Layer → Type 0
Moves found before None layers = found ≡ None
Moves found before (Some moved) layers = (found ≡ Some (stand moved.point layers)) × (weight (stand moved.point layers) ≡ before + moved.more)
