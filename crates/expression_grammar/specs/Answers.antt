-- What reading an expression answers (this project): its tree, or how far some expression begins so.
use Rattle.std.specs.Prelude.{◌≡◌, ℕ, List, None}
use Rattle.expression_grammar.specs.declared.character.Grammar.{Grammar}
use Rattle.expression_grammar.specs.declared.fault.SyntaxFault.{SyntaxFault}
use Rattle.expression_grammar.specs.declared.fault.SyntaxFault.TheVariants.{At, OutOfMemory}
use Rattle.expression_grammar.specs.Trees.{Tree}
use Rattle.expression_grammar.specs.Spelling.{Placed, IsAt, most_parts}
use Rattle.expression_grammar.specs.Reading.{State, advance}

-- A text is no expression, and the fault says how long its longest prefix is that some expression begins with; only want
-- of memory is no word on the text.
abbrev pub IsFault : (List ℕ → Tree → Type 0) → List ℕ → SyntaxFault → Type 0
IsFault Written text (At count) = IsAt Written most_parts text count
IsFault Written text OutOfMemory = Unit {0}

-- no state follows with this character
abbrev pub Stops : Grammar → State → Placed → SyntaxFault → Type 0
Stops g state p (At count) = (count ≡ p.at) × (advance g most_parts state p ≡ None)
Stops g state p OutOfMemory = Unit {0}
