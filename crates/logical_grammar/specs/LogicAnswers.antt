-- Where the reading of a logical expression stops (this project). No public contract speaks of it.
use Rattle.std.specs.Prelude.{◌≡◌, None}
use Rattle.expression_grammar.specs.declared.fault.SyntaxFault.{SyntaxFault}
use Rattle.expression_grammar.specs.declared.fault.SyntaxFault.TheVariants.{At, OutOfMemory}
use Rattle.expression_grammar.specs.Spelling.{Placed, most_parts}
use Rattle.logical_grammar.specs.LogicReading.{LogicState, logic_advance}

-- no state follows with this character
abbrev pub LogicStops : LogicState → Placed → SyntaxFault → Type 0
LogicStops state p (At count) = (count ≡ p.at) × (logic_advance most_parts state p ≡ None)
LogicStops state p OutOfMemory = Unit {0}
