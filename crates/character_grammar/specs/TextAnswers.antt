-- Where the reading of a character expression stops (this project). No public contract speaks of it.
use Rattle.std.specs.Prelude.{◌≡◌, None}
use Rattle.expression_grammar.specs.declared.fault.SyntaxFault.{SyntaxFault}
use Rattle.expression_grammar.specs.declared.fault.SyntaxFault.TheVariants.{At, OutOfMemory}
use Rattle.expression_grammar.specs.Spelling.{Placed, most_parts}
use Rattle.character_grammar.specs.TextReading.{TextState, text_advance}

-- no state follows with this character
abbrev pub TextStops : TextState → Placed → SyntaxFault → Type 0
TextStops state p (At count) = (count ≡ p.at) × (text_advance most_parts state p ≡ None)
TextStops state p OutOfMemory = Unit {0}
