use Rattle.std.proofs.Common.{◌≡◌, length, take}
use Rattle.std.specs.Str.{chars}
use Rattle.expression_grammar.specs.Spelling.{most_parts}
use Rattle.character_grammar.specs.TextReading.{TextReaches, text_weight}
use Rattle.character_grammar.specs.TextViews.{text_state}
use Rattle.character_grammar.proofs.parse_text.parse_char.Given as goal

abbrev pub invariant-loop-c : goal.invariant-loop-c
invariant-loop-c l =
    (l.at ≡ length l.yielded)
    × TextReaches most_parts (take (length l.yielded) (chars l.text)) (text_state l.progress.point)
    × (l.progress.weight ≡ text_weight (text_state l.progress.point))
