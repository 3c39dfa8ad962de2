use Rattle.std.proofs.Common.{◌≡◌, drop, length}
use Rattle.std.specs.Str.{chars}
use Rattle.kept_values.specs.Trees.{number_from}
use Rattle.kept_values.specs.Lists.{list_tree}
use Rattle.kept_values.proofs.number.text_number.Given as goal

-- the characters that are left bring the number of what was read to that of the whole
abbrev pub invariant-loop-character : goal.invariant-loop-character
invariant-loop-character l =
    number_from l.number (list_tree (drop (length l.yielded) (chars l.text))) ≡ number_from l.start (list_tree (chars l.text))
