use Rattle.std.proofs.Common.{◌≡◌, ℕ, take}
use Rattle.std.specs.Map.{lookup}
use Rattle.text_lists.specs.Lists.{number_in}
use Rattle.text_lists.specs.Numbers.{is_line}
use Rattle.text_lists.proofs.list.numbers_of.Given as goal

-- the numbers of the lines in which the statements so far begin
abbrev pub invariant-loop-number : goal.invariant-loop-number
invariant-loop-number l = (line : ℕ) → lookup (is_line line) l.found.entries ≡ number_in line (take l.number l.lines)
