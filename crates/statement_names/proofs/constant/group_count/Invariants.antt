use Rattle.std.proofs.Common.{[], length}
use denote.Text.{Utf8}
use denote.Shadow.{shadow}
use Rattle.std.specs.Str.{chars}
use Rattle.statement_names.specs.Constants.{group_from}
use Rattle.statement_names.specs.Scans.{IsGrouped}
use Rattle.statement_names.proofs.constant.group_count.Given as goal

-- what was read and what is left come to the same number
abbrev pub invariant-loop-c : goal.invariant-loop-c
invariant-loop-c l = shadow (Utf8 l.left) × IsGrouped l.nesting l.count (chars l.left) (group_from [] (chars l.text))

abbrev pub decreases-loop-c : goal.decreases-loop-c
decreases-loop-c l = length (chars l.left)
