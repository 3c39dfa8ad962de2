use Rattle.std.proofs.Common.{◌≡◌, length}
use Rattle.instruction_table.specs.Others.{meaning_in, pairs}
use Rattle.instruction_table.proofs.table.meaning_in.Given as goal

-- what is looked for is found in the rows that are left as in all of them
abbrev pub invariant-loop-rows : goal.invariant-loop-rows
invariant-loop-rows l = meaning_in l.name (pairs l.rows) ≡ meaning_in l.name (pairs l.initial.rows)

abbrev pub decreases-loop-rows : goal.decreases-loop-rows
decreases-loop-rows l = length l.rows
