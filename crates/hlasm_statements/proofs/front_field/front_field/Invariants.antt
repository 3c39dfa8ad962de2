use Rattle.std.proofs.Common.{◌≤◌, ◌-◌, length, take}
use Rattle.hlasm_statements.proofs.FrontFieldLaws.{IsSeeing}
use Rattle.hlasm_statements.proofs.front_field.front_field.Given as goal

-- the bytes so far go on with the field
abbrev pub invariant-loop-count : goal.invariant-loop-count
invariant-loop-count l = IsSeeing l.keeps_groups l.sight (take l.count l.bytes) × (l.count ≤ length l.bytes)

abbrev pub decreases-loop-count : goal.decreases-loop-count
decreases-loop-count l = length l.bytes - l.count
