use Rattle.std.proofs.Common.{[], drop}
use Rattle.operand_list.specs.Split.{parts}
use Rattle.plain_fields.specs.Cutting.{IsCut}
use Rattle.plain_fields.proofs.split.split_plain.Given as goal

-- the operands so far and those of what is left are those of the field
abbrev pub invariant-loop-byte : goal.invariant-loop-byte
invariant-loop-byte l = IsCut l.cutting (drop l.byte-index l.field) (parts 0 [] l.field)
