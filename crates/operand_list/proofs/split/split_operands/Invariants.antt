use Rattle.std.proofs.Common.{[], length, drop}
use Rattle.std.specs.Prelude.{chars}
use Rattle.operand_list.specs.Split.{IsParted, parts}
use Rattle.operand_list.proofs.split.split_operands.Given as goal

-- the operands so far and those of what is left are those of the text
abbrev pub invariant-loop-c : goal.invariant-loop-c
invariant-loop-c l = IsParted 0 l.parting (drop (length l.yielded) (chars l.text)) (parts 0 [] (chars l.text))
