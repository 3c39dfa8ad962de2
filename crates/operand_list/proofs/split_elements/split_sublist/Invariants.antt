use Rattle.std.proofs.Common.{length, drop}
use Rattle.std.specs.Prelude.{chars}
use Rattle.operand_list.specs.SplitSublist.{IsListed, elements_of}
use Rattle.operand_list.proofs.split_elements.split_sublist.Given as goal

-- the elements by what was read and what is left are those of the text
abbrev pub invariant-loop-c : goal.invariant-loop-c
invariant-loop-c l = IsListed l.sublist.stage l.sublist.parting (drop (length l.yielded) (chars l.text)) (elements_of (chars l.text))
