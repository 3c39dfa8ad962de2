use Rattle.std.proofs.Common.{◌≡◌, ◌++◌, drop}
use Rattle.conditional_asm.specs.Repeating.{once}
use Rattle.conditional_asm.proofs.RepeatingLaws.{once_behind}
use Rattle.conditional_asm.proofs.repeating.once.Given as goal

-- what is left so far, and of the rest, is what is left of all
abbrev pub invariant-loop-note : goal.invariant-loop-note
invariant-loop-note l = l.left ++ once_behind l.left (drop l.note-index l.note-items) ≡ once l.note-items
