use Rattle.std.proofs.Common.{◌≡◌, length}
use Rattle.macro_library.specs.Definitions.{is_open}
use Rattle.macro_expand.specs.Passages.{copied_in}
use Rattle.macro_expand.proofs.passage.copies_one.Given as goal

-- what is left tells what the whole does
abbrev pub invariant-loop-left : goal.invariant-loop-left
invariant-loop-left l = is_open (copied_in l.left) l.name ≡ is_open (copied_in l.frames) l.name

abbrev pub decreases-loop-left : goal.decreases-loop-left
decreases-loop-left l = length l.left
