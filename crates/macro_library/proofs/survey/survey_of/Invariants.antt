use Rattle.std.proofs.Common.{◌≡◌, ◌||◌, length, map}
use Rattle.std.specs.Prelude.{fold}
use Rattle.macro_library.specs.Contents.{written, written_number}
use Rattle.macro_library.specs.Later.{copies_from, copies_later}
use Rattle.macro_library.specs.Variables.{joined, variables_from, variables_of}
use Rattle.macro_library.proofs.survey.survey_of.Given as goal

-- what is known so far and what the lines that are left say come to what is known of the whole
abbrev pub invariant-loop-left : goal.invariant-loop-left
invariant-loop-left l =
    (variables_of l.lines ≡ joined l.variables (variables_from l.begun l.left))
    × (copies_later l.lines ≡ l.copies_later || copies_from l.begun l.left)
    × (fold written_number l.number (map written l.left) ≡ fold written_number l.start (map written l.lines))

abbrev pub decreases-loop-left : goal.decreases-loop-left
decreases-loop-left l = length l.left
