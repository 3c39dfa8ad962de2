use Rattle.std.proofs.Common.{◌≡◌, ◌++◌, length, map}
use Rattle.section_layout.specs.Views.{lines_of, met_of}
use Rattle.section_layout.specs.Walks.{all_met, all_behind}
use Rattle.section_steps.specs.Views.{state_of}
use Rattle.section_layout.proofs.walk.meet_all.Given as goal

-- what there is so far, and then what there is of the lines that are left
abbrev pub invariant-loop-lines : goal.invariant-loop-lines
invariant-loop-lines l = record {
  behind : all_behind (lines_of l.lines) (state_of l.state) ≡ all_behind (lines_of l.initial.lines) (state_of l.initial.state);
  met : map met_of l.all.items ++ all_met (lines_of l.lines) (state_of l.state)
      ≡ all_met (lines_of l.initial.lines) (state_of l.initial.state);
}

abbrev pub decreases-loop-lines : goal.decreases-loop-lines
decreases-loop-lines l = length l.lines
