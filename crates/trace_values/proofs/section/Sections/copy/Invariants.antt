use Rattle.std.proofs.Common.{◌≡◌, take}
use Rattle.trace_values.proofs.section.Sections.copy.Given as goal

-- the sections so far are copied
abbrev pub invariant-loop-section : goal.invariant-loop-section
invariant-loop-section l = l.sections.items ≡ take l.section-index l.section-items
