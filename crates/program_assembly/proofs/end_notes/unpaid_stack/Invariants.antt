use Rattle.std.proofs.Common.{◌≡◌, ◌≤◌, length, drop}
use Rattle.program_assembly.specs.Notes.{unpaid_stack}
use Rattle.program_assembly.proofs.end_notes.unpaid_stack.Given as goal

-- the frames of the calls further out are there
abbrev pub invariant-loop-inside : goal.invariant-loop-inside
invariant-loop-inside l = (l.inside ≤ length l.unpaid) × (l.stack ≡ unpaid_stack (drop l.inside l.unpaid))

abbrev pub decreases-loop-inside : goal.decreases-loop-inside
decreases-loop-inside l = l.inside
