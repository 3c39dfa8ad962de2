use Rattle.std.proofs.Common.{◌≡◌, length}
use Rattle.std.specs.List.{list_any}
use Rattle.hlasm_statements.specs.Faults.{has_margin_text}
use Rattle.hlasm_statements.specs.Reading.{bodies_of}
use Rattle.hlasm_statements.proofs.build.have_margin_text.Given as goal

-- the lines that are left have such text where all of them do
abbrev pub invariant-loop-rest : goal.invariant-loop-rest
invariant-loop-rest l = list_any has_margin_text (bodies_of l.rest) ≡ list_any has_margin_text (bodies_of l.initial.rest)

abbrev pub decreases-loop-rest : goal.decreases-loop-rest
decreases-loop-rest l = length l.rest
