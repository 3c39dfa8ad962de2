use Rattle.std.proofs.Common.{ap}
use Rattle.io_edge.proofs.ToldLaws.{HasCause-of_Err}
use Rattle.io_edge.proofs.std_source.StdSourceSource.take.Goals as goal

-- the fault of the reading is the fault of the take
pub returns-in_err-fill-clause-cause : goal.returns-in_err-fill-clause-cause
returns-in_err-fill-clause-cause g c =
    HasCause-of_Err _ _ c.in_err-fill.field-0.0 _
    (rw (ap (λ s. s.refusals) c.waiting.ensures.kept) at c.in_err-fill.ensures.cause)
