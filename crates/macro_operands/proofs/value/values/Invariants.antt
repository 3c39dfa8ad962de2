use Rattle.std.proofs.Common.{ℕ, List, Option, drop, Result}
use Rattle.hl_base.specs.declared.note.Note.{Note}
use Rattle.cond_expr.specs.declared.stop.Stop.{Stop}
use Rattle.cond_expr.specs.Outcome.{Tells}
use Rattle.macro_operands.specs.Calling.{values}
use Rattle.macro_operands.proofs.CallLaws.{behind}
use Rattle.macro_operands.proofs.value.values.Given as goal

-- what is told of the texts that are left, behind the values so far, is told of all
abbrev pub invariant-loop-text : goal.invariant-loop-text
invariant-loop-text g l =
    (after : List Note) (r : Result (Option (List (List ℕ))) Stop) → Tells (behind l.done (values (drop l.text-index l.texts) (g.Q.Lookups.told l.fn.q))) l.notes after r
    → Tells (values l.texts (g.Q.Lookups.told l.fn.q)) l.fn.notes after r
