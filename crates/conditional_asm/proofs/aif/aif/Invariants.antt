use Rattle.std.proofs.Common.{List, drop, Result}
use Rattle.std.specs.Prelude.{map}
use Rattle.statement_reading.specs.Views.{choice_of}
use Rattle.hl_base.specs.declared.note.Note.{Note}
use Rattle.cond_expr.specs.declared.stop.Stop.{Stop}
use Rattle.cond_expr.specs.Outcome.{Tells}
use Rattle.conditional_asm.specs.declared.act.Act.{Act}
use Rattle.conditional_asm.specs.Branching.{by_first_true}
use Rattle.conditional_asm.proofs.aif.aif.Given as goal

-- what is told of the pairs that are left is told of all
abbrev pub invariant-loop-pair : goal.invariant-loop-pair
invariant-loop-pair g l =
    (after : List Note) (r : Result Act Stop) → Tells (by_first_true (map choice_of (drop l.pair-index l.pairs)) (g.Q.Lookups.told l.fn.q)) l.notes after r
    → Tells (by_first_true (map choice_of l.pairs) (g.Q.Lookups.told l.fn.q)) l.fn.notes after r
