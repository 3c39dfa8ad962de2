use Rattle.std.proofs.Common.{ℕ, List, drop, Result}
use Rattle.hl_base.specs.declared.note.Note.{Note}
use Rattle.std.specs.Prelude.{map}
use Rattle.cond_expr.specs.declared.stop.Stop.{Stop}
use Rattle.cond_expr.specs.Outcome.{Tells}
use Rattle.statement_reading.specs.Views.{part_of}
use Rattle.conditional_asm.specs.Substitution.{substituted}
use Rattle.conditional_asm.proofs.SubstitutionLaws.{behind_text}
use Rattle.conditional_asm.proofs.substitution.pieces_text.Given as goal

-- what is told of the rest behind the text so far is told of the whole
abbrev pub invariant-loop-piece : goal.invariant-loop-piece
invariant-loop-piece g l =
    (after : List Note) (r : Result (List ℕ) Stop) → Tells (behind_text l.whole (substituted (map part_of (drop l.piece-index l.pieces)) (g.Q.Lookups.told l.fn.q))) l.notes after r
    → Tells (substituted (map part_of l.pieces) (g.Q.Lookups.told l.fn.q)) l.fn.notes after r
