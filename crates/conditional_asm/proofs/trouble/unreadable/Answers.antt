use Rattle.std.proofs.Common.{◌≡◌, ◌∙◌, ◌++◌, subst, List, ℕ, IfOk}
use Rattle.std.specs.Prelude.{codes}
use Rattle.std.specs.Str.{chars}
use Rattle.hl_base.specs.declared.note.Severity.TheVariants.{Error}
use Rattle.cond_expr.specs.Troubles.{note}
use Rattle.conditional_asm.proofs.trouble.unreadable.Goals as goal

pub returns : goal.returns
unfolding chars
returns c =
    subst (λ (place : List ℕ). IfOk c.note.result (λ n. n ≡ note 10 Error ((codes "the operand cannot be read at character " ++ chars place) ++ codes "")))
    (c.as_str.ensures.value ∙ c.in_ok-place.ensures.ok) c.note.ensures
