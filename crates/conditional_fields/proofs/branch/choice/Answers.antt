use Rattle.std.proofs.Common.{ℕ, List, subst}
use Rattle.std.specs.Prelude.{Option}
use Rattle.std.specs.Str.{chars}
use Rattle.expression_grammar.specs.declared.front.Front.{Front}
use Rattle.conditional_fields.specs.Branches.{IsReachFault}
use Rattle.conditional_fields.specs.Fronts.{IsNeverClosed}
use Rattle.conditional_fields.specs.Tries.{IsFront}
use Rattle.conditional_fields.proofs.BranchLaws.{inner_fault}
use Rattle.conditional_fields.proofs.branch.choice.Goals as goal

pub returns-in-None : goal.returns-in-None
returns-in-None c =
    inner_fault c.args.sought (chars c.args.operand.now) c.inner_fault.result
    (subst (λ (text : List ℕ). IsNeverClosed c.args.sought text) c.behind-inner.ensures
    (subst (λ (o : Option Front). IsFront c.args.sought (chars c.behind-inner.result.now) o) c.in-None.is c.in_ok-front.ensures))
    (subst (λ (text : List ℕ). IsReachFault c.args.sought text c.inner_fault.result) c.behind-inner.ensures c.inner_fault.ensures)
