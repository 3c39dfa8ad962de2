use Rattle.std.proofs.Common.{ℕ, subst, sym}
use Rattle.std.specs.Str.{chars}
use Rattle.expression_grammar.specs.Views.{tree_of}
use Rattle.conditional_fields.specs.Fronts.{IsReach}
use Rattle.conditional_fields.proofs.FrontLaws.{whole_reach}
use Rattle.conditional_fields.proofs.front.reach.Goals as goal

pub returns-in_ok-count-in-Ok : goal.returns-in_ok-count-in-Ok
returns-in_ok-count-in-Ok c =
    subst (λ (n : ℕ). IsReach c.args.sought (chars c.args.text.now) n) (sym c.in_ok-count-in-Ok.ensures)
    (whole_reach c.args.sought (chars c.args.text.now) (tree_of c.in-Ok._tree) c.in-Ok.ensures)
