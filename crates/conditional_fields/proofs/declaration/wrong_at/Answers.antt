use Rattle.std.proofs.Common.{◌+◌, Bool, refl}
use Rattle.std.specs.Prelude.{Err}
use Rattle.conditional_fields.proofs.AnswerLaws.{placed_says}
use Rattle.conditional_fields.proofs.declaration.wrong_at.Goals as goal

pub returns : goal.returns
returns c = placed_says (λ (b : Bool). b) (Err (c.args.before + c.args.more)) (c.args.before + c.args.more) c.fault_at.result refl c.fault_at.ensures
