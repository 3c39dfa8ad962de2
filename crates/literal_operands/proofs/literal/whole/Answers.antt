use Rattle.std.proofs.Common.{◌∙◌, List, ℕ, [], ap}
use Rattle.std.specs.Str.{chars}
use Rattle.std.proofs.lemmas.Str.{chars-nil}
use Rattle.constant_operands.specs.declared.operand.ConstantUse.TheVariants as used
use Rattle.constant_operands.specs.Operands.{Operand, operand}
use Rattle.literal_operands.specs.Literals.{Literal}
use Rattle.literal_operands.proofs.literal.whole.Goals as goal

abbrev made : List ℕ → Operand → List ℕ → Literal
made text constant behind = record { text = text; constant = constant; behind = behind }

pub returns : goal.returns
returns c =
    let text = chars c.args.body.now in
    ap (λ constant. made text constant (chars [])) c.requires ∙ ap (made text (operand used.Literal text)) chars-nil
