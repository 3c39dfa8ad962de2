use Rattle.std.proofs.Common.{◌≡◌, ◌∙◌, is_some, true, false, sym, ap}
use Rattle.std.specs.Str.{chars}
use Rattle.std.proofs.lemmas.Result.{IfOk-weaker}
use Rattle.constant_operands.specs.declared.operand.ConstantUse.TheVariants as used
use Rattle.constant_operands.specs.Operands.{Operand, operand}
use Rattle.literal_operands.specs.Literals.{literal, up_to}
use Rattle.literal_operands.specs.Views.{literal_of}
use Rattle.literal_operands.proofs.LiteralLaws.{literal-whole, literal-up_to}
use Rattle.literal_operands.proofs.literal.literal.Goals as goal

pub returns-then-is_read : goal.returns-then-is_read
returns-then-is_read c =
    let some : is_some (operand used.Literal (chars c.args.body.now)).constant ≡ true =
    ap (λ (o : Operand). is_some o.constant) (sym c.in_ok-constant.ensures) ∙ sym c.is_read.ensures ∙ c.if-is_read.true in
    c.whole.ensures ∙ sym (literal-whole (chars c.args.body.now) some)

pub returns : goal.returns
returns c =
    let body = chars c.args.body.now in
    let none : is_some (operand used.Literal body).constant ≡ false =
    ap (λ (o : Operand). is_some o.constant) (sym c.in_ok-constant.ensures) ∙ sym c.is_read.ensures ∙ c.if-is_read.false in
    IfOk-weaker c.up_to.result
    (λ found. literal_of found ≡ up_to c.in_ok-pair.pair body)
    (λ found. literal_of found ≡ literal body)
    (λ found is. is ∙ sym (literal-up_to body c.in_ok-pair.pair none c.in_ok-pair.ensures))
    c.up_to.ensures
