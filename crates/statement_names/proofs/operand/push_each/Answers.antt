use Rattle.std.proofs.Common.{◌+◌, ◌++◌, ◌∙◌, length, ap}
use Rattle.std.specs.Str.{chars}
use Rattle.statement_names.specs.Operands.{operand_names}
use Rattle.statement_names.proofs.OperandLaws.{operands-more, operands-end}
use Rattle.statement_names.proofs.operand.push_each.Goals as goal

pub loop-text-preserved : goal.loop-text-preserved
loop-text-preserved c =
    operands-more c.args.used c.loop-text.at c.in_ok-next.next c.loop-text.found c.push_operand.new.found c.args.texts.now c.loop-text.text-index c.text-item.result _
    c.loop-text.invariant c.loop-text-test.true c.text-item.is
    (c.in_ok-push_operand.ensures ∙ ap (λ t. c.loop-text.found ++ operand_names c.args.used c.loop-text.at t) c.as_str-operand.ensures.characters)
    (c.in_ok-next.ensures ∙ ap (λ t. c.loop-text.at + length t + 1) c.as_str-operand.ensures.characters)

pub returns : goal.returns
returns c =
    operands-end c.args.used c.loop-text.at c.loop-text.found c.args.texts.now c.loop-text.text-index _ c.loop-text.invariant c.loop-text-test.false
