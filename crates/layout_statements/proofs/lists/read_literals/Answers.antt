use Rattle.std.proofs.Common.{◌∙◌, ◌++◌, map, ap}
use Rattle.layout_statements.specs.Lists.{literal, listed}
use Rattle.layout_statements.specs.Views.{read_literal_of}
use Rattle.layout_statements.proofs.Maps.{literals_more}
use Rattle.layout_statements.proofs.lists.read_literals.Goals as goal

pub loop-operand-preserved : goal.loop-operand-preserved
loop-operand-preserved c =
    let made = map read_literal_of c.loop-operand.literals.items in
    literals_more made (map read_literal_of c.push_literal.new.literals.items) c.args.operands.now c.loop-operand.operand-index c.operand-item.result
    c.loop-operand.invariant
    (c.in_ok-push_literal.ensures ∙ ap (λ text. made ++ listed (literal text)) c.as_str.ensures.characters)
    c.loop-operand-test.true
    c.operand-item.is
