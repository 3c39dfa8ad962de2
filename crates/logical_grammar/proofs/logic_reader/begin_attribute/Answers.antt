use Rattle.std.proofs.Common.{[]}
use Rattle.expression_grammar.specs.Stacks.{stack_of}
use Rattle.logical_grammar.proofs.LogicMoveLaws.{attribute_stops, attribute_goes_on}
use Rattle.logical_grammar.proofs.logic_reader.begin_attribute.Goals as goal

pub returns-in-Some-2 : goal.returns-in-Some-2
returns-in-Some-2 c = λ layers.
    attribute_goes_on (record { at = c.args.place; code = c.args.first }) (record { at = c.args.at; code = c.args.c }) c.in-Some.letter c.new-stack.result.items (stack_of c.step.new.stack.items []) c.in_ok-letter.field-0 c.in_ok-next.field-0 c.in-Some-2.next
    c.logic_moved.result c.from.result layers c.new-stack.ensures.items c.in_ok-letter.ensures c.in-Some.is c.in_ok-next.ensures.moves c.in-Some-2.is c.from.ensures c.logic_moved.ensures

pub returns-in-None-2 : goal.returns-in-None-2
returns-in-None-2 c = λ layers.
    attribute_stops (record { at = c.args.place; code = c.args.first }) (record { at = c.args.at; code = c.args.c }) c.in-Some.letter c.new-stack.result.items (stack_of c.step.new.stack.items []) c.in_ok-letter.field-0 c.in_ok-next.field-0
    layers c.new-stack.ensures.items c.in_ok-letter.ensures c.in-Some.is c.in_ok-next.ensures.moves c.in-None-2.is
