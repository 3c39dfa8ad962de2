use Rattle.std.specs.Str.{chars}
use Rattle.conditional_fields.proofs.FrontLaws.{number_front, condition_front, variable_front}
use Rattle.conditional_fields.proofs.front.read_front.Goals as goal

pub returns-in-Number : goal.returns-in-Number
returns-in-Number c = number_front c.args.sought (chars c.args.text.now) c.parse_front.result c.in-Number.is c.parse_front.ensures.front

pub returns-in-Condition : goal.returns-in-Condition
returns-in-Condition c = condition_front c.args.sought (chars c.args.text.now) c.parse_logic_front.result c.in-Condition.is c.parse_logic_front.ensures.front

pub returns-in-Variable : goal.returns-in-Variable
returns-in-Variable c = variable_front c.args.sought (chars c.args.text.now) c.parse_variable.result c.in-Variable.is c.parse_variable.ensures.front
