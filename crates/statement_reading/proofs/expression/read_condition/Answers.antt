use Rattle.std.specs.Str.{chars}
use Rattle.statement_reading.proofs.ExpressionLaws.{says_logic}
use Rattle.statement_reading.proofs.expression.read_condition.Goals as goal

pub returns : goal.returns
returns c = says_logic (chars c.args.text.now) c.parse_logic.result c.parse_logic.ensures
