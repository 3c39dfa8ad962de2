use Rattle.std.specs.Str.{chars}
use Rattle.statement_reading.proofs.ExpressionLaws.{says_number}
use Rattle.statement_reading.proofs.expression.read_number.Goals as goal

pub returns : goal.returns
returns c = says_number (chars c.args.text.now) c.parse_arith.result c.parse_arith.ensures
