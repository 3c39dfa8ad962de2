use Rattle.std.specs.Str.{chars}
use Rattle.statement_reading.proofs.ExpressionLaws.{says_text}
use Rattle.statement_reading.proofs.expression.read_characters.Goals as goal

pub returns : goal.returns
returns c = says_text (chars c.args.text.now) c.parse_char.result c.parse_char.ensures
