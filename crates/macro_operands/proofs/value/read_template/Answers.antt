use Rattle.std.specs.Str.{chars}
use Rattle.statement_reading.proofs.TemplateLaws.{says_template}
use Rattle.macro_operands.proofs.value.read_template.Goals as goal

pub returns : goal.returns
returns c = says_template (chars c.args.text.now) c.read.result c.read.ensures
