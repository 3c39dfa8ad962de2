use Rattle.std.specs.Str.{chars}
use Rattle.statement_reading.proofs.TemplateLaws.{says_template}
use Rattle.statement_reading.proofs.entry.read_template.Goals as goal

pub returns : goal.returns
returns c = says_template (chars c.args.field.now) c.read.result c.read.ensures
