use Rattle.std.specs.Str.{chars}
use Rattle.note_rows.proofs.TableLaws.{text-alone}
use Rattle.note_rows.proofs.wording.plain.Goals as goal

pub returns : goal.returns
returns c = text-alone c.args.code c.args.severity (chars c.args.text.now)
