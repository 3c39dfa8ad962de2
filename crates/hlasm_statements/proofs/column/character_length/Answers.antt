use Rattle.std.proofs.Common.{◌∙◌}
use Rattle.std.specs.Prelude.{chars}
use Rattle.hlasm_statements.specs.Columns as columns
use Rattle.hlasm_statements.proofs.ListLaws.{length_all}
use Rattle.hlasm_statements.proofs.column.character_length.Goals as goal

pub returns-in-None : goal.returns-in-None
returns-in-None c = c.character_count.ensures ∙ length_all columns.is_blank (chars c.args.text.now) c.first_blank.result c.first_blank.ensures c.in-None.is
