use Rattle.std.proofs.Common.{◌∙◌, ap}
use Rattle.std.specs.Prelude.{chars}
use Rattle.hlasm_statements.proofs.CharLaws.{rest-fits, cut_behind_columns, chars-front, chars-back}
use Rattle.hlasm_statements.proofs.column.split_characters.Goals as goal

pub overflow_sub-text : goal.overflow_sub-text
overflow_sub-text c = rest-fits c.args.text.now _ c.args.count c.utf8.text c.behind_columns-rest.ensures

pub split_at-requires : goal.split_at-requires
split_at-requires c = cut_behind_columns c.args.text.now _ c.args.count c.utf8.text c.behind_columns-rest.ensures

pub returns-clause-front : goal.returns-clause-front
returns-clause-front c = ap chars c.split_at.ensures.front ∙ chars-front c.args.text.now _ c.args.count c.utf8.text c.behind_columns-rest.ensures

pub returns-clause-back : goal.returns-clause-back
returns-clause-back c = ap chars c.split_at.ensures.back ∙ chars-back c.args.text.now _ c.args.count c.utf8.text c.behind_columns-rest.ensures
