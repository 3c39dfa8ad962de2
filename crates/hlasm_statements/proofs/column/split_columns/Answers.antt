use Rattle.std.proofs.Common.{◌∙◌, ap, arith}
use Rattle.std.specs.Prelude.{chars}
use Rattle.hlasm_statements.proofs.CharLaws.{ascii-cut, ascii-front, ascii-back}
use Rattle.hlasm_statements.proofs.column.split_columns.Goals as goal

pub split_at-requires : goal.split_at-requires
split_at-requires c = ascii-cut c.args.text.now _ c.utf8.text (omega (arith, c.min-end.ensures)) (c.begins_ascii.ensures c.if-begins_ascii.true)

pub returns-then-begins_ascii-clause-front : goal.returns-then-begins_ascii-clause-front
returns-then-begins_ascii-clause-front c = ap chars c.split_at.ensures.front ∙ ascii-front c.args.text.now _ c.args.count c.utf8.text c.min-end.ensures (c.begins_ascii.ensures c.if-begins_ascii.true)

pub returns-then-begins_ascii-clause-back : goal.returns-then-begins_ascii-clause-back
returns-then-begins_ascii-clause-back c = ap chars c.split_at.ensures.back ∙ ascii-back c.args.text.now _ c.args.count c.utf8.text c.min-end.ensures (c.begins_ascii.ensures c.if-begins_ascii.true)
