use Rattle.std.proofs.Common.{◌∙◌, sym, arith}
use Rattle.std.specs.Prelude.{chars}
use Rattle.std.proofs.lemmas.Str.{encodes-chars}
use Rattle.hlasm_statements.proofs.CharLaws.{behind-next, behind-end, at-none}
use Rattle.hlasm_statements.proofs.column.behind_columns.Goals as goal

pub loop-init : goal.loop-init
loop-init c = c.chars-rest.ensures.rest ∙ sym (encodes-chars c.args.text.now c.utf8.text)

pub loop-preserved : goal.loop-preserved
loop-preserved c = behind-next c.next.result _ _ _ (chars c.args.text.now) c.loop.counter c.next.ensures.steps.0 c.if-is_none.ensures c.loop.invariant

pub returns-then-is_none : goal.returns-then-is_none
returns-then-is_none c = behind-end c.loop.rest.rest.now (chars c.args.text.now) c.loop.counter c.args.count (at-none _ _ c.next.result c.next.ensures.steps.0 c.if-is_none.ensures).0 c.loop.invariant (omega arith)
