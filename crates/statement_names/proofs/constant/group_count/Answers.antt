use Rattle.std.proofs.Common.{[], rules}
use Rattle.std.specs.Str.{chars}
use Rattle.statement_names.proofs.GroupLaws.{group-init, group-more, group-closed, group-end}
use Rattle.statement_names.proofs.constant.group_count.Goals as goal

pub loop-c-init : goal.loop-c-init
loop-c-init c = (search rules, group-init c.new-nesting.result (chars c.args.text.now) c.new-nesting.ensures)

pub returns : goal.returns
returns c = group-end c.loop-c.nesting c.loop-c.count _ _ c.loop-c.invariant.1 c.in_default.ensures
