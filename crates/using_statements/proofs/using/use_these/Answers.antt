use Rattle.using_statements.proofs.RegisterLists.{is_used}
use Rattle.using_statements.proofs.using.use_these.Goals as goal

pub returns : goal.returns
returns c =
    is_used c.args.ranges.now c.using.new.self c.args.span.base.section c.args.span.base.value c.args.span.end c.args.registers.now
    c.using.ensures.ranges c.using.ensures.all
