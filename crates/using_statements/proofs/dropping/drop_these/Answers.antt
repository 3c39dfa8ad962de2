use Rattle.using_statements.proofs.RegisterLists.{is_dropped}
use Rattle.using_statements.proofs.dropping.drop_these.Goals as goal

pub returns-clause-ranges : goal.returns-clause-ranges
returns-clause-ranges c =
    is_dropped c.args.ranges.now c.drop_regs.new.self c.args.registers.now c.drop_regs.ensures.ranges c.drop_regs.ensures.all
