use Rattle.using_statements.proofs.RegisterLists.{is_dropped}
use Rattle.using_statements.specs.Held.{all_registers}
use Rattle.using_statements.proofs.dropping.drop_all.Goals as goal

pub returns : goal.returns
returns c = is_dropped c.args.ranges.now c.drop_regs.new.self all_registers c.drop_regs.ensures.ranges c.drop_regs.ensures.all
