use Rattle.std.proofs.Common.{get_or, refl}
use Rattle.using_statements.proofs.Once.{marked_more}
use Rattle.using_statements.proofs.unused.push_marked.Goals as goal

pub loop-place-preserved : goal.loop-place-preserved
loop-place-preserved c =
    marked_more c.args.mask c.args.rows.now.items c.loop-place.rows.items c.push_at.new.rows.items c.args.registers.now c.loop-place.place
    (get_or c.args.registers.now c.loop-place.place 0) c.loop-place.invariant c.in_ok-push_at.ensures c.loop-place-test.true refl
