use Rattle.std.proofs.Common.{◌+◌, ◌-◌, ◌≤◌, arith}
use Rattle.document_store.proofs.MoveLemmas.{moved_down}
use Rattle.document_store.proofs.moving.move_down.Goals as goal

pub loop-done-preserved : goal.loop-done-preserved
loop-done-preserved c =
    let within : c.loop-done.done + c.min-size.result ≤ c.args.count = omega (arith, c.min-size.ensures, c.loop-done-test.true) in (
      within,
      moved_down c.args.bytes.now c.loop-done.bytes c.move_part.new.bytes c.args.from c.args.to c.loop-done.done c.min-size.result c.requires.down
          (omega (arith, within, c.requires.within)) c.loop-done.invariant.1 c.move_part.ensures,
    )
