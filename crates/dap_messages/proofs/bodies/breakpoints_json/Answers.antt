use Rattle.std.proofs.Common.{sym}
use Rattle.std.proofs.lemmas.List.{map_more}
use Rattle.dap_messages.specs.Written.{breakpoint_value}
use Rattle.dap_messages.proofs.bodies.breakpoints_json.Goals as goal

pub loop-line-preserved : goal.loop-line-preserved
loop-line-preserved c =
    let added = c.in_ok-values-2.ensures _ c.breakpoint_json.ensures in
    rw (added, c.loop-line.invariant) (sym (map_more breakpoint_value c.args.lines.now c.loop-line.line-index 0 c.loop-line-test.true))
