use Rattle.std.proofs.Common.{◌≡◌, ◌≤◌, length, arith}
use Rattle.running_calls.proofs.CallLaws.{pad-end, pad-init, pad-more}
use Rattle.running_calls.proofs.calls.pad.Goals as goal

pub loop-init : goal.loop-init
loop-init c =
    let levels = c.args.levels.now in
    let counted : c.len-counter.result ≡ length levels.items = omega (arith, levels.ok.0, c.len-counter.ensures) in
    (pad-init levels.items c.len-counter.result counted, (λ below. counted))

pub loop-preserved : goal.loop-preserved
loop-preserved c =
    let levels = c.args.levels.now in
    let from : length levels.items ≤ c.loop.counter = omega (arith, levels.ok.0, c.len-counter.ensures, c.loop.auto.counter) in (
      pad-more levels.items c.loop.levels.items c.push.new.self.items c.loop.counter from c.loop.invariant.0 c.in_ok-push.ensures.items,
      (λ below. absurd (omega (arith, c.loop-test.true))),
    )

pub returns : goal.returns
returns c =
    let levels = c.args.levels.now in
    let least : length levels.items ≤ c.args.level → c.loop.counter ≤ c.args.level =
    (λ few. omega (arith, levels.ok.0, c.len-counter.ensures, c.loop.auto.counter-end)) in
    pad-end levels.items c.loop.levels.items c.loop.counter c.args.level c.loop-test.false least c.loop.invariant.1 c.loop.invariant.0
