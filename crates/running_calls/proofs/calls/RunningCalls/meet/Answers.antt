use Rattle.std.proofs.Common.{◌∙◌, ap, take}
use Rattle.running_calls.specs.Calls.{held}
use Rattle.running_calls.proofs.CallLaws.{met-is}
use Rattle.running_calls.proofs.calls.RunningCalls.meet.Goals as goal

pub returns : goal.returns
returns c =
    let level = c.args.level in
    met-is c.args.self.now c.take_at-held.new.levels.items c.pad.new.levels.items c.push.new.self.items level c.args.item.now
    c.take_at-held.result c.in_ok-variables.variables c.origin-at.result
    (c.take_at-held.ensures.taken ∙ ap (λ levels. held levels level) c.self.view_is)
    (c.take_at-held.ensures.outside ∙ ap (λ levels. take level levels) c.self.view_is)
    c.in_ok-pad.ensures c.in_ok-variables.ensures c.origin-at.ensures c.in_ok-push.ensures.items
