use Rattle.std.proofs.Common.{ap, ◌∙◌}
use Rattle.library_reading.specs.Log.{said_full}
use Rattle.library_reading.proofs.TextLaws.{full_said}
use Rattle.library_reading.proofs.logs.Logs.say_full.Goals as goal

pub returns : goal.returns
returns c = full_said _ _ _ _ c.if-self.false c.in_ok-push.ensures.items c.in_ok-of.ensures ∙ ap said_full c.self.view_is
