use Rattle.session_core.proofs.LaunchLaws.{whole_at}
use Rattle.session_core.proofs.debugging.message_bodies.Goals as goal

pub message_body-requires : goal.message_body-requires
message_body-requires c = record { whole = whole_at _ _ _ c.requires.whole c.loop-message-test.true c.message-item.is }
