-- the bodies so far are those of the messages so far
use Rattle.std.proofs.Common.{◌≡◌, map, take}
use Rattle.dap_messages.specs.Written.{value_of}
use Rattle.session_core.specs.Debugging.{debug_body}
use Rattle.session_core.proofs.debugging.message_bodies.Given as goal

abbrev pub invariant-loop-message : goal.invariant-loop-message
invariant-loop-message l = l.bodies ≡ map (debug_body l.session) (map value_of (take l.message-index l.messages))
