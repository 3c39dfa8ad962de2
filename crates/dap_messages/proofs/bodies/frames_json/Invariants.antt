-- the values so far are those of the frames so far, with their numbers
use Rattle.std.proofs.Common.{◌≡◌, map, take}
use Rattle.std.specs.List.{enumerate_from}
use Rattle.serde_json.specs.View.{view}
use Rattle.dap_messages.specs.Written.{frame_value}
use Rattle.dap_messages.proofs.bodies.frames_json.Given as goal

abbrev pub invariant-loop-index : goal.invariant-loop-index
invariant-loop-index l = map view l.values.items ≡ map frame_value (take l.index (enumerate_from 1 l.frames))
