-- What a piece of the stream does to a frame that is not yet whole (this project). No public contract speaks of it.
use Rattle.std.specs.Prelude.{◌≡◌, ℕ, ◌+◌, ◌-◌, ◌<◌, ◌≤◌, List, ◌++◌, length, take, slice_index, Option, Some, None, MatchOption}
use Rattle.rpc_framing.specs.Faults.{Breaks}
use Rattle.rpc_framing.specs.Frames.{Splits}
use Rattle.rpc_framing.specs.Places.{departure_at}
use Rattle.rpc_framing.specs.Stages.{start, stage_from, whole_length}
use Rattle.rpc_framing.specs.declared.header.Stage.{Stage}
use Rattle.rpc_framing.specs.declared.header.Headway.{Headway}
use Rattle.rpc_framing.specs.declared.header.Headway.TheVariants as headway
use Rattle.rpc_framing.specs.declared.place.Departure.{Departure}
use Rattle.rpc_framing.specs.declared.unfinished.Reach.{Reach}
use Rattle.rpc_framing.specs.declared.unfinished.Reach.TheVariants as reach
use Rattle.rpc_framing.specs.declared.unfinished.Astray.{Astray}

-- a header comes to the stage by these bytes
pub record Goes (stage : Stage) (bytes : List ℕ) (next : Stage) : Type 0 where
  pub by : stage_from stage bytes ≡ Some next

-- the byte number `count` is the first that no header goes on with, for this reason
pub record Dies (stage : Stage) (bytes : List ℕ) (count : ℕ) (departs : Departure) : Type 0 where
  pub last : Stage
  pub some : 0 < count
  pub within : count ≤ length bytes
  pub alive : stage_from stage (take (count - 1) bytes) ≡ Some last
  pub unfinished : whole_length last ≡ None
  pub dead : stage_from stage (take count bytes) ≡ None
  pub wrong : departs ≡ departure_at last.place (slice_index bytes (count - 1))

-- How far the bytes of a piece take a header: to its middle, to its end after some of them, or astray.
abbrev pub Heads : Stage → List ℕ → Headway → Type 0
Heads stage piece (headway.Open next) = Goes stage piece next × (whole_length next ≡ None)
Heads stage piece (headway.Whole size says last) = (size ≤ length piece) × Goes stage (take size piece) last × (whole_length last ≡ Some says)
Heads stage piece (headway.Dead count departs) = Dies stage piece count departs

-- A frame that is not yet whole: its header at a stage, and of its body, which is there only behind a whole header, less
-- than the length says.
abbrev pub IsShort : Stage → ℕ → Type 0
IsShort stage held = MatchOption (whole_length stage) (held ≡ 0) (λ says. held < says)

-- How far a piece takes a frame that has `held` bytes of its body: within it, to its end, or astray. The first `size`
-- bytes of the piece belong to the header, and those up to `end` to the body.
abbrev pub Reaches : Stage → ℕ → List ℕ → Reach → Type 0
Reaches stage held piece (reach.Within size next) = (size ≤ length piece) × Goes stage (take size piece) next × IsShort next (held + (length piece - size))
Reaches stage held piece (reach.Whole size end) = (size ≤ end) × (end ≤ length piece) × (last : Stage) × Goes stage (take size piece) last × (whole_length last ≡ Some (held + (end - size)))
Reaches stage held piece (reach.Dead count departs) = Dies stage piece count departs

-- the bytes of a frame that is not yet whole, header and body
pub record Stands (stage : Stage) (header body : List ℕ) : Type 0 where
  pub goes : Goes start header stage
  pub short : IsShort stage (length body)

-- A piece behind what had come of a frame brings these bodies, and leaves this of the next frame.
pub record Brings (old piece : List ℕ) (ready_before ready_now : List (List ℕ)) (new : List ℕ) : Type 0 where
  pub fresh : List (List ℕ)
  pub splits : Splits (old ++ piece) fresh new
  pub ready : ready_now ≡ ready_before ++ fresh

-- A piece behind what had come of a frame brings these bodies, and its byte number `count` is the first fault.
pub record Spoils (old piece : List ℕ) (ready_before ready_now : List (List ℕ)) (departs : Departure) (count : ℕ) : Type 0 where
  pub fresh : List (List ℕ)
  pub breaks : Breaks (old ++ piece) fresh departs (length old + count)
  pub ready : ready_now ≡ ready_before ++ fresh

-- one or the other
abbrev pub Accepts : List ℕ → List ℕ → List (List ℕ) → List (List ℕ) → List ℕ → Option Astray → Type 0
Accepts old piece before now new None = Brings old piece before now new
Accepts old piece before now new (Some fault) = Spoils old piece before now fault.departure fault.count
