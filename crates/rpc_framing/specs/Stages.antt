-- How far a header has come, within its 4,096 bytes (this project). No public contract speaks of it.
use Rattle.std.specs.Prelude.{ℕ, ◌+◌, List, [], ◌∷◌, Option, Some, None, nat_le, if◌then◌else◌, option_and_then}
use Rattle.rpc_framing.specs.Places.{place_after, length_at, need}
use Rattle.rpc_framing.specs.declared.place.Place.{Place}
use Rattle.rpc_framing.specs.declared.place.Place.TheVariants.{Line}
use Rattle.rpc_framing.specs.declared.header.Stage.{Stage}

-- nothing of a header
abbrev pub start : Stage
start = record { place = Line None; size = 0 }

-- the place behind so many bytes, if what it needs still fits
abbrev pub fitting : ℕ → Place → Option Stage
fitting size place = if nat_le (size + need place) 4096 then Some (record { place = place; size = size }) else None

-- how far the header has come with one byte more, if it still is the beginning of one
unfoldable pub stage_after : Stage → ℕ → Option Stage
stage_after stage byte = option_and_then (λ place. fitting (stage.size + 1) place) (place_after stage.place byte)

-- the same for the bytes of a list, one after the other
abbrev pub stage_from : Stage → List ℕ → Option Stage
stage_from stage [] = Some stage
stage_from stage (byte ∷ bytes) = option_and_then (λ next. stage_from next bytes) (stage_after stage byte)

-- the length that a whole header says
abbrev pub whole_length : Stage → Option ℕ
whole_length stage = length_at stage.place
