-- What a reader of frames holds, and how a piece of the stream moves it (this project).
use Rattle.std.specs.Prelude.{◌≡◌, ℕ, ◌+◌, ◌<◌, ◌⊎◌, List, ◌++◌, length, Option, Some, None, map, Vec}
use Rattle.std.specs.declared.alloc.Global.{Global}
use Rattle.rpc_framing.specs.Faults.{Breaks, fault_at}
use Rattle.rpc_framing.specs.Frames.{IsHead, IsPartial, Splits}
use Rattle.rpc_framing.specs.declared.fault.FrameFault.{FrameFault}
use Rattle.rpc_framing.specs.declared.place.Departure.{Departure}

-- The bodies that wait, what has come of the next frame, how many bytes were fed, and the fault, if one was met. Its
-- place is the number of bytes, over all that were fed, up to the first with which they begin no sequence of frames.
pub record Reading : Type 0 where
  pub ready : List (List ℕ)
  pub rest : List ℕ
  pub fed : ℕ
  pub fault : Option FrameFault

-- the bytes of bodies as they lie in memory
abbrev pub bodies_of : List (Vec ℕ Global) → List (List ℕ)
bodies_of bodies = map (λ body. body.items) bodies

-- A piece was read, and the bodies that it completed wait behind the others.
pub record GoesOn (old new : Reading) (piece : List ℕ) : Type 0 where
  pub fresh : List (List ℕ)
  pub splits : Splits (old.rest ++ piece) fresh new.rest
  pub ready : new.ready ≡ old.ready ++ fresh
  pub fed : new.fed ≡ old.fed + length piece
  pub sound : old.fault ≡ None
  pub still_sound : new.fault ≡ None

-- A piece brought the first fault, and the bodies before it wait behind the others. `at` counts from the beginning of
-- the frame that was not yet whole, and `place`, which the fault says, from the first byte that was ever fed.
pub record Stops (old new : Reading) (piece : List ℕ) (fault : FrameFault) : Type 0 where
  pub fresh : List (List ℕ)
  pub departs : Departure
  pub at : ℕ
  pub place : ℕ
  pub breaks : Breaks (old.rest ++ piece) fresh departs at
  pub counted : place + length old.rest ≡ old.fed + at
  pub says : fault ≡ fault_at departs place
  pub ready : new.ready ≡ old.ready ++ fresh
  pub fed : new.fed ≡ old.fed + length piece
  pub sound : old.fault ≡ None
  pub kept : new.fault ≡ Some fault

-- The header of a frame is whole, and this many bytes of its body are missing.
pub record Misses (rest : List ℕ) (missing : ℕ) : Type 0 where
  pub head : List ℕ
  pub body : List ℕ
  pub some : 0 < missing
  pub says : IsHead head (length body + missing)
  pub is : rest ≡ head ++ body

-- How many bytes to ask for: those that are missing of a body, and one at a time in a header.
abbrev pub IsWanted : List ℕ → ℕ → Type 0
IsWanted rest n = Misses rest n ⊎ ((n ≡ 1) × ((missing : ℕ) → Misses rest missing → ⊥))

-- Fewer than n further bytes complete no frame, whatever they are.
pub record Waits (rest : List ℕ) (n : ℕ) : Type 0 where
  pub some : 0 < n
  pub fewer : (more : List ℕ) → length more < n → IsPartial (rest ++ more)
