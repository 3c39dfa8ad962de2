-- Where a stream stops being frames, and what is wrong there (LSP 3.17, "Base Protocol").
use Rattle.std.specs.Prelude.{◌≡◌, ℕ, ◌+◌, ◌<◌, List, ◌++◌, length, take}
use Rattle.std.specs.List.{All}
use Rattle.std.specs.Str.Parse.{IsNumeral, digits_value}
use Rattle.rpc_framing.specs.Frames.{IsField, IsLengthName, IsOtherLine, ended, IsFrames, IsBadStart}
use Rattle.rpc_framing.specs.declared.fault.FrameFault.{FrameFault}
use Rattle.rpc_framing.specs.declared.fault.FrameFault.TheVariants.{BadHeader, TooLong}
use Rattle.rpc_framing.specs.declared.place.Departure.{Departure}
use Rattle.rpc_framing.specs.declared.place.Departure.TheVariants as departure

-- These bytes end in the digits of a length that passes 16 MiB: lines of other names, and then a line of the length's
-- name with a number above it.
pub record PassesGreatest (bytes : List ℕ) : Type 0 where
  pub lines : List (List ℕ)
  pub line : List ℕ
  pub name : List ℕ
  pub digits : List ℕ
  pub others : All IsOtherLine lines
  pub field : IsField line name digits
  pub named : IsLengthName name
  pub numeral : IsNumeral 10 digits
  pub large : 16777216 < digits_value 10 digits
  pub is : bytes ≡ ended lines ++ line

-- what is wrong with the last of these bytes, which begin no frame
abbrev pub Departs : Departure → List ℕ → Type 0
Departs departure.TooLong bytes = PassesGreatest bytes
Departs departure.BadHeader bytes = PassesGreatest bytes → ⊥

-- A stream is the frames of these bodies, and what follows begins no frame: its byte number `at`, counted from 1 over
-- the whole stream, is the first with which it cannot.
pub record Breaks (stream : List ℕ) (bodies : List (List ℕ)) (departs : Departure) (at : ℕ) : Type 0 where
  pub front : List ℕ
  pub tail : List ℕ
  pub within : ℕ
  pub frames : IsFrames front bodies
  pub bad : IsBadStart tail within
  pub wrong : Departs departs (take within tail)
  pub is : stream ≡ front ++ tail
  pub place : at ≡ length front + within

-- the fault that says it
abbrev pub fault_at : Departure → ℕ → FrameFault
fault_at departure.BadHeader place = BadHeader place
fault_at departure.TooLong place = TooLong place
