-- Location counters (HLASM Language Reference SC26-4940, "Location counter", "ORG instruction", "DS instruction"). The
-- greatest length of a section is this project's.
use Rattle.std.specs.Prelude.{◌≡◌, ℕ, ◌+◌, ◌-◌, ◌*◌, ◌/◌, max}
use Rattle.location_counter.specs.declared.counter.Counter.{Counter}

-- the first multiple of a boundary at a place or behind it
abbrev pub aligned : (at boundary : ℕ) → ℕ
aligned at boundary = (at + boundary - 1) / boundary * boundary

-- how many bytes a section has at most
abbrev pub most_bytes : ℕ
most_bytes = 16777216

-- The counter of a section goes on at another place. The section's length is the highest place where it stood.
pub record Moves (old new : Counter) (at : ℕ) : Type 0 where
  pub place : new.at ≡ at
  pub length : new.length ≡ max old.length at

-- it stays where it is
pub record Stays (old new : Counter) : Type 0 where
  pub place : new.at ≡ old.at
  pub length : new.length ≡ old.length
