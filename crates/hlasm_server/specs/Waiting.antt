-- When a Turn is held back (this project): where few messages came since the last one, and more input waits.
use Rattle.std.specs.Prelude.{◌≡◌, ℕ, ◌+◌, min, nat_lt, Bool, false, List, [], ◌∷◌, ◌++◌, drop, Option, IfSome, if◌then◌else◌}
use Rattle.std.specs.Option.{option_map}
use Rattle.io_edge.specs.Told.{first_wait}

-- after so many messages a Turn is made without asking whether more input waits
abbrev pub most_held : ℕ
most_held = 32

-- one message more since the last Turn, counted up to those after which it makes no difference
abbrev pub one_more : ℕ → ℕ
one_more since = min (since + 1) most_held

-- Whether the next Turn is held back, so many messages behind the last one, where these are the answers of `waiting` to
-- come. Past their end nothing waits.
abbrev pub is_held : (since : ℕ) → List Bool → Bool
is_held since waits = if nat_lt since most_held then first_wait waits else false

-- the answers to come behind that: one was asked for, if any
abbrev pub unasked : (since : ℕ) → List Bool → List Bool
unasked since waits = if nat_lt since most_held then drop 1 waits else waits

-- A source gave these answers of `waiting`, one after another: each the first of those that it tells, and that nothing
-- waits past their end.
abbrev pub Asked : (before : Option (List Bool)) → (answers : List Bool) → (now : Option (List Bool)) → Type 0
Asked before [] now = now ≡ before
Asked before (answer ∷ others) now = IfSome before (λ told. answer ≡ first_wait told) × Asked (option_map (drop 1) before) others now

-- it was asked, as far as it is, whether the next Turn is held back
pub record Asks (since : ℕ) (held : Bool) (before now : Option (List Bool)) : Type 0 where
  pub answers : List Bool
  pub asked : Asked before answers now
  pub held_back : (more : List Bool) → is_held since (answers ++ more) ≡ held
  pub left : (more : List Bool) → unasked since (answers ++ more) ≡ more
