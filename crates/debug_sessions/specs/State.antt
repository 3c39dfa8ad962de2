-- What debug sessions know between two messages (Debug Adapter Protocol; this project).
use Rattle.std.specs.Prelude.{ℕ, ◌==◌, ◌+◌, Bool, min, List, [], Option, None, find, unwrap_or}
use Rattle.debug_sessions.specs.Places.{with_one, without_one}
use Rattle.debug_sessions.specs.declared.debugger.Debugger.{Debugger}

-- The debug sessions that are in use, in the order in which they were begun: each with its number, with how many messages it
-- has sent, its breakpoints and its launch, if there was one.
abbrev pub Debuggers : Type 0
Debuggers = List Debugger

-- a session is the one of a number
abbrev pub has_number : ℕ → Debugger → Bool
has_number number d = d.number == number

-- the session of a number, if it is in use
abbrev pub session_of : ℕ → Debuggers → Option Debugger
session_of number ds = find (has_number number) ds

-- a session that was just begun
abbrev pub begun : ℕ → Debugger
begun number = record { number = number; seq = 0; breakpoints = []; launch = None }

-- the session of a number, or one that is just begun
abbrev pub session_for : ℕ → Debuggers → Debugger
session_for number ds = unwrap_or (session_of number ds) (begun number)

-- the sessions with this one in the place of the one of a number, or behind all others where that is not in use
abbrev pub with_session : ℕ → Debugger → Debuggers → Debuggers
with_session number new ds = with_one (has_number number) new ds

-- the sessions without the one of a number
abbrev pub without_session : ℕ → Debuggers → Debuggers
without_session number ds = without_one (has_number number) ds

-- the number of the message behind so many others: it stays at the greatest of 64 bits
abbrev pub next_seq : ℕ → ℕ
next_seq seq = min (seq + 1) 18446744073709551615
