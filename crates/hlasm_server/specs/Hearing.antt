-- What one message of the input comes to (this project): its event, and then Turns until no program is queued or the next
-- one is held back.
use Rattle.std.specs.Prelude.{◌≡◌, ℕ, zero, suc, Bool, List, [], ◌++◌, length, if◌then◌else◌}
use Rattle.bulk_session.specs.Connection.{Connection}
use Rattle.bulk_session.specs.ConnectionVariants as connection
use Rattle.io_edge.specs.LibraryCall.{LibraryCall}
use Rattle.bulk_session.specs.State.{State, start}
use Rattle.bulk_session.specs.Step.{Step}
use Rattle.bulk_session.specs.Step as step
use Rattle.bulk_session.specs.Turn.{turn}
use Rattle.bulk_session.specs.Message.{message}
use Rattle.bulk_session.specs.SessionView.{connection_of}
use Rattle.hlasm_server.specs.Waiting.{one_more, is_held, unasked}

-- a session between two events: its state, the answers of `waiting` and the calls of the library to come, and how many
-- messages came since the last Turn
pub record Running : Type 0 where
  pub state : State
  pub waits : List Bool
  pub calls : List LibraryCall
  pub since : ℕ

-- one in this state
abbrev pub in_state : State → (waits : List Bool) (calls : List LibraryCall) (since : ℕ) → Running
in_state s waits calls since = record { state = s; waits = waits; calls = calls; since = since }

-- before the first message, where a program may be given so many statements
abbrev pub beginning_with : (budget : ℕ) (waits : List Bool) (calls : List LibraryCall) → Running
beginning_with budget waits calls = in_state (start budget) waits calls 0

-- ---- Turns

-- the session behind some Turns, and the bodies that they publish
pub record Made : Type 0 where
  pub next : Running
  pub bodies : List (List ℕ)

-- no Turn is made
abbrev pub none_made : Running → Made
none_made r = record { next = r; bodies = [] }

-- these bodies come before
abbrev pub behind : List (List ℕ) → Made → Made
behind bodies made = record { next = made.next; bodies = bodies ++ made.bodies }

-- At most so many Turns: each behind the other, until one is held back. A Turn makes no call of the library.
abbrev pub turns : ℕ → Running → Made
turns zero r = none_made r
turns (suc n) r =
    if is_held r.since r.waits then none_made (record r { waits = unasked r.since r.waits })
    else behind (turn r.state).bodies (turns n (record r { state = (turn r.state).state; waits = unasked r.since r.waits; since = 0 }))

-- Turns until no program is queued, or until one is held back
abbrev pub following : Running → Made
following r = turns (length r.state.queue) r

-- ---- messages

-- the session goes on, and these bodies are written; or `exit` came, after `shutdown` was answered or before, and these of the
-- calls of the library to come were not made; or a call is made for which no answer is left; or the next answer is of another
-- call than the one that is made
pub data Heard : Type 0 where
  Goes : (next : Running) (bodies : List (List ℕ)) → Heard
  Ends : (closed : Bool) (rest : List LibraryCall) → Heard
  Lacks : Heard
  Differs : Heard

-- these bodies were written, then those of some Turns, and the session goes on
abbrev pub goes_on : List (List ℕ) → Made → Heard
goes_on bodies made = Goes made.next (bodies ++ made.bodies)

-- Where the session goes on, the Turns follow. At its end nothing is written, and no Turn is made.
abbrev pub heard_in : Connection → Running → (state : State) (bodies : List (List ℕ)) (rest : List LibraryCall) → Heard
heard_in connection.Running r state bodies rest = goes_on bodies (following (in_state state r.waits rest (one_more r.since)))
heard_in (connection.Exit closed) r state bodies rest = Ends closed rest

-- an event, with what follows it
abbrev pub heard_of : Running → Step → Heard
heard_of r (step.Goes state bodies rest) = heard_in (connection_of state) r state bodies rest
heard_of r step.Stopped = Lacks
heard_of r step.Other = Differs

-- one message, and then Turns until no program is queued, or until one is held back
unfoldable pub hear : Running → List ℕ → Heard
hear r body = heard_of r (message r.state body r.calls)

-- what is written for it
abbrev pub said : Heard → List (List ℕ)
said (Goes next bodies) = bodies
said (Ends closed rest) = []
said Lacks = []
said Differs = []

-- Each of the calls to come was made, whether or not one more was: none of them is another than the one that is made, and none
-- is left.
abbrev pub MakesEach : Heard → Type 0
MakesEach (Goes next bodies) = next.calls ≡ []
MakesEach (Ends closed rest) = rest ≡ []
MakesEach Lacks = Unit {0}
MakesEach Differs = ⊥
