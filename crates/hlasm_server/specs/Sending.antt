-- What the sink has gained when bodies were written, or when writing stopped, and what was asked for them (this project).
use Rattle.std.specs.Prelude.{◌≡◌, ℕ, false, Bool, List, [], ◌++◌, Option, Result, Ok, Err}
use Rattle.io_edge.specs.Told.{Gains, HasRisen}
use Rattle.io_edge.specs.LibraryCall.{LibraryCall}
use Rattle.bulk_session.specs.Connection.{Connection}
use Rattle.bulk_session.specs.ConnectionVariants as connection
use Rattle.bulk_session.specs.State.{State}
use Rattle.bulk_session.specs.Step.{written}
use Rattle.bulk_session.specs.SessionView.{SessionView}
use Rattle.hlasm_server.specs.declared.sending.Stop.{Stop}
use Rattle.hlasm_server.specs.declared.sending.Stop.TheVariants.{OutOfMemory, WriteFault}
use Rattle.hlasm_server.specs.Hearing.{Goes, Ends, in_state, hear, said, following, MakesEach}
use Rattle.hlasm_server.specs.Waiting.{Asked}

-- the sink has gained a front of these bytes
abbrev pub PutsFront : Option (List ℕ) → List ℕ → Option (List ℕ) → Type 0
PutsFront before bytes now = (front : List ℕ) × (rest : List ℕ) × (bytes ≡ front ++ rest) × Gains before front now

-- the sink has gained the first of these bodies, each in a whole frame
abbrev pub PutsFirst : Option (List ℕ) → List (List ℕ) → Option (List ℕ) → Type 0
PutsFirst before bodies now = (first : List (List ℕ)) × (others : List (List ℕ)) × (bodies ≡ first ++ others) × Gains before (written first) now

-- Writing these bodies stopped: the first of them were written where memory ran out, a front of their bytes where the sink
-- refused.
abbrev pub PutsUntil : Stop → (before : Option (List ℕ)) → List (List ℕ) → (now : Option (List ℕ)) → Type 0
PutsUntil OutOfMemory before bodies now = PutsFirst before bodies now
PutsUntil WriteFault before bodies now = PutsFront before (written bodies) now

-- the session has memory, and all of its output was taken
pub record IsReady (session : SessionView) : Type 0 where
  pub sound : session.spent ≡ false
  pub empty : session.output ≡ []

-- ---- Turns

-- The Turns that follow in a state were made, and what they publish was written. Of the answers of `waiting` these were
-- given; so whatever more were to come, and whatever calls of the library, the Turns would be the same.
pub record Follows (s : State) (since : ℕ) (t : State) (since_now : ℕ) (waits_before waits_now : Option (List Bool)) (held_before held_now : Option (List ℕ)) : Type 0 where
  pub answers : List Bool
  pub bodies : List (List ℕ)
  pub asked : Asked waits_before answers waits_now
  pub made : (more : List Bool) (calls : List LibraryCall)
      → following (in_state s (answers ++ more) calls since) ≡ record { next = in_state t more calls since_now; bodies = bodies }
  pub sent : Gains held_before (written bodies) held_now

-- they were not all made, or not all written
pub record StopsFollowing (stop : Stop) (s : State) (since : ℕ) (waits_before waits_now : Option (List Bool)) (held_before held_now : Option (List ℕ)) : Type 0 where
  pub answers : List Bool
  pub asked : Asked waits_before answers waits_now
  pub put : (calls : List LibraryCall) → PutsUntil stop held_before (following (in_state s answers calls since)).bodies held_now

-- the Turns that follow were made and written, or it is as the stop says
abbrev pub MakesTurns : {T : Type 0} → Result T Stop → (s : State) (since : ℕ) (t : State) (since_now : ℕ) (waits_before waits_now : Option (List Bool)) (held_before held_now : Option (List ℕ)) → Type 0
MakesTurns (Ok x) s since t since_now w v before now = Follows s since t since_now w v before now
MakesTurns (Err stop) s since t since_now w v before now = StopsFollowing stop s since w v before now

-- ---- messages

-- A message was heard, the session goes on, and what is written for it was sent. These calls of the library were made for it;
-- whatever more were to come, and whatever more answers of `waiting`, they are left.
pub record GoesOn (s : State) (since : ℕ) (body : List ℕ) (t : State) (since_now : ℕ) (waits_before waits_now : Option (List Bool)) (calls_before calls_now : Option (List LibraryCall)) (held_before held_now : Option (List ℕ)) : Type 0 where
  pub answers : List Bool
  pub calls : List LibraryCall
  pub bodies : List (List ℕ)
  pub asked : Asked waits_before answers waits_now
  pub made : Gains calls_before calls calls_now
  pub heard : (more : List Bool) (rest : List LibraryCall)
      → hear (in_state s (answers ++ more) (calls ++ rest) since) body ≡ Goes (in_state t more rest since_now) bodies
  pub sent : Gains held_before (written bodies) held_now

-- the end was heard, these calls of the library were made for it, and nothing was asked of the source or written
pub record Closes (s : State) (since : ℕ) (body : List ℕ) (closed : Bool) (waits_before waits_now : Option (List Bool)) (calls_before calls_now : Option (List LibraryCall)) (held_before held_now : Option (List ℕ)) : Type 0 where
  pub calls : List LibraryCall
  pub made : Gains calls_before calls calls_now
  pub heard : (waits : List Bool) (rest : List LibraryCall) → hear (in_state s waits (calls ++ rest) since) body ≡ Ends closed rest
  pub asked : waits_now ≡ waits_before
  pub sent : held_now ≡ held_before

-- What is written for a message was not all made, or not all written. Each of these calls of the library is one that the
-- message makes.
pub record StopsHearing (stop : Stop) (s : State) (since : ℕ) (body : List ℕ) (waits_before waits_now : Option (List Bool)) (calls_before calls_now : Option (List LibraryCall)) (held_before held_now : Option (List ℕ)) : Type 0 where
  pub answers : List Bool
  pub calls : List LibraryCall
  pub asked : Asked waits_before answers waits_now
  pub made : Gains calls_before calls calls_now
  pub makes : MakesEach (hear (in_state s answers calls since) body)
  pub put : PutsUntil stop held_before (said (hear (in_state s answers calls since) body)) held_now

-- A message was heard: it is as the connection or the stop says.
abbrev pub Hears : Result Connection Stop → (s : State) (since : ℕ) (body : List ℕ) (t : State) (since_now : ℕ) (waits_before waits_now : Option (List Bool)) (calls_before calls_now : Option (List LibraryCall)) (held_before held_now : Option (List ℕ)) → Type 0
Hears (Ok connection.Running) s since body t since_now w v c d before now = GoesOn s since body t since_now w v c d before now
Hears (Ok (connection.Exit closed)) s since body t since_now w v c d before now = Closes s since body closed w v c d before now
Hears (Err stop) s since body t since_now w v c d before now = StopsHearing stop s since body w v c d before now

-- a sink that refused has counted a fault
abbrev pub HasStopCause : {T : Type 0} → Result T Stop → (before now : ℕ) → Type 0
HasStopCause (Ok x) before now = Unit {0}
HasStopCause (Err OutOfMemory) before now = Unit {0}
HasStopCause (Err WriteFault) before now = HasRisen before now
