-- What a `Session` is, as contracts see it (this project).
use Rattle.std.specs.Prelude.{◌≡◌, ℕ, Bool, true, false, List, [], ◌++◌, Option, Result, Ok, Err}
use Rattle.io_edge.specs.LibraryCall.{LibraryCall}
use Rattle.io_edge.specs.Told.{Gains}
use Rattle.session_core.specs.declared.fault.SessionFault.{SessionFault}
use Rattle.session_core.specs.declared.fault.SessionFault.TheVariants.{Spent, OutOfMemory}
use Rattle.session_core.specs.declared.connection.Connection.{Connection}
use Rattle.session_core.specs.declared.connection.Connection.TheVariants.{Running, Exit}
use Rattle.session_core.specs.declared.state.Stage.{Stage}
use Rattle.session_core.specs.declared.state.Stage.TheVariants.{Fresh, Active, Closing, Ended}
use Rattle.session_core.specs.State.{State, start}
use Rattle.session_core.specs.Step.{Effect, Step, Goes, MakesAll, written}

-- the state, the bytes that are written and not taken yet, and whether memory has run out
pub record SessionView : Type 0 where
  pub state : State
  pub output : List ℕ
  pub spent : Bool

-- before the first message, where a program may be given so many statements
abbrev pub beginning : (budget : ℕ) → SessionView
beginning budget = record { state = start budget; output = []; spent = false }

-- how a session in this state stands to its client
abbrev pub connection_of : State → Connection
connection_of s = connection_at s.stage where
  connection_at : Stage → Connection
  connection_at Fresh = Running
  connection_at Active = Running
  connection_at Closing = Running
  connection_at (Ended closed) = Exit closed

-- ---- events

-- a session had memory, went to this state, and has added these bodies to its output
pub record Moves (state : State) (bodies : List (List ℕ)) (before now : SessionView) : Type 0 where
  pub sound : before.spent ≡ false
  pub state_is : now.state ≡ state
  pub output_is : now.output ≡ before.output ++ written bodies
  pub sound_still : now.spent ≡ false

-- memory ran out: nothing was added to the output, and the session is spent
pub record RunsOut (before now : SessionView) : Type 0 where
  pub sound : before.spent ≡ false
  pub spent : now.spent ≡ true
  pub output_is : now.output ≡ before.output

-- it was spent before: nothing is changed
pub record StaysSpent (before now : SessionView) : Type 0 where
  pub spent : before.spent ≡ true
  pub same : now ≡ before

-- an event that asks the library nothing came to its effect, or could not
abbrev pub ComesTo : {T : Type 0} → Result T SessionFault → Effect → (before now : SessionView) → Type 0
ComesTo (Ok _) effect before now = Moves effect.state effect.bodies before now
ComesTo (Err OutOfMemory) effect before now = RunsOut before now
ComesTo (Err Spent) effect before now = StaysSpent before now

-- An event made these calls and no other: whatever more were to come, they are left, and it comes to the same state and the
-- same bodies. The session has gone there.
pub record GoesThrough (step : List LibraryCall → Step) (calls : List LibraryCall) (before now : SessionView) : Type 0 where
  pub state : State
  pub bodies : List (List ℕ)
  pub goes : (more : List LibraryCall) → step (calls ++ more) ≡ Goes state bodies more
  pub moves : Moves state bodies before now

-- An event made these calls, with their answers, and went through. Or memory ran out behind them: all of them are calls of the
-- event, which may make more. A session that was spent before makes none.
abbrev pub ComesBy : {T : Type 0} → Result T SessionFault → (step : List LibraryCall → Step) → (calls : List LibraryCall)
    → (before now : SessionView) → Type 0
ComesBy (Ok _) step calls before now = GoesThrough step calls before now
ComesBy (Err OutOfMemory) step calls before now = MakesAll (step calls) × RunsOut before now
ComesBy (Err Spent) step calls before now = (calls ≡ []) × StaysSpent before now

-- some calls were made, the library tells that it gained them with their answers, and the event came by them to its end
pub record ComesOver {T : Type 0} (result : Result T SessionFault) (step : List LibraryCall → Step)
    (calls_before calls_now : Option (List LibraryCall)) (before now : SessionView) : Type 0 where
  pub calls : List LibraryCall
  pub made : Gains calls_before calls calls_now
  pub comes : ComesBy result step calls before now
