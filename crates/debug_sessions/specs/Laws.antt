-- What holds of debug sessions over messages (this project).
use Rattle.std.specs.Prelude.{◌≡◌, ◌≢◌, ℕ, ◌==◌, ◌&&◌, Bool, true, false, List, [], ◌∷◌, map, Option, Some, option_map, is_some, Result, Ok, Err}
use Rattle.std.specs.List.{list_any}
use Rattle.trace_values.specs.declared.item.TraceItem.{TraceItem}
use Rattle.trace_arena.specs.Points.{Point}
use Rattle.dap_messages.specs.declared.requests.DapIn.{DapIn}
use Rattle.dap_messages.specs.declared.requests.DapCommand.{DapCommand}
use Rattle.dap_messages.specs.declared.requests.DapCommand.TheVariants.{Initialize, Launch, SetBreakpoints, ConfigurationDone, Threads, StackTrace, Scopes, Variables, Next, StepIn, StepOut, Continue, Disconnect}
use Rattle.dap_messages.specs.declared.requests.DapRefusal.{DapRefusal}
use Rattle.debug_sessions.specs.declared.debugger.Debugger.{Debugger}
use Rattle.debug_sessions.specs.declared.refusals.Refusal.{Refusal}
use Rattle.debug_sessions.specs.State.{Debuggers, session_of}
use Rattle.debug_sessions.specs.Refusals.{refusal, launch_in}
use Rattle.debug_sessions.specs.Answers.{Outcome, sent, answer}

-- ---- refusals

-- a session but for how many messages it has sent
abbrev pub uncounted : Debugger → Debugger
uncounted d = sent 0 d

-- no session has changed but for how many messages the one of a number has sent
pub record ChangesNothing (ds : Debuggers) (number : ℕ) (outcome : Outcome) : Type 0 where
  pub same : map uncounted outcome.sessions ≡ map uncounted ds
  pub others : (other : ℕ) → other ≢ number → session_of other outcome.sessions ≡ session_of other ds

-- a message that is refused changes nothing but how many messages its session has sent
abbrev pub RefusalsChangeNothing : Type 0
RefusalsChangeNothing = (paths : List (List ℕ)) (ds : Debuggers) (number : ℕ) (read : Result DapIn DapRefusal) (program : Option (List (Point TraceItem))) (why : Refusal) →
    refusal ds number read (is_some program) ≡ Some why → ChangesNothing ds number (answer paths ds number read program)

-- ---- traces

-- a message to the session of a number as it was read, the texts of paths as they are then, and the trace of the program that
-- it launches, where it does
pub record Message : Type 0 where
  pub number : ℕ
  pub read : Result DapIn DapRefusal
  pub paths : List (List ℕ)
  pub program : Option (List (Point TraceItem))

-- the sessions behind messages in turn
abbrev pub after : Debuggers → List Message → Debuggers
after ds [] = ds
after ds (m ∷ ms) = after (answer m.paths ds m.number m.read m.program).sessions ms

abbrev pub is_disconnect : DapCommand → Bool
is_disconnect Initialize = false
is_disconnect (Launch program stops_on_entry) = false
is_disconnect (SetBreakpoints path lines) = false
is_disconnect ConfigurationDone = false
is_disconnect Threads = false
is_disconnect StackTrace = false
is_disconnect (Scopes frame) = false
is_disconnect (Variables reference) = false
is_disconnect Next = false
is_disconnect StepIn = false
is_disconnect StepOut = false
is_disconnect Continue = false
is_disconnect Disconnect = true

abbrev pub reads_disconnect : Result DapIn DapRefusal → Bool
reads_disconnect (Ok request) = is_disconnect request.command
reads_disconnect (Err refusal) = false

-- a message disconnects the session of a number
abbrev pub disconnects : ℕ → Message → Bool
disconnects number m = (m.number == number) && reads_disconnect m.read

-- the trace that the session of a number has of its launch
abbrev pub trace_in : ℕ → Debuggers → Option (List (Point TraceItem))
trace_in number ds = option_map (λ launch. launch.trace) (launch_in (session_of number ds))

-- The trace of a launch stays until its session is disconnected, whatever messages come between, launches of other sessions
-- too.
abbrev pub LaunchesKeepTheirTraces : Type 0
LaunchesKeepTheirTraces = (ds : Debuggers) (number : ℕ) (trace : List (Point TraceItem)) (messages : List Message) →
    trace_in number ds ≡ Some trace → list_any (disconnects number) messages ≡ false →
    trace_in number (after ds messages) ≡ Some trace
