-- One debug message (Debug Adapter Protocol, "Requests"): the debug sessions behind it and what is written for it, for every
-- message to every number, whatever sessions are in use.
use Rattle.std.specs.Prelude.{ℕ, ℤ, pos, true, if◌then◌else◌, List, [], ◌∷◌, codes, chars, map, Option, Some, None, option_map, is_some, Result, Ok, Err}
use Rattle.std.specs.Option.{option_map_or}
use Rattle.serde_json.specs.Data.{Data}
use Rattle.trace_values.specs.declared.item.TraceItem.{TraceItem}
use Rattle.trace_arena.specs.Points.{Point}
use Rattle.macro_debugger.specs.declared.stop.StepRule.{StepRule}
use Rattle.macro_debugger.specs.declared.stop.StepRule.TheVariants as rule
use Rattle.dap_messages.specs.Requests as requests
use Rattle.dap_messages.specs.Written.{response_value, refusal_value, event_value, capabilities_value, breakpoints_value, threads_value, stack_value, scopes_value, variables_value, continued_value, stopped_value}
use Rattle.dap_messages.specs.declared.bodies.StopReason.{StopReason}
use Rattle.dap_messages.specs.declared.requests.DapIn.{DapIn}
use Rattle.dap_messages.specs.declared.requests.DapHead.{DapHead}
use Rattle.dap_messages.specs.declared.requests.DapCommand.{DapCommand}
use Rattle.dap_messages.specs.declared.requests.DapCommand.TheVariants.{Initialize, Launch, SetBreakpoints, ConfigurationDone, Threads, StackTrace, Scopes, Variables, Next, StepIn, StepOut, Continue, Disconnect}
use Rattle.dap_messages.specs.declared.requests.DapRefusal.{DapRefusal}
use Rattle.dap_messages.specs.declared.requests.DapRefusal.TheVariants.{NotDap, UnknownCommand, BadArguments, OutOfMemory}
use Rattle.debug_sessions.specs.declared.debugger.Debugger.{Debugger}
use Rattle.debug_sessions.specs.declared.event.Event.{Event}
use Rattle.debug_sessions.specs.declared.event.Event.TheVariants.{Initialized, Stopped, Terminated}
use Rattle.debug_sessions.specs.declared.refusals.Refusal.{Refusal}
use Rattle.debug_sessions.specs.Launches as launches
use Rattle.debug_sessions.specs.Refusals.{told, refusal}
use Rattle.debug_sessions.specs.Shown.{shown_frame, stack_at, asked, variables_at}
use Rattle.debug_sessions.specs.State.{Debuggers, session_of, session_for, with_session, without_session, next_seq}
use Rattle.debug_sessions.specs.Stops.{Halt, first_halt, next_halt, halted}

-- ---- what a request does

-- What a request that is not refused comes to: the session behind it, or that its number is free again; what the response
-- carries; and what happens then.
pub record Effect : Type 0 where
  pub debugger : Option Debugger
  pub body : Option Data
  pub event : Option Event

-- the session is this one, and the response carries nothing
abbrev pub becomes : Debugger → Effect
becomes d = record { debugger = Some d; body = None; event = None }

-- the session is this one, and the response carries this
abbrev pub tells : Debugger → Data → Effect
tells d body = record { debugger = Some d; body = Some body; event = None }

-- a stop, or the end
abbrev pub event_of : Option Halt → Event
event_of None = Terminated
event_of (Some halt) = Stopped halt.reason

-- the program goes on to a stop, or to its end
abbrev pub goes_on : Debugger → launches.Launch → Option Halt → (body : Option Data) → Effect
goes_on d launch halt body = record {
  debugger = Some (record d { launch = Some (halted launch halt) });
  body = body;
  event = Some (event_of halt);
}

-- what comes of a launch, and of a stop; a request that needs one is refused where there is none
abbrev pub of_launch : Debugger → (launches.Launch → Effect) → Effect
of_launch d effect = option_map_or effect d.launch (becomes d)

abbrev pub of_stop : Debugger → (launches.Launch → (index : ℕ) → Effect) → Effect
of_stop d effect = of_launch d (λ launch. option_map_or (effect launch) launch.stop (becomes d))

-- the program begins; where it has begun that is refused
abbrev pub begins : (paths : List (List ℕ)) → Debugger → launches.Launch → Effect
begins paths d launch =
    if launch.is_started then becomes d
    else goes_on d (record launch { is_started = true }) (first_halt paths d.breakpoints launch.stops_on_entry launch.trace) None

-- the program takes a step
abbrev pub steps : (paths : List (List ℕ)) → Debugger → StepRule → (body : Option Data) → Effect
steps paths d by body = of_stop d (λ launch index. goes_on d launch (next_halt paths d.breakpoints by launch.trace index) body)

-- the frames of the stop are told
abbrev pub stack_told : (paths : List (List ℕ)) → Debugger → Effect
stack_told paths d = of_stop d (λ launch index. tells d (stack_value (map (shown_frame paths) (stack_at launch.trace index))))

-- the variables under a reference are told
abbrev pub variables_told : Debugger → (reference : ℕ) → Effect
variables_told d reference = of_stop d (λ launch index. tells d (variables_value (variables_at launch.trace index reference)))

-- What each command does, where the texts of paths are these, and the trace of the program that it launches is this.
abbrev pub effect : (paths : List (List ℕ)) → (program : Option (List (Point TraceItem))) → Debugger → DapCommand → Effect
effect paths program d Initialize = record { debugger = Some d; body = Some capabilities_value; event = Some Initialized }
effect paths program d (Launch path stops_on_entry) = becomes (record d { launch = option_map (launches.launch_of stops_on_entry) program })
effect paths program d (SetBreakpoints path lines) = tells (record d { breakpoints = launches.with_lines (record { path = path; lines = lines }) d.breakpoints }) (breakpoints_value lines)
effect paths program d ConfigurationDone = of_launch d (begins paths d)
effect paths program d Threads = tells d threads_value
effect paths program d StackTrace = stack_told paths d
effect paths program d (Scopes frame) = tells d (scopes_value (asked frame))
effect paths program d (Variables reference) = variables_told d (asked reference)
effect paths program d Next = steps paths d rule.Over None
effect paths program d StepIn = steps paths d rule.In None
effect paths program d StepOut = steps paths d rule.Out None
effect paths program d Continue = steps paths d rule.Continue (Some continued_value)
effect paths program d Disconnect = record { debugger = None; body = None; event = None }

-- ---- what is written

-- a message of this number
abbrev pub event_message : Event → ℕ → Data
event_message Initialized seq = event_value (chars (codes "initialized")) seq None
event_message (Stopped reason) seq = event_value (chars (codes "stopped")) seq (Some (stopped_value reason))
event_message Terminated seq = event_value (chars (codes "terminated")) seq None

-- the event, behind a message of this number
abbrev pub events_behind : ℕ → Option Event → List Data
events_behind seq None = []
events_behind seq (Some event) = event_message event (next_seq seq) ∷ []

-- the number of the last message
abbrev pub last_seq : ℕ → Option Event → ℕ
last_seq seq None = seq
last_seq seq (Some event) = next_seq seq

-- What a debug message comes to: the sessions behind it, and the messages to its client; where it is no request there are none,
-- and a line of the log says so.
pub record Outcome : Type 0 where
  pub sessions : Debuggers
  pub messages : Option (List Data)

-- the sessions are these, and this is written
abbrev pub writes : Debuggers → List Data → Outcome
writes ds messages = record { sessions = ds; messages = Some messages }

-- the message is no request
abbrev pub logged : Debuggers → Outcome
logged ds = record { sessions = ds; messages = None }

-- the session of a number is another one, or the number is free again
abbrev pub placed : ℕ → Option Debugger → Debuggers → Debuggers
placed number None ds = without_session number ds
placed number (Some d) ds = with_session number d ds

-- a session that has sent so many messages
abbrev pub sent : ℕ → Debugger → Debugger
sent seq d = record d { seq = seq }

-- a request is done: the response has the next number of its session, and the event the one behind
abbrev pub done : Debuggers → (number : ℕ) → DapIn → Debugger → Effect → Outcome
done ds number request d effect = writes
    (placed number (option_map (sent (last_seq (next_seq d.seq) effect.event)) effect.debugger) ds)
    (response_value (chars (requests.name_of request.command)) request.seq (next_seq d.seq) effect.body
    ∷ events_behind (next_seq d.seq) effect.event)

-- ---- refusals

-- in place of what is not there
abbrev pub no_head : DapHead
no_head = record { seq = pos 0; command = [] }

-- the number that a client gave its request, and the command as it is repeated
abbrev pub head_of : Result DapIn DapRefusal → DapHead
head_of (Ok request) = record { seq = request.seq; command = chars (requests.name_of request.command) }
head_of (Err NotDap) = no_head
head_of (Err (UnknownCommand head)) = head
head_of (Err (BadArguments head)) = head
head_of (Err OutOfMemory) = no_head

-- the number of the next message of a session; of a number that is not in use it is 0
abbrev pub seq_for : Option Debugger → ℕ
seq_for found = option_map_or (λ d. next_seq d.seq) found 0

-- the sessions where the one of a number has sent one message more, if that is in use
abbrev pub counted : ℕ → Option Debugger → Debuggers → Debuggers
counted number None ds = ds
counted number (Some d) ds = with_session number (sent (next_seq d.seq) d) ds

-- a request is refused: only that is written, and no session has changed but for the number of its messages
abbrev pub refused : Debuggers → (number : ℕ) → DapHead → Refusal → Outcome
refused ds number head why = writes
    (counted number (session_of number ds) ds)
    (refusal_value head.command head.seq (seq_for (session_of number ds)) (chars (told why)) ∷ [])

-- ---- messages

-- a request that is not refused; a message that is no request is refused always
abbrev pub obeyed : (paths : List (List ℕ)) → (program : Option (List (Point TraceItem))) → Debuggers → (number : ℕ) → Result DapIn DapRefusal → Outcome
obeyed paths program ds number (Ok request) =
    done ds number request (session_for number ds) (effect paths program (session_for number ds) request.command)
obeyed paths program ds number (Err refusal) = logged ds

-- a request: its refusal, or what it does
abbrev pub unless_refused : Option Refusal → Debuggers → (number : ℕ) → DapHead → Outcome → Outcome
unless_refused None ds number head outcome = outcome
unless_refused (Some why) ds number head outcome = refused ds number head why

-- a request, where the program that it launches, if it does, is an open one whose trace is this
unfoldable pub judged : (paths : List (List ℕ)) → Debuggers → (number : ℕ) → Result DapIn DapRefusal → (program : Option (List (Point TraceItem))) → Outcome
judged paths ds number read program =
    unless_refused (refusal ds number read (is_some program)) ds number (head_of read) (obeyed paths program ds number read)

-- What a debug message to the session of a number comes to, where the texts of paths are these by their numbers, and where the
-- program that it launches, if it does, is an open one whose trace is this. Want of memory is no message: `request_of` never
-- gives it.
unfoldable pub answer : (paths : List (List ℕ)) → Debuggers → (number : ℕ) → Result DapIn DapRefusal → (program : Option (List (Point TraceItem))) → Outcome
answer paths ds number (Ok request) program = judged paths ds number (Ok request) program
answer paths ds number (Err NotDap) program = logged ds
answer paths ds number (Err (UnknownCommand head)) program = judged paths ds number (Err (UnknownCommand head)) program
answer paths ds number (Err (BadArguments head)) program = judged paths ds number (Err (BadArguments head)) program
answer paths ds number (Err OutOfMemory) program = logged ds
