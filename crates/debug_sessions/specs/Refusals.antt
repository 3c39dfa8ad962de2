-- Why a debug message is refused (Debug Adapter Protocol, "Base Protocol", `ErrorResponse`; the reasons are this project's): one
-- table, a line for each reason, in the order in which they are tried.
use Rattle.std.specs.Prelude.{ℕ, ℤ, Bool, true, false, not, ◌&&◌, nat_le, List, [], ◌∷◌, ◌++◌, codes, length, count_by, if◌then◌else◌, Option, Some, None, option_and_then, is_some, Result, Ok, Err, encode_utf8_all}
use Rattle.std.specs.Option.{option_map_or}
use Rattle.std.specs.Str.{bytes_eq}
use Rattle.hl_base.specs.declared.place.Frame.{Frame}
use Rattle.dap_messages.specs.declared.requests.DapIn.{DapIn}
use Rattle.dap_messages.specs.declared.requests.DapHead.{DapHead}
use Rattle.dap_messages.specs.declared.requests.DapCommand.{DapCommand}
use Rattle.dap_messages.specs.declared.requests.DapCommand.TheVariants.{Initialize, Launch, SetBreakpoints, ConfigurationDone, Threads, StackTrace, Scopes, Variables, Next, StepIn, StepOut, Continue, Disconnect}
use Rattle.dap_messages.specs.declared.requests.DapRefusal.{DapRefusal}
use Rattle.dap_messages.specs.declared.requests.DapRefusal.TheVariants.{NotDap, UnknownCommand, BadArguments, OutOfMemory}
use Rattle.debug_sessions.specs.declared.debugger.Debugger.{Debugger}
use Rattle.debug_sessions.specs.declared.refusals.Refusal.{Refusal}
use Rattle.debug_sessions.specs.declared.refusals.Refusal.TheVariants as why
use Rattle.debug_sessions.specs.declared.wants.Want.{Want}
use Rattle.debug_sessions.specs.declared.wants.Want.TheVariants.{Free, Idle, Launched, Stop, Session}
use Rattle.debug_sessions.specs.Launches as launches
use Rattle.debug_sessions.specs.Shown.{stack, is_frame, asked, frame_of_reference}
use Rattle.debug_sessions.specs.State.{Debuggers, has_number, session_of}

-- ---- the reasons as they are told

abbrev pub told : Refusal → List ℕ
told why.UnknownCommand = codes "UnknownCommand"
told why.NoSession = codes "NoSession"
told why.TooManySessions = codes "TooManySessions"
told why.AlreadyInitialized = codes "AlreadyInitialized"
told why.BadArguments = codes "BadArguments"
told why.AlreadyLaunched = codes "AlreadyLaunched"
told why.NoProgram = codes "NoProgram"
told why.NotLaunched = codes "NotLaunched"
told why.AlreadyStarted = codes "AlreadyStarted"
told why.NotStopped = codes "NotStopped"

-- ---- what a request wants of its session

abbrev pub want_of : DapCommand → Want
want_of Initialize = Free
want_of (Launch program stops_on_entry) = Idle
want_of (SetBreakpoints path lines) = Session
want_of ConfigurationDone = Launched
want_of Threads = Session
want_of StackTrace = Stop
want_of (Scopes frame) = Stop
want_of (Variables reference) = Stop
want_of Next = Stop
want_of StepIn = Stop
want_of StepOut = Stop
want_of Continue = Stop
want_of Disconnect = Session

-- of a request of which the head alone is known
abbrev pub want_of_head : DapHead → Want
want_of_head head = if bytes_eq (encode_utf8_all head.command) (codes "initialize") then Free else Session

-- want of memory is no message: `request_of` never gives it
abbrev pub wanted : Result DapIn DapRefusal → Want
wanted (Ok request) = want_of request.command
wanted (Err NotDap) = Session
wanted (Err (UnknownCommand head)) = want_of_head head
wanted (Err (BadArguments head)) = want_of_head head
wanted (Err OutOfMemory) = Session

-- the frame that a command names, or that of the reference that it names
abbrev pub frame_named : DapCommand → Option ℕ
frame_named Initialize = None
frame_named (Launch program stops_on_entry) = None
frame_named (SetBreakpoints path lines) = None
frame_named ConfigurationDone = None
frame_named Threads = None
frame_named StackTrace = None
frame_named (Scopes frame) = Some (asked frame)
frame_named (Variables reference) = Some (frame_of_reference (asked reference))
frame_named Next = None
frame_named StepIn = None
frame_named StepOut = None
frame_named Continue = None
frame_named Disconnect = None

abbrev pub frame_wanted : Result DapIn DapRefusal → Option ℕ
frame_wanted (Ok request) = frame_named request.command
frame_wanted (Err refusal) = None

-- ---- what a session is told apart by

-- the launch of a session that is in use
abbrev pub launch_in : Option Debugger → Option launches.Launch
launch_in found = option_and_then (λ d. d.launch) found

-- its program is stopped
abbrev pub is_stopped : Option Debugger → Bool
is_stopped found = option_map_or (λ launch. is_some launch.stop) (launch_in found) false

-- configurationDone came
abbrev pub is_started : Option Debugger → Bool
is_started found = option_map_or (λ launch. launch.is_started) (launch_in found) false

-- how many frames it shows
abbrev pub frames_in : Option Debugger → ℕ
frames_in found = option_map_or (λ launch. length (stack launch)) (launch_in found) 0

-- how many sessions of other numbers are in use
abbrev pub others : ℕ → Debuggers → ℕ
others number ds = count_by (λ d. not (has_number number d)) ds

-- ---- the table: each line holds or not

-- the reason, if it is there
abbrev pub where_so : Bool → Refusal → Option Refusal
where_so true why = Some why
where_so false why = None

-- the command is none of the protocol's that are known here
abbrev pub unknown_command : Result DapIn DapRefusal → Option Refusal
unknown_command (Ok request) = None
unknown_command (Err NotDap) = None
unknown_command (Err (UnknownCommand head)) = Some why.UnknownCommand
unknown_command (Err (BadArguments head)) = None
unknown_command (Err OutOfMemory) = None

-- the number is not in use, and the command does not begin a session
abbrev pub no_session : Want → Option Debugger → Option Refusal
no_session Free found = None
no_session Idle found = where_so (not (is_some found)) why.NoSession
no_session Launched found = where_so (not (is_some found)) why.NoSession
no_session Stop found = where_so (not (is_some found)) why.NoSession
no_session Session found = where_so (not (is_some found)) why.NoSession

-- a session is to begin, and eight others are in use
abbrev pub too_many : Want → (others : ℕ) → Option Refusal
too_many Free others = where_so (nat_le 8 others) why.TooManySessions
too_many Idle others = None
too_many Launched others = None
too_many Stop others = None
too_many Session others = None

-- a session is to begin whose number is in use
abbrev pub already_initialized : Want → Option Debugger → Option Refusal
already_initialized Free found = where_so (is_some found) why.AlreadyInitialized
already_initialized Idle found = None
already_initialized Launched found = None
already_initialized Stop found = None
already_initialized Session found = None

-- an argument is missing or of a wrong kind
abbrev pub bad_arguments : Result DapIn DapRefusal → Option Refusal
bad_arguments (Ok request) = None
bad_arguments (Err NotDap) = None
bad_arguments (Err (UnknownCommand head)) = None
bad_arguments (Err (BadArguments head)) = Some why.BadArguments
bad_arguments (Err OutOfMemory) = None

-- a second launch
abbrev pub already_launched : Want → Option Debugger → Option Refusal
already_launched Free found = None
already_launched Idle found = where_so (is_some (launch_in found)) why.AlreadyLaunched
already_launched Launched found = None
already_launched Stop found = None
already_launched Session found = None

-- the path of a launch is that of no open program
abbrev pub no_program : Want → (is_program : Bool) → Option Refusal
no_program Free is_program = None
no_program Idle is_program = where_so (not is_program) why.NoProgram
no_program Launched is_program = None
no_program Stop is_program = None
no_program Session is_program = None

-- configurationDone before a launch
abbrev pub not_launched : Want → Option Debugger → Option Refusal
not_launched Free found = None
not_launched Idle found = None
not_launched Launched found = where_so (not (is_some (launch_in found))) why.NotLaunched
not_launched Stop found = None
not_launched Session found = None

-- a second configurationDone
abbrev pub already_started : Want → Option Debugger → Option Refusal
already_started Free found = None
already_started Idle found = None
already_started Launched found = where_so (is_started found) why.AlreadyStarted
already_started Stop found = None
already_started Session found = None

-- a command that needs a stop, and there is none
abbrev pub not_stopped : Want → Option Debugger → Option Refusal
not_stopped Free found = None
not_stopped Idle found = None
not_stopped Launched found = None
not_stopped Stop found = where_so (not (is_stopped found)) why.NotStopped
not_stopped Session found = None

-- an argument names no frame or reference of this stop
abbrev pub no_frame : Option ℕ → (frames : ℕ) → Option Refusal
no_frame None frames = None
no_frame (Some frame) frames = where_so (not (is_frame frames frame)) why.BadArguments

-- ---- the table

-- the first reason that there is
abbrev pub first_of : List (Option Refusal) → Option Refusal
first_of [] = None
first_of (None ∷ others) = first_of others
first_of (Some why ∷ others) = Some why

-- the reasons that are tried before the program of a launch is looked for, where this is the session of the number
abbrev pub early : Result DapIn DapRefusal → (others : ℕ) → Option Debugger → List (Option Refusal)
early read others found =
    unknown_command read
    ∷ no_session (wanted read) found
    ∷ too_many (wanted read) others
    ∷ already_initialized (wanted read) found
    ∷ bad_arguments read
    ∷ already_launched (wanted read) found
    ∷ []

-- the others
abbrev pub late : Result DapIn DapRefusal → (is_program : Bool) → Option Debugger → List (Option Refusal)
late read is_program found =
    no_program (wanted read) is_program
    ∷ not_launched (wanted read) found
    ∷ already_started (wanted read) found
    ∷ not_stopped (wanted read) found
    ∷ no_frame (frame_wanted read) (frames_in found)
    ∷ []

-- why a debug message to the session of a number is refused, if it is, where its program is an open one or not
abbrev pub refusal : Debuggers → ℕ → Result DapIn DapRefusal → (is_program : Bool) → Option Refusal
refusal ds number read is_program =
    first_of (early read (others number ds) (session_of number ds) ++ late read is_program (session_of number ds))

-- ---- programs that are launched

-- the path of the program that a command launches
abbrev pub launched_by : DapCommand → Option (List ℕ)
launched_by Initialize = None
launched_by (Launch program stops_on_entry) = Some program
launched_by (SetBreakpoints path lines) = None
launched_by ConfigurationDone = None
launched_by Threads = None
launched_by StackTrace = None
launched_by (Scopes frame) = None
launched_by (Variables reference) = None
launched_by Next = None
launched_by StepIn = None
launched_by StepOut = None
launched_by Continue = None
launched_by Disconnect = None

abbrev pub launched_in : Result DapIn DapRefusal → Option (List ℕ)
launched_in (Ok request) = launched_by request.command
launched_in (Err refusal) = None

-- what there is, unless there is a reason against it
abbrev pub unless : {A : Type 0} → Option Refusal → Option A → Option A
unless None given = given
unless (Some why) given = None

-- the path of the program that is to be looked for: that of a launch that nothing before refuses
abbrev pub program_wanted : Debuggers → ℕ → Result DapIn DapRefusal → Option (List ℕ)
program_wanted ds number read =
    unless (first_of (early read (others number ds) (session_of number ds))) (launched_in read)
