-- The debug request that a JSON value is, or why it is none (Debug Adapter Protocol, "Base Protocol", `Request`).
use Rattle.std.specs.Prelude.{ℕ, ℤ, List, Bool, false, codes, unwrap_or, if◌then◌else◌, Option, Some, None, option_map, option_and_then, ok_or, Result, Ok, Err, chars}
use Rattle.std.specs.Str.{bytes_eq}
use Rattle.serde_json.specs.Data.{Data}
use Rattle.serde_json.specs.Find.{get, as_str}
use Rattle.json_view.specs.declared.members.MemberFault.{MemberFault}
use Rattle.json_view.specs.Members.{member_of, as_i32}
use Rattle.dap_messages.specs.declared.requests.DapIn.{DapIn}
use Rattle.dap_messages.specs.declared.requests.DapHead.{DapHead}
use Rattle.dap_messages.specs.declared.requests.DapCommand.{DapCommand}
use Rattle.dap_messages.specs.declared.requests.DapCommand.TheVariants.{Initialize, Launch, SetBreakpoints, ConfigurationDone, Threads, StackTrace, Scopes, Variables, Next, StepIn, StepOut, Continue, Disconnect}
use Rattle.dap_messages.specs.declared.requests.DapRefusal.{DapRefusal}
use Rattle.dap_messages.specs.declared.requests.DapRefusal.TheVariants.{NotDap, UnknownCommand, BadArguments, OutOfMemory}
use Rattle.dap_messages.specs.Arguments.{◌>>=◌, initialization, launching, setting, scopes_asked, variables_asked}

-- ---- what a request says of itself

-- it says that it is a request
abbrev pub is_request : Data → Bool
is_request value = unwrap_or (option_map (bytes_eq (codes "request")) (option_and_then as_str (get (codes "type") value))) false

-- what there is, or no debug message
abbrev pub or_not_dap : {A F : Type 0} → Result A F → Result A DapRefusal
or_not_dap (Ok value) = Ok value
or_not_dap (Err fault) = Err NotDap

-- the number that its client gave it, of 32 bits with a sign
abbrev pub seq_of : Data → Result ℤ DapRefusal
seq_of message = or_not_dap (member_of as_i32 (codes "seq") message)

-- the name of its command
abbrev pub name_in : Data → Result (List ℕ) DapRefusal
name_in message = or_not_dap (member_of as_str (codes "command") message)

-- its head, of this number and command
abbrev pub head_with : ℤ → List ℕ → DapHead
head_with seq name = record { seq = seq; command = chars name }

-- ---- commands

-- the name of a command
abbrev pub name_of : DapCommand → List ℕ
name_of Initialize = codes "initialize"
name_of (Launch program stops) = codes "launch"
name_of (SetBreakpoints path lines) = codes "setBreakpoints"
name_of ConfigurationDone = codes "configurationDone"
name_of Threads = codes "threads"
name_of StackTrace = codes "stackTrace"
name_of (Scopes frame) = codes "scopes"
name_of (Variables reference) = codes "variables"
name_of Next = codes "next"
name_of StepIn = codes "stepIn"
name_of StepOut = codes "stepOut"
name_of Continue = codes "continue"
name_of Disconnect = codes "disconnect"

-- a command, or wrong arguments of one
abbrev pub unless_bad : DapHead → Result DapCommand MemberFault → Result DapCommand DapRefusal
unless_bad head (Ok command) = Ok command
unless_bad head (Err fault) = Err (BadArguments head)

-- the command of this name, of those that read no arguments
abbrev pub bare_of : List ℕ → Option DapCommand
bare_of name =
    if bytes_eq name (codes "configurationDone") then Some ConfigurationDone else
    (if bytes_eq name (codes "threads") then Some Threads else
    (if bytes_eq name (codes "stackTrace") then Some StackTrace else
    (if bytes_eq name (codes "next") then Some Next else
    (if bytes_eq name (codes "stepIn") then Some StepIn else
    (if bytes_eq name (codes "stepOut") then Some StepOut else
    (if bytes_eq name (codes "continue") then Some Continue else
    (if bytes_eq name (codes "disconnect") then Some Disconnect else
    None)))))))

-- the same, or a command that is unknown
abbrev pub bare_command : ℤ → List ℕ → Result DapCommand DapRefusal
bare_command seq name = ok_or (bare_of name) (UnknownCommand (head_with seq name))

-- the command of this name, with its arguments where it reads some
abbrev pub command_of : ℤ → List ℕ → Data → Result DapCommand DapRefusal
command_of seq name message =
    if bytes_eq name (codes "initialize") then unless_bad (head_with seq name) (initialization message) else
    (if bytes_eq name (codes "launch") then unless_bad (head_with seq name) (launching message) else
    (if bytes_eq name (codes "setBreakpoints") then unless_bad (head_with seq name) (setting message) else
    (if bytes_eq name (codes "scopes") then unless_bad (head_with seq name) (scopes_asked message) else
    (if bytes_eq name (codes "variables") then unless_bad (head_with seq name) (variables_asked message) else
    bare_command seq name))))

-- ---- requests

-- the request that a value is which says that it is one
abbrev pub request_told : Data → Result DapIn DapRefusal
request_told message = do
  seq ← seq_of message
  name ← name_in message
  command ← command_of seq name message
  Ok (record { seq = seq; command = command })

-- the request that a value is, or the first refusal
unfoldable pub request_of : Data → Result DapIn DapRefusal
request_of value = if is_request value then request_told value else Err NotDap

-- what a refusal says of a request, which want of memory does not
abbrev pub said_by : DapRefusal → Option DapRefusal
said_by OutOfMemory = None
said_by refusal = Some refusal
