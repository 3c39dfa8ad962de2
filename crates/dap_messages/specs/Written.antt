-- What is written, as JSON values (Debug Adapter Protocol, `Response`, `ErrorResponse`, `Event` and the bodies of each).
-- Members stand in the order of the bytes of their names.
use Rattle.std.specs.Prelude.{ℕ, ◌-◌, ◌*◌, ℤ, List, [], ◌∷◌, Bool, true, false, codes, length, map, encode_utf8_all, Option, Some, None, option_map}
use Rattle.std.specs.List.{enumerate_from}
use Rattle.serde_json.specs.Data.{Data, Members, boolean, number, unsigned, string, array, object, member, no_members}
use Rattle.serde_json.specs.Find.{of_integer}
use Rattle.serde_json.specs.View.{view, items_of}
use Rattle.serde_json.specs.Written.{has_float}
use Rattle.serde_json.specs.declared.value.Value.{Value}
use Rattle.dap_messages.specs.declared.outgoing.DapOut.{DapOut}
use Rattle.dap_messages.specs.declared.outgoing.DapOut.TheVariants.{Response, Refusal, Event}
use Rattle.dap_messages.specs.declared.bodies.StackFrame.{StackFrame}
use Rattle.dap_messages.specs.declared.bodies.Variable.{Variable}
use Rattle.dap_messages.specs.declared.bodies.StopReason.{StopReason}
use Rattle.dap_messages.specs.declared.bodies.StopReason.TheVariants.{Entry, Breakpoint, Step}

-- a text as JSON has it
abbrev pub text_value : List ℕ → Data
text_value text = string (encode_utf8_all text)

-- ---- messages

-- a message with this body, if it has one, before its other members
abbrev pub with_body : Option Data → Members → Data
with_body None others = object others
with_body (Some body) others = object (member (codes "body") body others)

-- the members of an answer to a request that are last, whether it was done and what the message is
abbrev pub answer_end : ℤ → ℕ → Bool → Members
answer_end request seq done =
    member (codes "request_seq") (number (of_integer request))
    (member (codes "seq") (number (unsigned seq))
    (member (codes "success") (boolean done)
    (member (codes "type") (string (codes "response")) no_members)))

-- a request was done
abbrev pub response_value : List ℕ → ℤ → ℕ → Option Data → Data
response_value command request seq body =
    with_body body
    (member (codes "command") (text_value command)
    (answer_end request seq true))

-- a request is refused
abbrev pub refusal_value : List ℕ → ℤ → ℕ → List ℕ → Data
refusal_value command request seq message =
    object (member (codes "command") (text_value command)
    (member (codes "message") (text_value message)
    (answer_end request seq false)))

-- something happened
abbrev pub event_value : List ℕ → ℕ → Option Data → Data
event_value event seq body =
    with_body body
    (member (codes "event") (text_value event)
    (member (codes "seq") (number (unsigned seq))
    (member (codes "type") (string (codes "event")) no_members)))

-- the body as its JSON value, where there is one
abbrev pub body_of : Option Value → Option Data
body_of body = option_map view body

-- a message as a JSON value
unfoldable pub value_of : DapOut → Data
value_of (Response command request seq body) = response_value command request seq (body_of body)
value_of (Refusal command request seq message) = refusal_value command request seq message
value_of (Event event seq body) = event_value event seq (body_of body)

-- whether a body has a number with a point or an exponent
abbrev pub body_has_fraction : Option Value → Bool
body_has_fraction None = false
body_has_fraction (Some body) = has_float (view body)

-- whether a message has one, which only its body can have
abbrev pub has_fraction : DapOut → Bool
has_fraction (Response command request seq body) = body_has_fraction body
has_fraction (Refusal command request seq message) = false
has_fraction (Event event seq body) = body_has_fraction body

-- ---- bodies

-- initialize: what the debugger can do
abbrev pub capabilities_value : Data
capabilities_value = object (member (codes "supportsConfigurationDoneRequest") (boolean true) no_members)

-- a breakpoint of a line, which is taken as it is
abbrev pub breakpoint_value : ℕ → Data
breakpoint_value line =
    object (member (codes "line") (number (unsigned line))
    (member (codes "verified") (boolean true) no_members))

-- setBreakpoints: the breakpoints of these lines
abbrev pub breakpoints_value : List ℕ → Data
breakpoints_value lines =
    object (member (codes "breakpoints") (array (items_of (map breakpoint_value lines))) no_members)

-- the one thread
abbrev pub thread_value : Data
thread_value =
    object (member (codes "id") (number (unsigned 1))
    (member (codes "name") (string (codes "assembly")) no_members))

-- threads: the one thread
abbrev pub threads_value : Data
threads_value = object (member (codes "threads") (array (items_of (thread_value ∷ []))) no_members)

-- where a frame stands
abbrev pub source_value : List ℕ → Data
source_value path = object (member (codes "path") (text_value path) no_members)

-- a frame of this number
abbrev pub frame_value : ℕ × StackFrame → Data
frame_value numbered =
    object (member (codes "column") (number (unsigned 1))
    (member (codes "id") (number (unsigned numbered.0))
    (member (codes "line") (number (unsigned numbered.1.line))
    (member (codes "name") (text_value numbered.1.name)
    (member (codes "source") (source_value numbered.1.path) no_members)))))

-- frames, and how many they are
abbrev pub counted_value : Data → ℕ → Data
counted_value frames count =
    object (member (codes "stackFrames") frames
    (member (codes "totalFrames") (number (unsigned count)) no_members))

-- stackTrace: these frames, numbered from 1, and how many they are
abbrev pub stack_value : List StackFrame → Data
stack_value frames = counted_value (array (items_of (map frame_value (enumerate_from 1 frames)))) (length frames)

-- a scope of this name, whose variables are under this reference
abbrev pub scope_value : List ℕ → ℕ → Data
scope_value name reference =
    object (member (codes "expensive") (boolean false)
    (member (codes "name") (string name)
    (member (codes "variablesReference") (number (unsigned reference)) no_members)))

-- scopes: the locals and the globals of the frame of this number
abbrev pub scopes_value : ℕ → Data
scopes_value frame =
    object (member (codes "scopes") (array (items_of
    (scope_value (codes "Locals") (2 * frame - 1) ∷ scope_value (codes "Globals") (2 * frame) ∷ []))) no_members)

-- a variable, which has no parts
abbrev pub variable_value : Variable → Data
variable_value variable =
    object (member (codes "name") (text_value variable.name)
    (member (codes "value") (text_value variable.value)
    (member (codes "variablesReference") (number (unsigned 0)) no_members)))

-- variables: these variables
abbrev pub variables_value : List Variable → Data
variables_value variables =
    object (member (codes "variables") (array (items_of (map variable_value variables))) no_members)

-- continue: the one thread goes on
abbrev pub continued_value : Data
continued_value = object (member (codes "allThreadsContinued") (boolean true) no_members)

-- the word for why the program stopped
abbrev pub reason_of : StopReason → List ℕ
reason_of Entry = codes "entry"
reason_of Breakpoint = codes "breakpoint"
reason_of Step = codes "step"

-- stopped: the one thread stopped
abbrev pub stopped_value : StopReason → Data
stopped_value reason =
    object (member (codes "reason") (string (reason_of reason))
    (member (codes "threadId") (number (unsigned 1)) no_members))
