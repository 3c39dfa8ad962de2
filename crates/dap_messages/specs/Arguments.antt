-- The arguments of debug requests (Debug Adapter Protocol, "Requests"): each as the kind that its request wants. A member
-- that is not named here is ignored; null is of no wanted kind.
use Rattle.std.specs.Prelude.{ℕ, List, [], ◌∷◌, Bool, false, nat_lt, codes, Option, Some, None, option_and_then, unwrap_or, Result, Ok, Err, chars}
use Rattle.serde_json.specs.Data.{Data, no_items, object, no_members}
use Rattle.serde_json.specs.Find.{as_bool, as_str, as_array}
use Rattle.json_view.specs.declared.members.MemberFault.{MemberFault}
use Rattle.json_view.specs.Members.{member_of, unless_missing, kept_if, as_object_value, as_u32, as_i32, list_of}
use Rattle.dap_messages.specs.declared.requests.DapCommand.{DapCommand}
use Rattle.dap_messages.specs.declared.requests.DapCommand.TheVariants.{Initialize, Launch, SetBreakpoints, Scopes, Variables}
use Rattle.dap_messages.specs.declared.arguments.ArgumentFault.{ArgumentFault}
use Rattle.dap_messages.specs.declared.arguments.ArgumentFault.TheVariants.{Bad, OutOfMemory}

-- what is read after something else was, or why that was not
infixl 10 ◌>>=◌
abbrev pub ◌>>=◌ : {A B E : Type 0} → Result A E → (A → Result B E) → Result B E
Ok value >>= next = next value
Err fault >>= next = Err fault

-- every element read, from the first on, or why the first that cannot be read is not
abbrev pub each : {A B : Type 0} → (A → Result B MemberFault) → List A → Result (List B) MemberFault
each read [] = Ok []
each read (x ∷ xs) = read x >>= (λ y. each read xs >>= (λ ys. Ok (y ∷ ys)))

-- what a fault says of a member, which want of memory does not
abbrev pub named_by : ArgumentFault → Option MemberFault
named_by (Bad fault) = Some fault
named_by OutOfMemory = None

-- the arguments of a request; where there are none, an object without members
abbrev pub arguments_of : Data → Result Data MemberFault
arguments_of message = do
  given ← unless_missing (member_of as_object_value (codes "arguments") message)
  Ok (unwrap_or given (object no_members))

-- ---- initialize (`InitializeRequestArguments`)

-- the truth value true
abbrev pub as_true : Data → Option Bool
as_true value = option_and_then (kept_if (λ b. b)) (as_bool value)

-- a client makes itself known; it counts lines and columns from 1, as the answers do
unfoldable pub initialization : Data → Result DapCommand MemberFault
initialization message = do
  arguments ← arguments_of message
  lines ← unless_missing (member_of as_true (codes "linesStartAt1") arguments)
  columns ← unless_missing (member_of as_true (codes "columnsStartAt1") arguments)
  Ok Initialize

-- ---- launch (the arguments are this project's)

-- a program is launched; it does not stop at its first point unless that is asked for
unfoldable pub launching : Data → Result DapCommand MemberFault
launching message = do
  arguments ← arguments_of message
  program ← member_of as_str (codes "program") arguments
  stops ← unless_missing (member_of as_bool (codes "stopOnEntry") arguments)
  Ok (Launch (chars program) (unwrap_or stops false))

-- ---- setBreakpoints (`SetBreakpointsArguments`)

-- a line: a whole number from 1 to 2^32 - 1
abbrev pub as_line : Data → Option ℕ
as_line value = option_and_then (kept_if (λ n. nat_lt 0 n)) (as_u32 value)

-- the line of a breakpoint; a value that is no object has none
abbrev pub line_in : Data → Result ℕ MemberFault
line_in breakpoint = member_of as_line (codes "line") breakpoint

-- the lines of the breakpoints, in their order; none where the list is missing
abbrev pub lines_in : Data → Result (List ℕ) MemberFault
lines_in arguments = do
  given ← unless_missing (member_of as_array (codes "breakpoints") arguments)
  each line_in (list_of (unwrap_or given no_items))

-- the breakpoints of a path
unfoldable pub setting : Data → Result DapCommand MemberFault
setting message = do
  arguments ← arguments_of message
  source ← member_of as_object_value (codes "source") arguments
  path ← member_of as_str (codes "path") source
  lines ← lines_in arguments
  Ok (SetBreakpoints (chars path) lines)

-- ---- scopes (`ScopesArguments`), variables (`VariablesArguments`)

-- the scopes of a frame
unfoldable pub scopes_asked : Data → Result DapCommand MemberFault
scopes_asked message = do
  arguments ← arguments_of message
  frame ← member_of as_i32 (codes "frameId") arguments
  Ok (Scopes frame)

-- the variables under a reference
unfoldable pub variables_asked : Data → Result DapCommand MemberFault
variables_asked message = do
  arguments ← arguments_of message
  reference ← member_of as_i32 (codes "variablesReference") arguments
  Ok (Variables reference)
