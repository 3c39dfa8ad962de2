-- Macro definitions (HLASM Language Reference SC26-4940, "Format of a macro definition", "Macro prototype statement", "COPY
-- instruction", "Inner macro definitions"): the prototype, and the statements with those of copied members in place; or the
-- first fault.
use Rattle.std.specs.Prelude.{◌≡◌, ℕ, zero, suc, ◌+◌, ◌==◌, ◌^◌, Bool, true, false, List, [], ◌∷◌, ◌++◌, drop, is_some, Option, Some, None, Result, Ok, Err, if◌then◌else◌}
use Rattle.std.specs.List.{list_any}
use Rattle.std.specs.Str.{bytes_eq}
use Rattle.hl_base.specs.declared.place.Origin.{Origin}
use Rattle.hlasm_statements.specs.declared.statement.Statement.{Statement}
use Rattle.macro_binding.specs.Prototypes.{Prototype, prototype_of}
use Rattle.statement_listing.specs.Listings.{Listed}
use Rattle.macro_library.specs.declared.fault.DefFault.{DefFault}
use Rattle.macro_library.specs.declared.fault.DefFault.TheVariants.{NoMend, BadPrototype, CopyAbsent, CopyUnreadable, CopyCycle, TooLong, Asks, OutOfMemory}
use Rattle.macro_library.specs.declared.member.Member.{Member}
use Rattle.macro_library.specs.declared.member.Member.TheVariants.{Absent, Unreadable, File}
use Rattle.macro_library.specs.declared.variables.SystemVariables.{SystemVariables}
use Rattle.macro_library.specs.Members.{Told, lines_of, member_of}
use Rattle.macro_library.specs.Extents.{Headed, behind, copied, extent, headed, line_count}
use Rattle.macro_library.specs.Variables.{variables_of}

-- ---- what is met as the lines of a definition are read

-- a line stays, a COPY is replaced by what it copies, or there is a fault
pub data Met : Type 0 where
  stays : (line : Listed) → Met
  replaced : Met
  fails : (fault : DefFault) → Met

-- the member that a line copies where it stands in no inner definition: in one it stays, and is copied when that is read
abbrev pub copied_at : (begun : ℕ) → Listed → Option (List ℕ)
copied_at begun one = if begun == 0 then copied one else None

-- how many inner definitions are begun behind what was met
abbrev pub behind_met : (begun : ℕ) → List Met → ℕ
behind_met begun [] = begun
behind_met begun (stays line ∷ rest) = behind_met (behind begun line) rest
behind_met begun (replaced ∷ rest) = behind_met begun rest
behind_met begun (fails fault ∷ rest) = behind_met begun rest

-- what was met, and then what is behind it
abbrev pub and_behind : (begun : ℕ) → List Met → (ℕ → List Met) → List Met
and_behind begun inside others = inside ++ others (behind_met begun inside)

-- what is met at a line, and then behind it
abbrev pub met_at : (in_member : ℕ → List ℕ → List Met) (begun : ℕ) → Listed → Option (List ℕ) → (ℕ → List Met) → List Met
met_at in_member begun one None others = stays one ∷ others (behind begun one)
met_at in_member begun one (Some name) others = replaced ∷ and_behind begun (in_member begun name) others

-- what is met in lines, where this is met in a member that they copy
abbrev pub met_in : (in_member : ℕ → List ℕ → List Met) (begun : ℕ) → List Listed → List Met
met_in in_member begun [] = []
met_in in_member begun (one ∷ rest) = met_at in_member begun one (copied_at begun one) (λ behind_it. met_in in_member behind_it rest)

-- what is met in a member of which this was told
abbrev pub met_in_told : (List Listed → List Met) → (name : List ℕ) → Option Member → List Met
met_in_told in_lines name None = fails (Asks name) ∷ []
met_in_told in_lines name (Some Absent) = fails (CopyAbsent name) ∷ []
met_in_told in_lines name (Some Unreadable) = fails (CopyUnreadable name) ∷ []
met_in_told in_lines name (Some (File file)) = in_lines (lines_of (File file))

-- whether a member is one of those that are being copied
abbrev pub is_open : (copying : List (List ℕ)) → List ℕ → Bool
is_open copying name = list_any (bytes_eq name) copying

-- what is met in a member, where these are being copied, and members within it are followed so many levels deep
abbrev pub met_in_member : (levels : ℕ) → (List ℕ → Option Member) → (copying : List (List ℕ)) → (begun : ℕ) → List ℕ → List Met
met_in_member zero told copying begun name = []
met_in_member (suc levels) told copying begun name =
    if is_open copying name then fails (CopyCycle name) ∷ []
    else met_in_told (met_in (met_in_member levels told (copying ++ name ∷ [])) begun) name (told name)

-- deeper than members nest: each level takes a statement, of which a definition has no more than the limit below
unfoldable pub deepest : ℕ
deepest = 2 ^ 64

-- what is met last: that there is no MEND
abbrev pub ending : (ended : Bool) → List Met
ending true = []
ending false = fails NoMend ∷ []

-- what is met in the lines behind a prototype, whose definition a MEND ends or not
abbrev pub met_behind : List Told → (ended : Bool) → List Listed → List Met
met_behind members ended rest = met_in (met_in_member deepest (member_of members) []) 0 rest ++ ending ended

-- ---- the statements

-- a definition has at most so many statements behind its prototype: each that stays, and each COPY that is replaced
unfoldable pub most_statements : ℕ
most_statements = 65536

-- a line, and then others
abbrev pub and_line : Listed → Result (List Listed) DefFault → Result (List Listed) DefFault
and_line line (Ok lines) = Ok (line ∷ lines)
and_line line (Err fault) = Err fault

-- the lines that stay, or the first fault; of a macro of this name there is room for so many statements more
abbrev pub lines_met : (name : List ℕ) → List Met → (room : ℕ) → Result (List Listed) DefFault
lines_met name [] room = Ok []
lines_met name (fails fault ∷ rest) room = Err fault
lines_met name (stays line ∷ rest) zero = Err (TooLong name)
lines_met name (stays line ∷ rest) (suc room) = and_line line (lines_met name rest room)
lines_met name (replaced ∷ rest) zero = Err (TooLong name)
lines_met name (replaced ∷ rest) (suc room) = lines_met name rest room

-- ---- the definition

-- a definition: where its prototype stands, the prototype as it is written and as it is read, its statements behind the
-- prototype, each with the place where it stands, and the system variables that they name
pub record Definition : Type 0 where
  pub origin : Origin
  pub statement : Statement
  pub prototype : Prototype
  pub list : List Listed
  pub variables : SystemVariables

-- its prototype as a line
abbrev pub heading : Definition → Listed
heading definition = record { origin = definition.origin; statement = definition.statement }

-- a definition with this prototype and these statements
abbrev pub defined : Listed → Prototype → List Listed → Definition
defined one prototype lines = record {
  origin = one.origin;
  statement = one.statement;
  prototype = prototype;
  list = lines;
  variables = variables_of lines;
}

abbrev pub with_lines : Listed → Prototype → Result (List Listed) DefFault → Result Definition DefFault
with_lines one prototype (Err fault) = Err fault
with_lines one prototype (Ok lines) = Ok (defined one prototype lines)

-- a line as a prototype
abbrev pub prototype_at : Listed → Option Prototype
prototype_at one = prototype_of one.statement.label one.statement.op one.statement.operands

-- the definition with this prototype, and these lines behind it
abbrev pub with_prototype : List Told → (ended : Bool) → Headed → Option Prototype → Result Definition DefFault
with_prototype members ended h None = Err BadPrototype
with_prototype members ended h (Some prototype) =
    with_lines h.line prototype (lines_met prototype.operation (met_behind members ended h.rest) most_statements)

-- the definition whose lines begin with a prototype; without one there is no MEND either
abbrev pub begun_with : List Told → (ended : Bool) → Option Headed → Result Definition DefFault
begun_with members ended None = Err NoMend
begun_with members ended (Some h) = with_prototype members ended h (prototype_at h.line)

-- the definition whose MACRO stands before these lines, or its first fault
abbrev pub definition_behind : List Told → List Listed → Result Definition DefFault
definition_behind members rest = begun_with members (is_some (line_count 0 rest)) (headed (extent rest))

-- the definition that begins at a MACRO with this number in a list, where this was told of members
abbrev pub definition_of : List Told → List Listed → (start : ℕ) → Result Definition DefFault
definition_of members list start = definition_behind members (drop (start + 1) list)

-- ---- what a call answers

-- a fault that stands for this; only want of memory is no word on what was read
abbrev pub IsFault : {V : Type 0} → Result V DefFault → DefFault → Type 0
IsFault wanted OutOfMemory = Unit {0}
IsFault wanted fault = wanted ≡ Err fault

-- an answer is what is wanted
abbrev pub Answers : {V : Type 0} → Result V DefFault → Result V DefFault → Type 0
Answers wanted (Ok value) = wanted ≡ Ok value
Answers wanted (Err fault) = IsFault wanted fault
