-- Macro definitions as trees of questions: what a definition needs to know of members is asked for (HLASM Language Reference
-- SC26-4940, "COPY instruction", "Source macro definitions", "Library macro definitions").
use Rattle.std.specs.Prelude.{ℕ, zero, suc, ◌==◌, List, [], map, Option, Some, None, Result, Ok, Err, if◌then◌else◌}
use Rattle.hl_base.specs.declared.set.Key.TheVariants as key
use Rattle.kept_values.specs.Trees.{Tree, Leaf, Fork}
use Rattle.kept_values.specs.Keys.{key_tree}
use Rattle.macro_library.specs.Trees.{content_in, left_in, right_in, number_in, list_in}
use Rattle.plain_expansion.specs.Questions.{Asking, done, needs, and_then}
use Rattle.statement_listing.specs.Listings.{Listed}
use Rattle.macro_library.specs.Contents.{Content, Written, content_of, listed_in, written}
use Rattle.macro_library.specs.Definitions.{Definition, definition_of}
use Rattle.macro_library.specs.Extents.{defining_at}
use Rattle.macro_library.specs.Files.{File as FileOf}
use Rattle.macro_library.specs.Members.{Told, lines_of, with_member}
use Rattle.macro_library.specs.declared.fault.DefFault.{DefFault}
use Rattle.macro_library.specs.declared.fault.DefFault.TheVariants.{Asks}
use Rattle.macro_library.specs.declared.member.Member.{Member}
use Rattle.macro_library.specs.declared.member.Member.TheVariants.{Absent, Unreadable, File}

-- ---- members

-- what is answered to the name of a member says that there is none, unless it is a file, or says that there is one that cannot
-- be read
abbrev pub file_in : Tree → FileOf
file_in t = record { path = record { 0 = number_in (left_in t) }; text = list_in (right_in t) }

abbrev pub member_of_kind : (kind : ℕ) → Tree → Member
member_of_kind kind t = if kind == 9 then File (file_in t) else Absent

abbrev pub member_in : Tree → Member
member_in (Leaf kind) = if kind == 6 then Unreadable else Absent
member_in (Fork kind t) = member_of_kind (number_in kind) t

-- ---- the definition that begins at a MACRO

-- what a definition says, or its first fault
abbrev pub said_of : Result Definition DefFault → Result Content DefFault
said_of (Ok definition) = Ok (content_of definition)
said_of (Err fault) = Err fault

-- what the definition says that begins at the MACRO of a number among these lines, where this was told of members
abbrev pub content_at : List Told → List Written → (start : ℕ) → Result Content DefFault
content_at members list start = said_of (definition_of members (map listed_in list) start)

-- it is there, or refused, or needs to know of a member first
abbrev pub asked_next : Result Content DefFault → (List ℕ → Asking Tree Tree (Result Content DefFault)) → Asking Tree Tree (Result Content DefFault)
asked_next (Ok content) next = done (Ok content)
asked_next (Err (Asks name)) next = next name
asked_next (Err fault) next = done (Err fault)

-- the same, where so many members may still be asked for
abbrev pub defining : (left : ℕ) → List Told → List Written → (start : ℕ) → Asking Tree Tree (Result Content DefFault)
defining zero members list start = done (content_at members list start)
defining (suc left) members list start =
    asked_next (content_at members list start)
    (λ name. needs (key_tree (key.Member name)) (λ value. defining left (with_member members name (member_in value)) list start))

-- no definition asks for more members, since each takes a statement of it
unfoldable pub most_members : ℕ
most_members = 65536

abbrev pub definition_at : List Written → (start : ℕ) → Asking Tree Tree (Result Content DefFault)
definition_at list start = defining most_members [] list start

-- ---- the macro that an operation is

-- a macro, by what its definition says; one whose definition in a member is refused; one whose member cannot be read; or none
pub data Sought : Type 0 where
  is_macro : (content : Content) → Sought
  is_refused : (fault : DefFault) → Sought
  is_unreadable : Sought
  is_unknown : Sought

abbrev pub sought_as : Result Content DefFault → Sought
sought_as (Ok content) = is_macro content
sought_as (Err fault) = is_refused fault

-- in the lines of a member, which define it at this MACRO, if they do
abbrev pub in_lines : List Listed → Option ℕ → Asking Tree Tree Sought
in_lines list None = done is_unknown
in_lines list (Some start) = and_then (definition_at (map written list) start) (λ read. done (sought_as read))

abbrev pub in_member : (name : List ℕ) → Member → Asking Tree Tree Sought
in_member name Absent = done is_unknown
in_member name Unreadable = done is_unreadable
in_member name (File file) = in_lines (lines_of (File file)) (defining_at name (lines_of (File file)))

abbrev pub in_library : (name : List ℕ) → Asking Tree Tree Sought
in_library name = needs (key_tree (key.Member name)) (λ value. in_member name (member_in value))

-- the macro that was defined by this name, or else the one that the member of that name defines
abbrev pub sought_of_kind : (name : List ℕ) (kind : ℕ) → Tree → Asking Tree Tree Sought
sought_of_kind name kind t = if kind == 8 then done (is_macro (content_in t)) else in_library name

abbrev pub sought_by : (name : List ℕ) → Tree → Asking Tree Tree Sought
sought_by name (Leaf kind) = in_library name
sought_by name (Fork kind t) = sought_of_kind name (number_in kind) t

abbrev pub sought : (name : List ℕ) → Asking Tree Tree Sought
sought name = needs (key_tree (key.Op name)) (sought_by name)
