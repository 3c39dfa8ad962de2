-- The statements of a macro definition whose prototype stands at a place of a text, with those of the members that it copies in place
-- (HLASM Language Reference SC26-4940, "Format of a macro definition", "COPY instruction").
use Rattle.std.specs.Prelude.{ℕ, zero, suc, Bool, List, [], ◌++◌, drop, is_some, Option, Some, None, Result, Ok, Err}
use Rattle.hl_base.specs.declared.place.Origin.{Origin}
use Rattle.macro_binding.specs.Prototypes.{Prototype}
use Rattle.macro_library.specs.Definitions.{Met, deepest, ending, lines_met, met_in, met_in_member, most_statements, prototype_at}
use Rattle.macro_library.specs.Extents.{Headed, extent, headed, line_count}
use Rattle.macro_library.specs.declared.fault.DefFault.{DefFault}
use Rattle.macro_library.specs.declared.member.Member.{Member}
use Rattle.macro_library.specs.declared.member.Member.TheVariants.{Absent, Unreadable, File}
use Rattle.statement_listing.specs.Listings.{Listed}
use Rattle.text_lists.specs.Lists.{Source, list_of, number_at}
use Rattle.text_pool.specs.Members as members

-- what is found under the name of a member, as a definition that copies it is told
abbrev pub told_as : members.Member → Member
told_as members.Absent = Absent
told_as members.Unreadable = Unreadable
told_as (members.File path text) = File (record { path = record { 0 = path }; text = text })

abbrev pub told_by : (List ℕ → members.Member) → List ℕ → Option Member
told_by found name = Some (told_as (found name))

-- what is met in the lines behind a prototype, whose definition a MEND ends or not, where members are told so
abbrev pub met_by : (List ℕ → Option Member) → (ended : Bool) → List Listed → List Met
met_by told ended rest = met_in (met_in_member deepest told []) 0 rest ++ ending ended

-- the statements that stay, and none where there is a fault
abbrev pub unless_refused : Result (List Listed) DefFault → List Listed
unless_refused (Ok lines) = lines
unless_refused (Err fault) = []

-- the statements behind a line that is read as a prototype, if it can be
abbrev pub list_with : (List ℕ → Option Member) → (ended : Bool) → Headed → Option Prototype → List Listed
list_with told ended h None = []
list_with told ended h (Some prototype) = unless_refused (lines_met prototype.operation (met_by told ended h.rest) most_statements)

-- those of a definition whose lines begin with a prototype
abbrev pub list_begun : (List ℕ → Option Member) → (ended : Bool) → Option Headed → List Listed
list_begun told ended None = []
list_begun told ended (Some h) = list_with told ended h (prototype_at h.line)

-- the statements behind the prototype that stands before all others in these lines, up to the MEND
abbrev pub list_in : (List ℕ → Option Member) → List Listed → List Listed
list_in told lines = list_begun told (is_some (line_count 0 lines)) (headed (extent lines))

-- those of the definition whose prototype has this number in a list; the first statement of a text is the prototype of none
abbrev pub list_from : (List ℕ → Option Member) → List Listed → (number : ℕ) → List Listed
list_from told list zero = []
list_from told list (suc before) = list_in told (drop (suc before) list)

abbrev pub list_found : (List ℕ → Option Member) → Option (List Listed) → Option ℕ → List Listed
list_found told (Some list) (Some number) = list_from told list number
list_found told list number = []

-- the statements of the definition whose prototype stands at a place of a text, where these are found under the names of members;
-- none where no statement begins there, and where the definition is refused
abbrev pub list_at : List Source → (List ℕ → members.Member) → Origin → List Listed
list_at texts found origin = list_found (told_by found) (list_of texts origin.path.0) (number_at texts origin)
