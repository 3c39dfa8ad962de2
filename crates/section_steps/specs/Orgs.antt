-- ORG (HLASM Language Reference SC26-4940, "ORG instruction"): without an operand the counter goes on at the highest place where it
-- stood, else at the place of the operand, which is one of the current section.
use Rattle.std.specs.Prelude.{ℕ, ◌==◌, List, [], ◌∷◌, Option, Some, None, Result, Ok, Err, is_some, pos, negsuc, ℤ, if◌then◌else◌}
use Rattle.expression_grammar.specs.Trees.{Tree}
use Rattle.note_rows.specs.declared.row.Row.{Row}
use Rattle.note_rows.specs.declared.row.Row.TheVariants.{UnknownValue, OutsideSection, Unreadable}
use Rattle.ordinary_symbols.specs.declared.fault.EvalFault.{EvalFault}
use Rattle.ordinary_symbols.specs.Known.{Knowledge, first_unknown}
use Rattle.ordinary_symbols.specs.Table.{known}
use Rattle.ordinary_symbols.specs.Values.{value}
use Rattle.section_table.specs.declared.table.Place.{Place}
use Rattle.section_table.specs.Spans as spans
use Rattle.section_table.specs.Tables as sections
use Rattle.section_table.specs.Tables.{Table}
use Rattle.trace_values.specs.declared.section.Reloc.{Reloc}
use Rattle.trace_values.specs.declared.section.SectionId.{SectionId}
use Rattle.section_steps.specs.declared.org.Target.{Target}
use Rattle.section_steps.specs.declared.org.Target.TheVariants.{End, Unread, Unknown, Nowhere, Outside, At}
use Rattle.section_steps.specs.Instructions.{too_long}
use Rattle.section_steps.specs.Labels.{plain, with_label, said_of_label}
use Rattle.section_steps.specs.Places.{value_at}
use Rattle.section_steps.specs.States.{State, Laid, Left, Nothing, Expression}

-- a number behind the front of the section
abbrev pub target_at : ℤ → Target
target_at (pos n) = At n
target_at (negsuc n) = Outside

-- a value where the counter stands: one of another section, or of none, leads out of it
abbrev pub target_in : Option SectionId → ℤ → Option Place → Target
target_in None n place = Outside
target_in (Some section) n None = Outside
target_in (Some section) n (Some place) = if section.0 == place.section then target_at n else Outside

abbrev pub target_of : Result Reloc EvalFault → Option Place → Target
target_of (Ok found) place = target_in found.section found.value place
target_of (Err fault) place = Nowhere

-- what an expression leads to
abbrev pub target_by : Knowledge → Option Place → Tree → Target
target_by known place tree = if is_some (first_unknown known tree) then Unknown else target_of (value known (value_at place) tree) place

abbrev pub target : Option (Result Tree ℕ) → State → Target
target None state = End
target (Some (Err at)) state = Unread at
target (Some (Ok tree)) state = target_by (known state.symbols) (sections.here state.sections) tree

-- the sections behind it, and what is said of it
abbrev pub moved : Target → Table → Table
moved End table = sections.changed spans.org_to_end table
moved (At n) table = sections.changed (spans.org n) table
moved (Unread at) table = table
moved Unknown table = table
moved Nowhere table = table
moved Outside table = table

abbrev pub said_of : Target → Table → List Row
said_of End table = []
said_of (At n) table = too_long (sections.may_org n table)
said_of (Unread at) table = Unreadable at ∷ []
said_of Unknown table = UnknownValue ∷ []
said_of Nowhere table = []
said_of Outside table = OutsideSection ∷ []

-- an expression that was read is left
abbrev pub left_of : Option (Result Tree ℕ) → Left
left_of None = Nothing
left_of (Some (Err at)) = Nothing
left_of (Some (Ok tree)) = Expression tree

-- the sections behind ORG, where its label stands
unfoldable pub org_sections : Option (Result Tree ℕ) → State → Table
org_sections to state = moved (target to state) state.sections

unfoldable pub org_behind : Option (Result Tree ℕ) → Option (List ℕ) → State → State
org_behind to label state = record state {
  sections = org_sections to state;
  symbols = with_label label (sections.here (org_sections to state)) plain state.symbols;
}

unfoldable pub org_laid : Option (Result Tree ℕ) → Option (List ℕ) → State → Laid
org_laid to label state = record {
  place = sections.here (org_sections to state);
  bytes = 0;
  here = value_at (sections.here state.sections);
  uses = [];
  said = said_of (target to state) state.sections;
  said_of_symbols = said_of_label label state.symbols;
  left = left_of to;
}
