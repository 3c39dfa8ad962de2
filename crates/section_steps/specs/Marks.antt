-- Statements that stand where the counter does and take nothing (this project): ENTRY, USING, DROP, and all that asks for nothing.
use Rattle.std.specs.Prelude.{ℕ, List, [], Option}
use Rattle.note_rows.specs.declared.row.Row.{Row}
use Rattle.section_table.specs.Tables as sections
use Rattle.section_steps.specs.Labels.{plain, with_label, said_of_label}
use Rattle.section_steps.specs.Places.{value_at}
use Rattle.section_steps.specs.States.{State, Laid, Left}

-- the state behind a label on the place of the counter
unfoldable pub mark_behind : Option (List ℕ) → State → State
mark_behind label state = record state { symbols = with_label label (sections.here state.sections) plain state.symbols }

-- of which this is said, and this is left
unfoldable pub mark_laid : List Row → Left → Option (List ℕ) → State → Laid
mark_laid said left label state = record {
  place = sections.here state.sections;
  bytes = 0;
  here = value_at (sections.here state.sections);
  uses = [];
  said = said;
  said_of_symbols = said_of_label label state.symbols;
  left = left;
}
