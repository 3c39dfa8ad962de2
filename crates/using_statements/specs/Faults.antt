-- What more is said of a statement than that registers are not in use (this project).
use Rattle.std.specs.Prelude.{Bool, true, false, List}
use Rattle.std.specs.List.{list_any}
use Rattle.note_rows.specs.declared.row.Row.{Row}
use Rattle.note_rows.specs.declared.row.Row.TheVariants.{UnusedRegister}

abbrev pub is_fault : Row → Bool
is_fault (UnusedRegister register) = false
is_fault other = true

-- whether there is such a row
abbrev pub has_fault : List Row → Bool
has_fault rows = list_any is_fault rows
