-- What the latest assembly of a program tells of names (this project).
use Rattle.std.specs.Prelude.{ℕ, Bool, ◌==◌, List, refl}
use Rattle.std.specs.Coded.{Coded, code_by, coded×, coded_ℕ, coded_list}
use Rattle.std.specs.List.{list_any}
use Rattle.hl_base.specs.contracts.place.PathId as path_id
use Rattle.hl_base.specs.declared.place.PathId.{PathId}
use Rattle.trace_values.specs.contracts.occurrence.Occurrence as occurrence
use Rattle.trace_values.specs.contracts.section.Section as section
use Rattle.trace_values.specs.contracts.symbol_row.SymbolRow as symbol_row
use Rattle.trace_values.specs.declared.occurrence.Occurrence.{Occurrence}
use Rattle.trace_values.specs.declared.section.Section.{Section}
use Rattle.trace_values.specs.declared.symbol_row.SymbolRow.{SymbolRow}

-- the number of the program's path, its symbols and sections, the occurrences that stand in the order of processing, and the
-- numbers of the paths that it touches: those of the frames of its points, and of the statements of its definitions
pub record Names : Type 0 where
  pub path : ℕ
  pub rows : List SymbolRow
  pub sections : List Section
  pub occurrences : List Occurrence
  pub touched : List PathId

-- a program touches a path
abbrev pub touches : (path : ℕ) → Names → Bool
touches path names = list_any (λ (touched : PathId). touched.0 == path) names.touched

-- such values are told apart as the tuples of their fields
abbrev pub names_code : Coded Names
names_code =
    code_by
    (ℕ × (List SymbolRow × (List Section × (List Occurrence × List PathId))))
    (coded× coded_ℕ (coded× (coded_list symbol_row.the_row.coded) (coded× (coded_list section.the_row.coded)
    (coded× (coded_list occurrence.the_row.coded) (coded_list path_id.the_row.coded)))))
    (λ n. (n.path, (n.rows, (n.sections, (n.occurrences, n.touched)))))
    (λ t. record { path = t.0; rows = t.1.0; sections = t.1.1.0; occurrences = t.1.1.1.0; touched = t.1.1.1.1 })
    (λ _. refl)
