-- The faults of the columns of a statement. This project.
use Rattle.std.specs.Prelude.{ℕ, Bool, false, not, List, [], ◌∷◌, ◌++◌, take, length, if◌then◌else◌, nat_lt}
use Rattle.std.specs.List.{list_all, list_any}
use Rattle.hlasm_statements.specs.declared.fault.ColumnFault.{ColumnFault}
use Rattle.hlasm_statements.specs.declared.fault.ColumnFault.TheVariants.{MarginText, SurplusLines, MissingLine}
use Rattle.hl_base.specs.declared.note.Severity.{Severity}
use Rattle.hl_base.specs.declared.note.Severity.TheVariants.{Error, Warning}
use Rattle.hlasm_statements.specs.Columns.{is_blank, is_marked}

-- the number of a fault behind the letter H
abbrev pub code_of : ColumnFault → ℕ
code_of MarginText = 1
code_of SurplusLines = 2
code_of MissingLine = 5

-- how much a fault weighs
abbrev pub severity_of : ColumnFault → Severity
severity_of MarginText = Error
severity_of SurplusLines = Error
severity_of MissingLine = Warning

-- whether columns 1 to 15 of a line have anything but blanks
abbrev pub has_margin_text : List ℕ → Bool
has_margin_text line = not (list_all is_blank (take 15 line))

-- whether the last of some lines is marked. Of a statement's lines it is where nothing follows in the text
abbrev pub ends_marked : List (List ℕ) → Bool
ends_marked [] = false
ends_marked (line ∷ []) = is_marked line
ends_marked (line ∷ next ∷ rest) = ends_marked (next ∷ rest)

-- a fault where it is met
abbrev pub where_met : Bool → ColumnFault → List ColumnFault
where_met met fault = if met then (fault ∷ []) else []

-- the faults that are met, in the order of their codes
abbrev pub faults_met : (margin surplus missing : Bool) → List ColumnFault
faults_met margin surplus missing = where_met margin MarginText ++ where_met surplus SurplusLines ++ where_met missing MissingLine

-- the faults of a statement, in the order of their codes: text in columns 1 to 15 of a continuation line that is read, a
-- line that is not read, and a mark on the text's last line
abbrev pub faults_of : (read : ℕ) (marked : Bool) → List (List ℕ) → List ColumnFault
faults_of read marked [] = []
faults_of read marked (body ∷ rest) = faults_met (list_any has_margin_text (take read rest)) (nat_lt read (length rest)) marked
