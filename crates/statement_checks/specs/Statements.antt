-- What the check of a statement says, and which ranges there are behind it (HLASM Language Reference SC26-4940, "USING instruction",
-- "DROP instruction").
use Rattle.std.specs.Prelude.{ℕ, List, [], ◌++◌}
use Rattle.std.specs.List.{flat_map}
use Rattle.constant_operands.specs.Operands.{Operand}
use Rattle.expression_notes.specs.Repeating.{once_behind}
use Rattle.hl_base.specs.declared.set.Line.{Line}
use Rattle.literal_places.specs.Places.{Literals}
use Rattle.note_rows.specs.declared.row.Row.{Row}
use Rattle.operand_checks.specs.Literals.{said_of_addresses}
use Rattle.operand_checks.specs.Machine.{said_of_machine}
use Rattle.operand_checks.specs.Settings.{Setting}
use Rattle.operand_list.specs.Split.{operands_of}
use Rattle.ordinary_symbols.specs.Known.{Knowledge}
use Rattle.section_layout.specs.Layout.{Statement}
use Rattle.section_layout.specs.States as left
use Rattle.section_layout.specs.States.{Left}
use Rattle.using_ranges.specs.Ranges.{Held}
use Rattle.using_statements.specs.Behind.{behind_drop, behind_using}
use Rattle.using_statements.specs.Said.{said_of_drop, said_of_using}
use Rattle.statement_checks.specs.declared.checks.Check.{Check}
use Rattle.statement_checks.specs.declared.checks.Check.TheVariants.{Machine, Constants, Using, Drop, Nothing}
use Rattle.statement_checks.specs.Checks.{check}
use Rattle.statement_checks.specs.Places.{places_in}

-- of the constants of DC and DS that could be read
abbrev pub said_of_constants : Setting → List Operand → List Row
said_of_constants setting operands = flat_map (said_of_addresses setting) operands

abbrev pub said_of_left : Setting → Left → List Row
said_of_left setting (left.Operands operands) = said_of_constants setting operands
said_of_left setting left.Nothing = []
said_of_left setting (left.Names names) = []
said_of_left setting (left.Expression tree) = []
said_of_left setting (left.Equated symbol length) = []

-- what a check says of a statement with an operand field
abbrev pub said_by : Check → Setting → Literals → Statement → (field : List ℕ) → List Row
said_by (Machine format) setting literals one field = said_of_machine setting format (places_in literals one.uses) (operands_of field)
said_by Constants setting literals one field = said_of_left setting one.left
said_by Using setting literals one field = said_of_using setting.known setting.here field
said_by Drop setting literals one field = said_of_drop setting.known setting.here setting.ranges field
said_by Nothing setting literals one field = []

-- what there is where a statement stands
abbrev pub setting_at : Knowledge → Held → Statement → Setting
setting_at known held one = record { known = known; ranges = held; here = one.here }

unfoldable pub said : Knowledge → Literals → Held → Line → Statement → List Row
said known literals held line one = said_by (check line) (setting_at known held one) literals one line.operands

-- the ranges behind a statement, by its check: USING and DROP change them
abbrev pub behind_by : Check → Knowledge → Held → Statement → (field : List ℕ) → Held
behind_by (Machine format) known held one field = held
behind_by Constants known held one field = held
behind_by Using known held one field = behind_using known one.here held field
behind_by Drop known held one field = behind_drop known one.here held field
behind_by Nothing known held one field = held

unfoldable pub behind : Knowledge → Held → Line → Statement → Held
behind known held line one = behind_by (check line) known held one line.operands

-- a statement of which the check said this: it stands behind what was said before, each undefined symbol once
abbrev pub with_rows : List Row → Statement → Statement
with_rows rows one = record one { rows = one.rows ++ once_behind one.rows rows }

unfoldable pub checked : Knowledge → Literals → Held → Line → Statement → Statement
checked known literals held line one = with_rows (said known literals held line one) one
