-- Statements that are laid out one after the other (HLASM Language Reference SC26-4940, "Location counter"): each by what there is
-- behind those before it.
use Rattle.std.specs.Prelude.{ℕ, Bool, true, false, if◌then◌else◌, List, [], ◌∷◌, ◌++◌, length}
use Rattle.std.specs.List.{list_any}
use Rattle.hl_base.specs.declared.set.Line.{Line}
use Rattle.section_steps.specs.Statements.{Statement, statement}
use Rattle.note_rows.specs.declared.row.Row.{Row}
use Rattle.note_rows.specs.declared.row.Row.TheVariants.{SectionTooLong}
use Rattle.section_steps.specs.States.{State, Laid}
use Rattle.section_steps.specs.Steps.{behind, laid}

-- a statement that is laid out, and how many symbols there are behind it
pub record Met : Type 0 where
  pub laid : Laid
  pub symbols : ℕ

unfoldable pub read : Line → Statement
read line = statement line.label line.op line.operands

abbrev pub met_of_read : Statement → State → Met
met_of_read statement state = record { laid = laid statement state; symbols = length (behind statement state).symbols }

unfoldable pub met : Line → State → Met
met line state = met_of_read (read line) state

unfoldable pub state_behind : Line → State → State
state_behind line state = behind (read line) state

-- the statements of some lines, and what there is behind them
abbrev pub all_met : List Line → State → List Met
all_met [] state = []
all_met (line ∷ lines) state = met line state ∷ all_met lines (state_behind line state)

abbrev pub all_behind : List Line → State → State
all_behind [] state = state
all_behind (line ∷ lines) state = all_behind lines (state_behind line state)

-- whether a row says that the section gets too long
abbrev pub says_too_long : Row → Bool
says_too_long SectionTooLong = true
says_too_long other = false

-- rows behind others, unless it is said already that the section gets too long
unfoldable pub said_once : (given rows : List Row) → List Row
said_once given rows = if list_any says_too_long given then given else given ++ rows

-- a statement of whose place this is said too
abbrev pub also_said : List Row → Met → Met
also_said rows one = record one { laid = record one.laid { said = said_once one.laid.said rows } }

-- the last statement
abbrev pub also_said_of_last : List Row → List Met → List Met
also_said_of_last rows [] = []
also_said_of_last rows (one ∷ []) = also_said rows one ∷ []
also_said_of_last rows (one ∷ two ∷ others) = one ∷ also_said_of_last rows (two ∷ others)
