-- How the operands of AGO and AIF are read (HLASM Language Reference SC26-4940, "AGO instruction", "Computed AGO
-- instruction", "AIF instruction"). The law `laws::branches` says that they are read as they are written.
use Rattle.std.specs.Prelude.{ℕ, ◌+◌, ◌⊎◌, ◌==◌, List, [], ◌∷◌, drop, slice_index, Result, Ok, Err, if◌then◌else◌}
use Rattle.expression_grammar.specs.declared.character.Grammar.TheVariants.{Arithmetic}
use Rattle.expression_grammar.specs.Readings.{Front, read_front, read_variable}
use Rattle.expression_grammar.specs.Trees.{Tree}
use Rattle.conditional_fields.specs.LogicReadings.{read_logic_front}
use Rattle.conditional_fields.specs.Split.{operands_of}
use Rattle.conditional_fields.specs.declared.front.Sought.{Sought}
use Rattle.conditional_fields.specs.declared.front.Sought.TheVariants.{Number, Condition, Variable}
use Rattle.conditional_fields.specs.Answers.{each, some}
use Rattle.conditional_fields.specs.Branches.{IsChoice, IsInnerFault, IsLabelFault}
use Rattle.conditional_fields.specs.Sequences.{sequence}

-- a number, or a condition, and the sequence symbol behind it
pub record Choice : Type 0 where
  pub tree : Tree
  pub label : List ℕ

-- what a text begins with of what is sought
abbrev pub front : Sought → List ℕ → Result Front ℕ
front Number text = read_front Arithmetic text
front Condition text = read_logic_front text
front Variable text = read_variable text

-- the sequence symbol behind so many characters
abbrev pub labelled : Tree → (count : ℕ) → Result (List ℕ) ℕ → Result Choice ℕ
labelled tree count (Ok name) = Ok (record { tree = tree; label = name })
labelled tree count (Err at) = Err (at + count)

-- the sequence symbol behind what stands in parentheses; or where that goes wrong, behind the first of them
abbrev pub behind_front : List ℕ → Result Front ℕ → Result Choice ℕ
behind_front operand (Ok front) = labelled front.tree (front.before + 2) (sequence (drop (front.before + 2) operand))
behind_front operand (Err at) = Err (at + 1)

-- a number, or a condition, in parentheses and a sequence symbol
abbrev pub choice : Sought → List ℕ → Result Choice ℕ
choice sought operand = behind_front operand (front sought (drop 1 operand))

-- what is read of such an operand stands there, or it goes wrong there
abbrev pub IsChosen : Sought → List ℕ → Result Choice ℕ → Type 0
IsChosen sought operand (Ok choice) = IsChoice sought operand choice.tree choice.label
IsChosen sought operand (Err at) = IsInnerFault sought operand at ⊎ IsLabelFault sought operand at

-- where AGO branches to: a sequence symbol, or by a number the first or one of the others
pub data Branch : Type 0 where
  to : (label : List ℕ) → Branch
  among : (number : Tree) (first : List ℕ) (others : List (List ℕ)) → Branch

-- the first operand of a computed AGO, and then the others
abbrev pub with_others : Result Choice ℕ → Result (List (List ℕ)) ℕ → Result Branch ℕ
with_others (Ok choice) (Ok labels) = Ok (among choice.tree choice.label labels)
with_others (Ok choice) (Err at) = Err at
with_others (Err at) others = Err at

-- the operands of a computed AGO
abbrev pub computed : List (List ℕ) → Result Branch ℕ
computed [] = Err 0
computed (first ∷ others) = with_others (choice Number first) (each sequence others)

-- one label
abbrev pub plain : Result (List ℕ) ℕ → Result Branch ℕ
plain (Ok name) = Ok (to name)
plain (Err at) = Err at

-- the operand field of AGO: a parenthesis begins a computed one
abbrev pub goto : List ℕ → Result Branch ℕ
goto field = if slice_index field 0 == 40 then computed (operands_of field) else plain (sequence field)

-- an operand of AIF: it begins with a parenthesis
abbrev pub pair : List ℕ → Result Choice ℕ
pair operand = if slice_index operand 0 == 40 then choice Condition operand else Err 0

-- the operand field of AIF: one pair at least
abbrev pub choices : List ℕ → Result (List Choice) ℕ
choices field = some (each pair (operands_of field))
