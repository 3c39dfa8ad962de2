-- Where AGO branches to (HLASM Language Reference SC26-4940, "AGO instruction", "Computed AGO instruction"): one sequence
-- symbol, or one of several by the number that stands in parentheses before the first.
use Rattle.std.specs.Prelude.{◌≡◌, ℕ, ◌+◌, ◌⊎◌, ◌==◌, Bool, true, false, List, [], ◌∷◌, drop, slice_index, Result, Ok, Err}
use Rattle.expression_grammar.specs.declared.fault.SyntaxFault.{SyntaxFault}
use Rattle.expression_grammar.specs.declared.fault.SyntaxFault.TheVariants.{At, OutOfMemory}
use Rattle.operand_grammar.specs.Split.{operands_of}
use Rattle.expression_grammar.specs.Trees.{Tree}
use Rattle.expression_grammar.specs.Views.{tree_of}
use Rattle.conditional_fields.specs.declared.front.Sought.{Sought}
use Rattle.conditional_fields.specs.declared.front.Sought.TheVariants.{Number}
use Rattle.conditional_fields.specs.declared.branch.Selector.{Selector}
use Rattle.conditional_fields.specs.declared.branch.Goto.{Goto}
use Rattle.conditional_fields.specs.declared.branch.Goto.TheVariants.{To, Among}
use Rattle.conditional_fields.specs.Answers.{IsPlaced, Says, each}
use Rattle.conditional_fields.specs.Fronts.{IsFirstClosed, IsNeverClosed, IsReach}
use Rattle.conditional_fields.specs.Sequences.{sequence}

-- an operand is a number, or a condition, in parentheses and a sequence symbol of this name
pub record IsChoice (sought : Sought) (operand : List ℕ) (tree : Tree) (name : List ℕ) : Type 0 where
  pub before : ℕ
  pub inner : IsFirstClosed sought (drop 1 operand) before tree
  pub label : sequence (drop (before + 2) operand) ≡ Ok name

-- such an operand goes wrong within its parentheses
pub record IsInnerFault (sought : Sought) (operand : List ℕ) (at : ℕ) : Type 0 where
  pub none : IsNeverClosed sought (drop 1 operand)
  pub inside : ℕ
  pub reach : IsReach sought (drop 1 operand) inside
  pub place : at ≡ inside + 1

-- or behind them
pub record IsLabelFault (sought : Sought) (operand : List ℕ) (at : ℕ) : Type 0 where
  pub before : ℕ
  pub tree : Tree
  pub inner : IsFirstClosed sought (drop 1 operand) before tree
  pub inside : ℕ
  pub label : sequence (drop (before + 2) operand) ≡ Err inside
  pub place : at ≡ inside + (before + 2)

-- how such an operand is read
abbrev pub IsChoiceRead : Sought → List ℕ → Result Selector SyntaxFault → Type 0
IsChoiceRead sought operand (Ok choice) = IsChoice sought operand (tree_of choice.tree) choice.label
IsChoiceRead sought operand (Err (At at)) = IsInnerFault sought operand at ⊎ IsLabelFault sought operand at
IsChoiceRead sought operand (Err OutOfMemory) = Unit {0}

-- where a number or condition goes wrong that stands behind a parenthesis
abbrev pub IsReachFault : Sought → List ℕ → SyntaxFault → Type 0
IsReachFault sought inner (At at) = (inside : ℕ) × IsReach sought inner inside × (at ≡ inside + 1)
IsReachFault sought inner OutOfMemory = Unit {0}

-- the operands of a computed AGO go wrong in the first, or else in the first of the others that does
pub record IsOtherFault (first : List ℕ) (others : List (List ℕ)) (at : ℕ) : Type 0 where
  pub tree : Tree
  pub name : List ℕ
  pub choice : IsChoice Number first tree name
  pub names : each sequence others ≡ Err at

-- how the operands of a computed AGO are read
abbrev pub IsAmong : List (List ℕ) → Result Goto SyntaxFault → Type 0
IsAmong [] (Ok goto) = ⊥
IsAmong [] (Err fault) = IsPlaced 0 fault
IsAmong (first ∷ others) (Ok (To label)) = ⊥
IsAmong (first ∷ others) (Ok (Among tree label labels)) = IsChoice Number first (tree_of tree) label × (each sequence others ≡ Ok labels.items)
IsAmong (first ∷ others) (Err (At at)) = (IsInnerFault Number first at ⊎ IsLabelFault Number first at) ⊎ IsOtherFault first others at
IsAmong (first ∷ others) (Err OutOfMemory) = Unit {0}

-- one label
abbrev pub plain : Result (List ℕ) ℕ → Result Goto ℕ
plain (Ok name) = Ok (To name)
plain (Err at) = Err at

-- how the field is read: a parenthesis begins a computed AGO
abbrev pub IsGotoWith : (computed : Bool) → List ℕ → Result Goto SyntaxFault → Type 0
IsGotoWith true field result = IsAmong (operands_of field) result
IsGotoWith false field result = Says (λ goto. goto) (plain (sequence field)) result

abbrev pub IsGoto : List ℕ → Result Goto SyntaxFault → Type 0
IsGoto field result = IsGotoWith (slice_index field 0 == 40) field result
