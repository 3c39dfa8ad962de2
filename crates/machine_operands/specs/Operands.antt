-- Operands of machine instructions as they are written (HLASM Language Reference SC26-4940, "Operand entries", "Addresses",
-- "Literals"). One that cannot be read tells how many characters it has of the longest text that a right operand of its kind
-- begins with and it begins with too.
use Rattle.std.specs.Prelude.{◌≡◌, ℕ, ◌≤◌, not, ◌+◌, ◌==◌, Bool, true, false, List, [], ◌∷◌, length, take, drop, Option, Some, None, Result, Ok, Err, if◌then◌else◌}
use Rattle.constant_grammar.specs.Constants.{Constant}
use Rattle.constant_grammar.specs.Elements.{tree_in}
use Rattle.constant_operands.specs.Operands as constants
use Rattle.expression_grammar.specs.declared.character.Grammar.TheVariants.{Ordinary}
use Rattle.expression_grammar.specs.Readings.{read}
use Rattle.expression_grammar.specs.Spelling.{most_parts}
use Rattle.expression_grammar.specs.Trees.{Tree, size}
use Rattle.instruction_table.specs.declared.encodings.Kind.{Kind}
use Rattle.literal_operands.specs.Literals as literals
use Rattle.machine_operands.specs.declared.form.AddressForm.{AddressForm}
use Rattle.machine_operands.specs.declared.form.OperandForm.{OperandForm}
use Rattle.machine_operands.specs.declared.form.OperandForm.TheVariants as form
use Rattle.machine_operands.specs.Forms.{form_of, needs_parts}
use Rattle.machine_operands.specs.Parts.{Parts, parts}

-- the displacement of an address: an expression, or a literal
pub data Displacement : Type 0 where
  expression : (tree : Tree) → Displacement
  literal_place : Displacement

-- an address: its displacement, what stands for an index or a length, and its base
pub record Address : Type 0 where
  pub displacement : Displacement
  pub first : Option Tree
  pub base : Option Tree

-- What is read of an operand: the expression of a value or a target; an address; that it is a literal as a target; that it
-- begins as a literal and is none; or how many of its characters a right one begins with.
pub data Written : Type 0 where
  value : (tree : Tree) → Written
  address : (address : Address) → Written
  literal_target : Written
  no_literal : Written
  wrong : (count : ℕ) → Written

-- an operand, and the literal with which it begins
pub record Operand : Type 0 where
  pub literal : Option constants.Operand
  pub written : Written

-- an expression alone
abbrev pub value_by : Result Tree ℕ → Written
value_by (Ok tree) = value tree
value_by (Err at) = wrong at

unfoldable pub plain_value : List ℕ → Written
plain_value text = value_by (read Ordinary text)

-- a displacement that is all of an operand
abbrev pub bare : AddressForm → Displacement → List ℕ → Written
bare form displacement text =
    if needs_parts form then wrong (length text) else address (record { displacement = displacement; first = None; base = None })

-- a displacement with what stands in parentheses
abbrev pub with_parts : Displacement → Result Parts ℕ → Written
with_parts displacement (Ok both) = address (record { displacement = displacement; first = both.first; base = both.base })
with_parts displacement (Err at) = wrong at

-- a displacement that is an expression before an opening parenthesis
abbrev pub opened : Option Tree → AddressForm → ℕ → List ℕ → Written
opened None form at rest = wrong at
opened (Some tree) form at rest = with_parts (expression tree) (parts form (at + 1) rest)

-- what stands where no expression goes on: an opening parenthesis (40)
abbrev pub behind_by : AddressForm → List ℕ → ℕ → List ℕ → Written
behind_by form text at [] = wrong at
behind_by form text at (c ∷ rest) = if c == 40 then opened (tree_in (read Ordinary (take at text))) form at rest else wrong at

unfoldable pub behind_expression : AddressForm → List ℕ → ℕ → Written
behind_expression form text at = behind_by form text at (drop at text)

abbrev pub address_by : AddressForm → List ℕ → Result Tree ℕ → Written
address_by form text (Ok tree) = bare form (expression tree) text
address_by form text (Err at) = behind_expression form text at

-- an address without literal
unfoldable pub plain_address : AddressForm → List ℕ → Written
plain_address form text = address_by form text (read Ordinary text)

-- an operand without literal
abbrev pub plain : OperandForm → List ℕ → Written
plain form.Value text = plain_value text
plain form.Target text = plain_value text
plain (form.Address form) text = plain_address form text

-- what stands in parentheses behind a literal of so many characters
abbrev pub open_literal : AddressForm → ℕ → List ℕ → Written
open_literal form count rest = with_parts literal_place (parts form (count + 1) rest)

-- a literal as a displacement, and what stands behind it
abbrev pub behind_literal : AddressForm → List ℕ → ℕ → List ℕ → Written
behind_literal form text count [] = bare form literal_place text
behind_literal form text count (c ∷ rest) = if c == 40 then open_literal form count rest else wrong count

-- behind a literal as a target nothing stands
abbrev pub target_literal : ℕ → List ℕ → Written
target_literal count [] = literal_target
target_literal count (c ∷ rest) = wrong count

-- a literal that was read, of so many characters with its equals sign
abbrev pub literal_as : OperandForm → List ℕ → ℕ → List ℕ → Written
literal_as form.Value text count behind = wrong 0
literal_as form.Target text count behind = target_literal count behind
literal_as (form.Address form) text count behind = behind_literal form text count behind

abbrev pub literal_written : OperandForm → Option Constant → (text literal behind : List ℕ) → Written
literal_written form None text literal behind = no_literal
literal_written form (Some constant) text literal behind = literal_as form text (1 + length literal) behind

abbrev pub with_literal : OperandForm → List ℕ → literals.Literal → Operand
with_literal form text found = record {
  literal = Some found.constant;
  written = literal_written form found.constant.constant text found.text found.behind;
}

-- an operand that begins with a literal or not
abbrev pub operand_by : OperandForm → List ℕ → Option literals.Literal → Operand
operand_by form text None = record { literal = None; written = plain form text }
operand_by form text (Some found) = with_literal form text found

-- whether a literal may stand in an operand: in an address, and as a target where its instruction lets it
abbrev pub takes_literal : OperandForm → (targets : Bool) → Bool
takes_literal form.Value targets = false
takes_literal form.Target targets = targets
takes_literal (form.Address form) targets = true

-- an operand that begins with an equals sign (61) begins with a literal
abbrev pub begins_literal : List ℕ → Bool
begins_literal [] = false
begins_literal (c ∷ rest) = c == 61

abbrev pub literal_if : Bool → List ℕ → Option literals.Literal
literal_if takes text = if takes then literals.literal_in text else None

-- an operand of a form, and of a kind, of an instruction that lets literals be targets or not
abbrev pub operand_of_form : OperandForm → Bool → List ℕ → Operand
operand_of_form form targets text = operand_by form text (literal_if (takes_literal form targets) text)

unfoldable pub operand : Kind → (targets : Bool) → List ℕ → Operand
operand kind targets text = operand_of_form (form_of kind) targets text

-- what an operand of a form is that is an expression alone
abbrev pub written_alone : OperandForm → Tree → Written
written_alone form.Value tree = value tree
written_alone form.Target tree = value tree
written_alone (form.Address form) tree = address (record { displacement = expression tree; first = None; base = None })

-- whether an operand of a form may be an expression alone
abbrev pub may_be_alone : OperandForm → Bool
may_be_alone form.Value = true
may_be_alone form.Target = true
may_be_alone (form.Address form) = not (needs_parts form)

-- an operand of a kind is this expression alone, whichever literals its instruction lets be targets
pub record IsAlone (kind : Kind) (text : List ℕ) (tree : Tree) : Type 0 where
  pub alone : (targets : Bool) → operand kind targets text ≡ record { literal = None; written = written_alone (form_of kind) tree }
  pub small : size tree ≤ most_parts
