-- The names in an operand field, by what the operation reads.
use Rattle.std.proofs.Common.{◌≡◌, ◌∙◌, ℕ, List, [], sym, ap}
use Rattle.hlasm_statements.specs.declared.statement.Field.TheVariants.{Operands}
use Rattle.statement_names.specs.declared.name.WrittenName.{WrittenName}
use Rattle.statement_names.specs.declared.uses.OperandUse.{OperandUse}
use Rattle.statement_names.specs.declared.uses.OperandUse.TheVariants.{Remarks, Unread, Expressions, Constants, Instruction, Branches, Member}
use Rattle.statement_names.specs.Operands.{variables, operands_names, read_names, copied_name, field_names}

pub field-remarks : (used : OperandUse) (field : List ℕ) → used ≡ Remarks → field_names used field ≡ []
unfolding field_names
field-remarks used field is = ap (λ u. field_names u field) is

pub field-unread : (used : OperandUse) (field : List ℕ) → used ≡ Unread → variables Operands field ≡ field_names used field
unfolding field_names
field-unread used field is = sym (ap (λ u. field_names u field) is)

read_as : (used other : OperandUse) (field : List ℕ) → used ≡ other → read_names used field ≡ read_names other field
read_as used other field is = ap (λ u. read_names u field) is

pub field-expressions : (used : OperandUse) (field : List ℕ) → used ≡ Expressions → read_names used field ≡ field_names used field
unfolding field_names
field-expressions used field is = read_as used Expressions field is ∙ sym (ap (λ u. field_names u field) is)

pub field-constants : (used : OperandUse) (field : List ℕ) → used ≡ Constants → read_names used field ≡ field_names used field
unfolding field_names
field-constants used field is = read_as used Constants field is ∙ sym (ap (λ u. field_names u field) is)

pub field-instruction : (used : OperandUse) (field : List ℕ) → used ≡ Instruction → read_names used field ≡ field_names used field
unfolding field_names
field-instruction used field is = read_as used Instruction field is ∙ sym (ap (λ u. field_names u field) is)

pub field-branches : (used : OperandUse) (field : List ℕ) → used ≡ Branches → operands_names used field ≡ field_names used field
unfolding field_names
field-branches used field is = ap (λ u. operands_names u field) is ∙ sym (ap (λ u. field_names u field) is)

pub field-member : (used : OperandUse) (field : List ℕ) → used ≡ Member → copied_name field ≡ field_names used field
unfolding field_names
field-member used field is = sym (ap (λ u. field_names u field) is)
