-- Names in an operand field. HLASM Language Reference SC26-4940, "Operand entry", "Literals", "AGO instruction", "AIF
-- instruction", "COPY instruction".
use Rattle.std.specs.Prelude.{ℕ, ◌+◌, ◌==◌, Bool, List, [], ◌∷◌, ◌++◌, length, if◌then◌else◌}
use Rattle.std.specs.List.{list_any}
use Rattle.operand_list.specs.Split.{operands_of}
use Rattle.hlasm_statements.specs.declared.statement.Field.{Field}
use Rattle.hlasm_statements.specs.declared.statement.Field.TheVariants.{Operands}
use Rattle.statement_names.specs.declared.name.NameKind.TheVariants as kind
use Rattle.statement_names.specs.declared.name.WrittenName.{WrittenName}
use Rattle.statement_names.specs.declared.scan.Sought.TheVariants as sought
use Rattle.statement_names.specs.declared.uses.OperandUse.{OperandUse}
use Rattle.statement_names.specs.declared.uses.OperandUse.TheVariants.{Remarks, Unread, Expressions, Constants, Instruction, Branches, Member}
use Rattle.statement_names.specs.Constants.{symbols, constant_symbols}
use Rattle.statement_names.specs.Names.{names, named, name_of, stands}

-- whether a text has an ampersand (38)
abbrev pub has_ampersand : List ℕ → Bool
has_ampersand text = list_any (λ c. c == 38) text

-- the variable symbols of a field
abbrev pub variables : Field → List ℕ → List WrittenName
variables field text = names sought.Variables field 0 text

-- the symbols of an operand of a machine instruction: what begins with an equals sign (61) is a literal, a constant behind it
abbrev pub instruction_symbols : (at : ℕ) → List ℕ → List WrittenName
instruction_symbols at [] = []
instruction_symbols at (c ∷ rest) = if c == 61 then constant_symbols (at + 1) rest else symbols at (c ∷ rest)

-- the names that an operation reads in an operand that stands behind so many characters of its field
abbrev pub operand_names : OperandUse → (at : ℕ) → List ℕ → List WrittenName
operand_names Remarks at text = []
operand_names Unread at text = []
operand_names Expressions at text = symbols at text
operand_names Constants at text = constant_symbols at text
operand_names Instruction at text = instruction_symbols at text
operand_names Branches at text = names sought.Branch Operands at text
operand_names Member at text = []

-- those in some operands, of which the first stands behind so many characters and a comma stands between each two
abbrev pub each_operand : OperandUse → (at : ℕ) → List (List ℕ) → List WrittenName
each_operand used at [] = []
each_operand used at (text ∷ texts) = operand_names used at text ++ each_operand used (at + length text + 1) texts

-- those in the operands of a field
unfoldable pub operands_names : OperandUse → List ℕ → List WrittenName
operands_names used field = each_operand used 0 (operands_of field)

-- a member: all of a field
abbrev pub member_name : List ℕ → List WrittenName
member_name field = stands Operands 0 (named kind.Member (length field) (name_of field))

-- a field whose operands are read has none of the names that are read where it has an ampersand, and its variable symbols
unfoldable pub read_names : OperandUse → List ℕ → List WrittenName
read_names used field = if has_ampersand field then variables Operands field else operands_names used field

-- the field of a COPY
unfoldable pub copied_name : List ℕ → List WrittenName
copied_name field = if has_ampersand field then variables Operands field else member_name field

-- the names in an operand field
unfoldable pub field_names : OperandUse → List ℕ → List WrittenName
field_names Remarks field = []
field_names Unread field = variables Operands field
field_names Expressions field = read_names Expressions field
field_names Constants field = read_names Constants field
field_names Instruction field = read_names Instruction field
field_names Branches field = operands_names Branches field
field_names Member field = copied_name field
