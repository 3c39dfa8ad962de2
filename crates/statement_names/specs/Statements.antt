-- The names of a statement. HLASM Language Reference SC26-4940, "Name entry", "Operation entry", "Sequence symbols".
use Rattle.std.specs.Prelude.{ℕ, ◌+◌, ◌==◌, Bool, List, [], ◌∷◌, ◌++◌, length, if◌then◌else◌}
use Rattle.hlasm_statements.specs.declared.statement.Field.TheVariants.{Label, Op}
use Rattle.hlasm_statements.specs.declared.statement.Statement.{Statement}
use Rattle.statement_names.specs.declared.name.NameKind.TheVariants as kind
use Rattle.statement_names.specs.declared.name.WrittenName.{WrittenName}
use Rattle.statement_names.specs.declared.uses.OperandUse.{OperandUse}
use Rattle.statement_names.specs.Names.{named, name_of, stands}
use Rattle.statement_names.specs.Operands.{has_ampersand, variables, field_names}

-- a name entry without an ampersand: a period (46) and a name, or an ordinary symbol
abbrev pub label_name : List ℕ → List WrittenName
label_name [] = []
label_name (c ∷ rest) =
    if c == 46 then stands Label 0 (named kind.SequenceLabel (length rest + 1) (name_of rest))
    else stands Label 0 (named kind.Label (length (c ∷ rest)) (name_of (c ∷ rest)))

-- a name entry
abbrev pub label_names : List ℕ → List WrittenName
label_names label = if has_ampersand label then variables Label label else label_name label

-- an operation
abbrev pub operation_names : List ℕ → List WrittenName
operation_names op = if has_ampersand op then variables Op op else stands Op 0 (named kind.Operation (length op) (name_of op))

-- the names of a statement whose operation reads this of its operands: in name entry, operation and operands, and in each from
-- left to right
unfoldable pub names_in : OperandUse → Statement → List WrittenName
names_in used statement = label_names statement.label ++ operation_names statement.op ++ field_names used statement.operands
