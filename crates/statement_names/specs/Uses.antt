-- What an operation reads of its operands. HLASM Language Reference SC26-4940, "Machine instruction statements", "Assembler
-- instruction statements", "Conditional assembly instructions".
use Rattle.std.specs.Prelude.{ℕ, ◌||◌, List, [], ◌∷◌, codes, Option, Some, None, if◌then◌else◌}
use Rattle.std.specs.Str.{bytes_eq}
use Rattle.hl_base.specs.Symbols.{symbol_of}
use Rattle.instruction_table.specs.Formats.{operands_of}
use Rattle.instruction_table.specs.Operations.{operation_of}
use Rattle.instruction_table.specs.declared.meaning.Operation.{Operation}
use Rattle.instruction_table.specs.declared.meaning.Operation.TheVariants as op
use Rattle.statement_names.specs.declared.uses.OperandUse.{OperandUse}
use Rattle.statement_names.specs.declared.uses.OperandUse.TheVariants.{Remarks, Unread, Expressions, Constants, Instruction, Branches, Member}

-- an instruction with these operands: what follows one without operands are remarks
abbrev pub machine_use : {K : Type 0} → List K → OperandUse
machine_use [] = Remarks
machine_use (kind ∷ kinds) = Instruction

-- the assembler's operations: CSECT, DSECT, LTORG and START read no operands
abbrev pub ordinary_use : List ℕ → OperandUse
ordinary_use name =
    if bytes_eq name (codes "DC") then Constants else
    (if bytes_eq name (codes "DS") then Constants else
    (if bytes_eq name (codes "DROP") then Expressions else
    (if bytes_eq name (codes "END") then Expressions else
    (if bytes_eq name (codes "ENTRY") then Expressions else
    (if bytes_eq name (codes "EQU") then Expressions else
    (if bytes_eq name (codes "EXTRN") then Expressions else
    (if bytes_eq name (codes "ORG") then Expressions else
    (if bytes_eq name (codes "USING") then Expressions else
    (if bytes_eq name (codes "WXTRN") then Expressions else
    Unread)))))))))

-- those of conditional assembly: AGO and AIF name sequence symbols
abbrev pub conditional_use : List ℕ → OperandUse
conditional_use name =
    if bytes_eq name (codes "AGO") then Branches else
    (if bytes_eq name (codes "AIF") then Branches else
    Unread)

-- COPY names a member; MNOTE names nothing
abbrev pub both_use : List ℕ → OperandUse
both_use name = if bytes_eq name (codes "COPY") then Member else Unread

-- an operation that means this
abbrev pub use_by : List ℕ → Operation → OperandUse
use_by name op.Conditional = conditional_use name
use_by name op.Ordinary = ordinary_use name
use_by name op.Both = both_use name
use_by name op.Silent = Unread
use_by name op.LeftOut = Unread
use_by name (op.Machine format) = machine_use (operands_of format)
use_by name op.Unknown = Unread

-- what is no name is no operation
abbrev pub use_named : Option (List ℕ) → OperandUse
use_named (Some name) = use_by name (operation_of name)
use_named None = Unread

-- an operation that is written so and is no macro
abbrev pub use_of : List ℕ → OperandUse
use_of op = use_named (symbol_of op)
