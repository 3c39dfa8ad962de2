-- What operations are to layout (HLASM Language Reference SC26-4940, "Assembler instruction statements").
use Rattle.std.specs.Prelude.{ℕ, List, codes, if◌then◌else◌}
use Rattle.std.specs.Str.{bytes_eq}
use Rattle.constant_operands.specs.declared.operand.ConstantUse.TheVariants.{Dc, Ds}
use Rattle.symbol_attributes.specs.declared.meaning.OpMeaning.{OpMeaning}
use Rattle.symbol_attributes.specs.declared.meaning.OpMeaning.TheVariants as op
use Rattle.layout_statements.specs.declared.kind.Kind.{Kind}
use Rattle.layout_statements.specs.declared.kind.Kind.TheVariants.{Instruction, Constants, ControlSection, DummySection, Equate, Org, Pool, Externals, Entries, End, Using, Drop, Other}

-- what an operation of the assembler of this name is
abbrev pub kind_of_name : List ℕ → Kind
kind_of_name name =
    if bytes_eq name (codes "CSECT") then ControlSection else
    (if bytes_eq name (codes "START") then ControlSection else
    (if bytes_eq name (codes "DSECT") then DummySection else
    (if bytes_eq name (codes "DC") then Constants Dc else
    (if bytes_eq name (codes "DS") then Constants Ds else
    (if bytes_eq name (codes "EQU") then Equate else
    (if bytes_eq name (codes "ORG") then Org else
    (if bytes_eq name (codes "LTORG") then Pool else
    (if bytes_eq name (codes "EXTRN") then Externals else
    (if bytes_eq name (codes "WXTRN") then Externals else
    (if bytes_eq name (codes "ENTRY") then Entries else
    (if bytes_eq name (codes "END") then End else
    (if bytes_eq name (codes "USING") then Using else
    (if bytes_eq name (codes "DROP") then Drop else
    Other)))))))))))))

abbrev pub kind_of : OpMeaning → Kind
kind_of (op.Machine format) = Instruction format
kind_of (op.Assembler name) = kind_of_name name
kind_of op.Other = Other
