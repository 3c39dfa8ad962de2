-- What a label means to attribute references, by its operation and operands (HLASM Language Reference SC26-4940,
-- "Attribute references", "Type attribute (T')", "Length attribute (L')"; which letters there are is this project's
-- profile).
use Rattle.std.specs.Prelude.{ℕ, List, Option, Some, None, codes, if◌then◌else◌}
use Rattle.std.specs.Str.{bytes_eq}
use Rattle.hl_base.specs.declared.set.Attr.{Attr}
use Rattle.instruction_table.specs.declared.format.Format.{Format}
use Rattle.instruction_table.specs.Formats as formats
use Rattle.operand_list.specs.Split.{operands_of}
use Rattle.symbol_attributes.specs.declared.meaning.OpMeaning.{OpMeaning}
use Rattle.symbol_attributes.specs.declared.meaning.OpMeaning.TheVariants.{Machine, Assembler, Other}
use Rattle.constant_table.specs.declared.lengths.Purpose.TheVariants.{Constant, Storage}
use Rattle.symbol_attributes.specs.Constants.{first_constant}
use Rattle.symbol_attributes.specs.Equates.{equate}

-- a letter with the length 1
abbrev pub plain : ℕ → Attr
plain letter = record { letter = letter; length = 1 }

-- a machine instruction has I (73) and its length
abbrev pub of_instruction : Format → Attr
of_instruction format = record { letter = 73; length = formats.length_of format }

-- sections have J (74); EQU, DC and DS go by their operands; all others have U (85)
abbrev pub of_assembler : (name operands : List ℕ) → Attr
of_assembler name operands =
    if bytes_eq name (codes "CSECT") then plain 74 else
    (if bytes_eq name (codes "DSECT") then plain 74 else
    (if bytes_eq name (codes "START") then plain 74 else
    (if bytes_eq name (codes "EQU") then equate (operands_of operands) else
    (if bytes_eq name (codes "DC") then first_constant Constant (operands_of operands) else
    (if bytes_eq name (codes "DS") then first_constant Storage (operands_of operands) else
    plain 85)))))

-- a label on an operation with these operands; a macro call has M (77)
abbrev pub attributes : OpMeaning → (operands : List ℕ) → Attr
attributes (Machine format) operands = of_instruction format
attributes (Assembler name) operands = of_assembler name operands
attributes Other operands = plain 77

-- the symbols that an operation of this name names as external: T (84) for EXTRN, $ (36) for WXTRN
abbrev pub external_by : List ℕ → Option Attr
external_by name = if bytes_eq name (codes "EXTRN") then Some (plain 84) else (if bytes_eq name (codes "WXTRN") then Some (plain 36) else None)

abbrev pub external : OpMeaning → Option Attr
external (Machine format) = None
external (Assembler name) = external_by name
external Other = None
