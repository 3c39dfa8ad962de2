-- The operations that are built in, and what each is for. HLASM Language Reference SC26-4940, "Conditional assembly
-- instructions" and "Assembler instructions"; which of them are left out is this project's profile.
use Rattle.std.specs.Prelude.{ℕ, Bool, List, Option, Some, None, ◌==◌, codes, if◌then◌else◌}
use Rattle.std.specs.List.{list_any, slice_split}
use Rattle.instruction_table.specs.declared.format.Format.{Format}
use Rattle.instruction_table.specs.declared.meaning.Operation.{Operation}
use Rattle.instruction_table.specs.declared.meaning.Operation.TheVariants.{Conditional, Ordinary, Both, Silent, LeftOut, Machine, Unknown}
use Rattle.instruction_table.specs.Instructions.{same_name, instructions, look_up}

-- names, with a blank between each two
abbrev pub words : List ℕ → List (List ℕ)
words text = slice_split (λ c. c == 32) text

-- whether a name is one of these
abbrev pub is_among : List ℕ → List (List ℕ) → Bool
is_among name names = list_any (λ other. same_name other name) names

-- conditional assembly alone
unfoldable pub conditional : List (List ℕ)
conditional = words (codes "ACTR AGO AIF ANOP GBLA GBLB GBLC LCLA LCLB LCLC MACRO MEND MEXIT SETA SETB SETC")

-- ordinary assembler operations alone
unfoldable pub ordinary : List (List ℕ)
ordinary = words (codes "CSECT DC DROP DS DSECT END ENTRY EQU EXTRN LTORG ORG START USING WXTRN")

-- both: conditional, and ordinary
unfoldable pub both : List (List ℕ)
both = words (codes "COPY MNOTE")

-- accepted, and doing nothing; also ordinary
unfoldable pub silent : List (List ℕ)
silent = words (codes "ALIAS AMODE EJECT PRINT RMODE SPACE TITLE")

-- left out of this profile
unfoldable pub left_out : List (List ℕ)
left_out = words (codes "AREAD AINSERT MHELP OPSYN SETAF SETCF ICTL DXD CXD XATTR LOCTR COM RSECT CCW CCW0 CCW1 CNOP PUSH POP ACONTROL ADATA CATTR CEJECT EXITCTL ISEQ PUNCH REPRO")

-- what a name is where it is no machine instruction
unfoldable pub other_operation : List ℕ → Operation
other_operation name =
    if is_among name conditional then Conditional
    else (if is_among name ordinary then Ordinary
    else (if is_among name both then Both
    else (if is_among name silent then Silent
    else (if is_among name left_out then LeftOut
    else Unknown))))

-- what is known of a name by the table
abbrev pub by_format : List ℕ → Option Format → Operation
by_format name (Some format) = Machine format
by_format name None = other_operation name

-- what an upper-cased name means as an operation
unfoldable pub operation_of : List ℕ → Operation
operation_of name = by_format name (look_up name instructions)
