-- What a statement does by its operation, where no macro definition has that name (HLASM Language Reference SC26-4940,
-- "Conditional assembly instructions", "Macro definitions", "MNOTE instruction", "COPY instruction", "END instruction").
use Rattle.std.specs.Prelude.{ℕ, Bool, true, false, List, [], ◌∷◌, codes, if◌then◌else◌}
use Rattle.std.specs.Str.{bytes_eq}
use Rattle.hl_base.specs.declared.set.SetKind.TheVariants.{A, B, C}
use Rattle.instruction_table.specs.Formats.{operands_of}
use Rattle.instruction_table.specs.declared.meaning.Operation.{Operation}
use Rattle.instruction_table.specs.declared.meaning.Operation.TheVariants.{Conditional, Ordinary, Both, Silent, LeftOut, Machine, Unknown}
use Rattle.statement_reading.specs.declared.task.Task.{Task}
use Rattle.statement_reading.specs.declared.task.Task.TheVariants.{Actr, Ago, Aif, Declare, Assign, Define, Leave, Copy, Mnote, Nothing, Generate, GenerateAlone, End, LeaveOut, Call}

-- the operations of conditional assembly; ANOP is the one that does nothing
abbrev pub conditional : List ℕ → Task
conditional name =
    if bytes_eq name (codes "ACTR") then Actr else
    (if bytes_eq name (codes "AGO") then Ago else
    (if bytes_eq name (codes "AIF") then Aif else
    (if bytes_eq name (codes "GBLA") then Declare A true else
    (if bytes_eq name (codes "GBLB") then Declare B true else
    (if bytes_eq name (codes "GBLC") then Declare C true else
    (if bytes_eq name (codes "LCLA") then Declare A false else
    (if bytes_eq name (codes "LCLB") then Declare B false else
    (if bytes_eq name (codes "LCLC") then Declare C false else
    (if bytes_eq name (codes "MACRO") then Define else
    (if bytes_eq name (codes "MEND") then Leave else
    (if bytes_eq name (codes "MEXIT") then Leave else
    (if bytes_eq name (codes "SETA") then Assign A else
    (if bytes_eq name (codes "SETB") then Assign B else
    (if bytes_eq name (codes "SETC") then Assign C else
    Nothing))))))))))))))

-- the ordinary assembler operations
abbrev pub ordinary : List ℕ → Task
ordinary name = if bytes_eq name (codes "END") then End else Generate

-- COPY and MNOTE
abbrev pub both : List ℕ → Task
both name = if bytes_eq name (codes "COPY") then Copy else Mnote

-- a machine instruction with these operands: what follows one without operands are remarks
abbrev pub machine : {K : Type 0} → List K → Task
machine [] = GenerateAlone
machine (kind ∷ kinds) = Generate

-- an operation that means this
abbrev pub task : List ℕ → Operation → Task
task name Conditional = conditional name
task name Ordinary = ordinary name
task name Both = both name
task name Silent = Nothing
task name LeftOut = LeaveOut
task name (Machine format) = machine (operands_of format)
task name Unknown = Call

-- whether no macro definition replaces an operation
abbrev pub is_lasting : Operation → Bool
is_lasting Conditional = true
is_lasting Ordinary = true
is_lasting Both = true
is_lasting other = false

-- whether a statement is generated: END is, too, and then ends
abbrev pub is_generated : Task → Bool
is_generated Generate = true
is_generated GenerateAlone = true
is_generated End = true
is_generated other = false
