-- What an operation is to a label on it (HLASM Language Reference SC26-4940, "Symbols").
use Rattle.std.specs.Prelude.{ℕ, Bool, true, false, List}
use Rattle.instruction_table.specs.declared.meaning.Operation.{Operation}
use Rattle.instruction_table.specs.declared.meaning.Operation.TheVariants as operation
use Rattle.instruction_table.specs.Operations.{operation_of}
use Rattle.symbol_attributes.specs.declared.meaning.OpMeaning.{OpMeaning}
use Rattle.symbol_attributes.specs.declared.meaning.OpMeaning.TheVariants.{Machine, Assembler, Other}

-- what an operation of this name is, by the table of operations
abbrev pub by_table : List ℕ → Operation → OpMeaning
by_table name (operation.Machine format) = Machine format
by_table name operation.Unknown = Other
by_table name operation.Conditional = Assembler name
by_table name operation.Ordinary = Assembler name
by_table name operation.Both = Assembler name
by_table name operation.Silent = Assembler name
by_table name operation.LeftOut = Assembler name

-- what an operation is where no macro definition has its upper-cased name
abbrev pub built_in : List ℕ → OpMeaning
built_in name = by_table name (operation_of name)

-- whether an operation is ordinary alone: neither conditional, as COPY and MNOTE are too, nor without effect, nor left out
abbrev pub is_ordinary : Operation → Bool
is_ordinary operation.Ordinary = true
is_ordinary operation.Conditional = false
is_ordinary operation.Both = false
is_ordinary operation.Silent = false
is_ordinary operation.LeftOut = false
is_ordinary (operation.Machine format) = false
is_ordinary operation.Unknown = false

-- whether a label on an operation defines a symbol
abbrev pub defines : OpMeaning → Bool
defines (Machine format) = true
defines (Assembler name) = is_ordinary (operation_of name)
defines Other = false
