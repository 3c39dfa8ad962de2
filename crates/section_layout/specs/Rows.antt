-- What is said of a statement once all symbols are known (this project): that an EQU has no value, and what is said of the
-- expressions that its place left to be judged.
use Rattle.std.specs.Prelude.{ℕ, List, [], ◌∷◌, ◌++◌, Option, Some, None, slice_get}
use Rattle.std.specs.List.{flat_map}
use Rattle.section_steps.specs.Notes.{said_of_operand}
use Rattle.constant_operands.specs.Operands.{Operand}
use Rattle.expression_grammar.specs.Trees.{Tree}
use Rattle.expression_notes.specs.declared.values.Wanted.TheVariants as wanted
use Rattle.expression_notes.specs.Expressions.{said_of, undefined}
use Rattle.expression_notes.specs.Repeating.{once_behind}
use Rattle.note_rows.specs.declared.row.Row.{Row}
use Rattle.note_rows.specs.declared.row.Row.TheVariants.{EquWithoutValue, NotSimple}
use Rattle.ordinary_symbols.specs.declared.fault.Trouble.{Trouble}
use Rattle.ordinary_symbols.specs.declared.fault.Trouble.TheVariants.{Unresolved, Unsimple}
use Rattle.ordinary_symbols.specs.Known.{Knowledge}
use Rattle.ordinary_symbols.specs.Table.{Table, Entry, known, name_of, trouble_of}
use Rattle.trace_values.specs.declared.section.Reloc.{Reloc}
use Rattle.section_steps.specs.States.{Laid, Left, Nothing, Operands, Names, Expression, Equated}

-- of the EQU of a symbol, why it has no value
abbrev pub said_of_trouble : Option Trouble → (name : List ℕ) → List Row
said_of_trouble None name = []
said_of_trouble (Some Unresolved) name = EquWithoutValue name ∷ []
said_of_trouble (Some Unsimple) name = NotSimple ∷ []

abbrev pub said_of_entry : Option Entry → List Row
said_of_entry None = []
said_of_entry (Some entry) = said_of_trouble (trouble_of entry.standing) (name_of entry)

abbrev pub said_of_symbol : Table → Option ℕ → List Row
said_of_symbol table None = []
said_of_symbol table (Some at) = said_of_entry (slice_get table at)

abbrev pub said_of_equate : Table → Left → List Row
said_of_equate table (Equated symbol length) = said_of_symbol table symbol
said_of_equate table Nothing = []
said_of_equate table (Operands operands) = []
said_of_equate table (Names names) = []
said_of_equate table (Expression tree) = []

-- of the expressions of an operand, and of some, in order
unfoldable pub said_of_one : Knowledge → Option Reloc → Operand → List Row
said_of_one known here one = said_of_operand known here one

abbrev pub said_of_operands : Knowledge → Option Reloc → List Operand → List Row
said_of_operands known here operands = flat_map (said_of_one known here) operands

-- of a length
abbrev pub said_of_length : Knowledge → Option Reloc → Option Tree → List Row
said_of_length known here None = []
said_of_length known here (Some tree) = said_of known here wanted.Number tree

-- of what was left to be judged
abbrev pub said_of_left : Knowledge → Option Reloc → Left → List Row
said_of_left known here Nothing = []
said_of_left known here (Operands operands) = said_of_operands known here operands
said_of_left known here (Names names) = undefined known names
said_of_left known here (Expression tree) = said_of known here wanted.Value tree
said_of_left known here (Equated symbol length) = said_of_length known here length

-- that and what was said before, each undefined symbol once
abbrev pub judged_behind : Table → Option Reloc → Left → (given : List Row) → List Row
judged_behind table here left given = given ++ once_behind given (said_of_left (known table) here left)

-- all that is said of a statement: of its places, of the symbols that it defines, of an EQU, and of its other expressions
unfoldable pub rows : Table → Laid → List Row
rows table one = judged_behind table one.here one.left ((one.said ++ one.said_of_symbols) ++ said_of_equate table one.left)
