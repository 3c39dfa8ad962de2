-- What is said of an ordinary expression (this project; HLASM Language Reference SC26-4940, "Absolute and relocatable
-- expressions"): that it is not absolute or simply relocatable, where its first fault is that, an overflow among them, or
-- where it is relocatable and a number is wanted; and then of each symbol of which nothing is known that it is not defined.
use Rattle.std.specs.Prelude.{ℕ, List, [], ◌∷◌, ◌++◌, map, Option, Some, None, Result, Ok, Err}
use Rattle.std.specs.List.{filter}
use Rattle.std.specs.Option.{is_none}
use Rattle.trace_values.specs.declared.section.Reloc.{Reloc}
use Rattle.trace_values.specs.declared.section.SectionId.{SectionId}
use Rattle.expression_grammar.specs.Trees.{Tree}
use Rattle.note_rows.specs.declared.row.Row.{Row}
use Rattle.note_rows.specs.declared.row.Row.TheVariants as row
use Rattle.ordinary_symbols.specs.declared.fault.EvalFault.{EvalFault}
use Rattle.ordinary_symbols.specs.declared.fault.EvalFault.TheVariants as fault
use Rattle.ordinary_symbols.specs.Known.{Knowledge, names}
use Rattle.ordinary_symbols.specs.Values.{value}
use Rattle.expression_notes.specs.declared.values.Wanted.{Wanted}
use Rattle.expression_notes.specs.declared.values.Wanted.TheVariants as wanted

-- what is said of a value in a section, or in none: a number is in none
abbrev pub said_of_section : Wanted → Option SectionId → Option Row
said_of_section wanted.Value section = None
said_of_section wanted.Number (Some section) = Some row.NotSimple
said_of_section wanted.Number None = None

-- what is said of a value, or of why there is none; an unknown symbol is told by its name
abbrev pub said_of_value : Wanted → Result Reloc EvalFault → Option Row
said_of_value purpose (Ok found) = said_of_section purpose found.section
said_of_value purpose (Err (fault.Undefined name)) = None
said_of_value purpose (Err fault.NotSimple) = Some row.NotSimple
said_of_value purpose (Err fault.Overflow) = Some row.NotSimple

-- a row, if there is one
abbrev pub listed : Option Row → List Row
listed None = []
listed (Some said) = said ∷ []

-- of each of some symbols of which nothing is known, that it is not defined
abbrev pub undefined : Knowledge → List (List ℕ) → List Row
undefined known symbols = map (λ name. row.UndefinedSymbol name) (filter (λ name. is_none (known name)) symbols)

-- what is said of an expression at a place
abbrev pub said_of : Knowledge → Option Reloc → Wanted → Tree → List Row
said_of known here purpose tree = listed (said_of_value purpose (value known here tree)) ++ undefined known (names tree)
