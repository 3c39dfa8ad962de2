-- What a generated statement tells of symbols (HLASM Language Reference SC26-4940, "Symbols", "Attribute references", "EXTRN
-- instruction", "WXTRN instruction"): its label, where that is a symbol and the operation defines it, and the symbols that it
-- names as external.
use Rattle.std.specs.Prelude.{ℕ, List, [], ◌∷◌, ◌++◌, Option, Some, None, encode_utf8_all, if◌then◌else◌}
use Rattle.hl_base.specs.Symbols.{symbol_of}
use Rattle.hl_base.specs.declared.set.Attr.{Attr}
use Rattle.hl_base.specs.declared.set.Line.{Line}
use Rattle.operand_list.specs.Split.{operands_of}
use Rattle.symbol_attributes.specs.declared.meaning.OpMeaning.{OpMeaning}
use Rattle.symbol_attributes.specs.declared.meaning.OpMeaning.TheVariants.{Other}
use Rattle.symbol_attributes.specs.Meanings.{built_in, defines}
use Rattle.symbol_attributes.specs.Attributes.{attributes, external}
use Rattle.label_attributes.specs.declared.symbols.SymbolMeaning.{SymbolMeaning}

-- the name that a text spells, upper-cased
abbrev pub name_of : List ℕ → Option (List ℕ)
name_of text = symbol_of (encode_utf8_all text)

-- the label of an operation with these operands, where it is a symbol and is defined there
abbrev pub at_label : OpMeaning → (label : Option (List ℕ)) → (operands : List ℕ) → List SymbolMeaning
at_label op None operands = []
at_label op (Some name) operands = if defines op then record { name = name; attr = attributes op operands } ∷ [] else []

-- those of some operands that are symbols, each with this meaning
abbrev pub symbol_with : Attr → Option (List ℕ) → List SymbolMeaning
symbol_with attr None = []
symbol_with attr (Some name) = record { name = name; attr = attr } ∷ []

abbrev pub symbols_with : Attr → List (List ℕ) → List SymbolMeaning
symbols_with attr [] = []
symbols_with attr (operand ∷ operands) = symbol_with attr (name_of operand) ++ symbols_with attr operands

-- the symbols that an operation with these operands names as external
abbrev pub named_as : Option Attr → (operands : List ℕ) → List SymbolMeaning
named_as None operands = []
named_as (Some attr) operands = symbols_with attr (operands_of operands)

abbrev pub named_by : OpMeaning → (operands : List ℕ) → List SymbolMeaning
named_by op operands = named_as (external op) operands

-- what a statement with an operation of this name tells; one with no name for an operation tells nothing
abbrev pub meanings_by : Option (List ℕ) → Line → List SymbolMeaning
meanings_by None line = []
meanings_by (Some op) line = at_label (built_in op) (name_of line.label) line.operands ++ named_by (built_in op) line.operands

-- what a generated statement tells
abbrev pub meanings : Line → List SymbolMeaning
meanings line = meanings_by (name_of line.op) line

-- what the label of a macro call means, until a statement defines it
abbrev pub of_call : Attr
of_call = attributes Other []
