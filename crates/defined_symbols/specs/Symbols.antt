-- Which ordinary symbols statements define, and which of them a label defines first of all (HLASM Language Reference SC26-4940,
-- "Symbols", "EXTRN instruction", "WXTRN instruction").
use Rattle.std.specs.Prelude.{ℕ, List, [], ◌∷◌, ◌++◌, map, Option, Some, None, if◌then◌else◌}
use Rattle.std.specs.List.{fold, list_any}
use Rattle.std.specs.Str.{bytes_eq}
use Rattle.hl_base.specs.declared.set.Line.{Line}
use Rattle.label_attributes.specs.Meanings.{meanings, name_of}
use Rattle.label_attributes.specs.declared.symbols.SymbolMeaning.{SymbolMeaning}
use Rattle.symbol_attributes.specs.Meanings.{built_in, defines}

abbrev pub name_in : SymbolMeaning → List ℕ
name_in one = one.name

-- the symbols that a statement defines, by its label or as external ones, and those of what was generated
abbrev pub defined_in : Line → List (List ℕ)
defined_in line = map name_in (meanings line)

abbrev pub defined_by : Option Line → List (List ℕ)
defined_by None = []
defined_by (Some line) = defined_in line

-- the symbol that the label of a statement defines, on an operation of this name
abbrev pub label_on : Option (List ℕ) → Line → Option (List ℕ)
label_on None line = None
label_on (Some op) line = if defines (built_in op) then name_of line.label else None

abbrev pub label_in : Line → Option (List ℕ)
label_in line = label_on (name_of line.op) line

abbrev pub label_of : Option Line → Option (List ℕ)
label_of None = None
label_of (Some line) = label_in line

-- a symbol, unless it is one of these
abbrev pub unless_known : List (List ℕ) → Option (List ℕ) → Option (List ℕ)
unless_known known None = None
unless_known known (Some name) = if list_any (bytes_eq name) known then None else Some name

-- the symbol that the label of what was generated defines first of all, where these were defined before
abbrev pub first_in : List (List ℕ) → Option Line → Option (List ℕ)
first_in known line = unless_known known (label_of line)

-- symbols, and one more that is defined, or some; each is there once
abbrev pub with_symbol : List (List ℕ) → List ℕ → List (List ℕ)
with_symbol known name = if list_any (bytes_eq name) known then known else known ++ name ∷ []

abbrev pub with_symbols : List (List ℕ) → List (List ℕ) → List (List ℕ)
with_symbols known names = fold with_symbol known names
