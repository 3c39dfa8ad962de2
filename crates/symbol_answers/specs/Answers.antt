-- The answers to questions on the symbols of a text (Language Server Protocol 3.17, "Goto Definition Request", "Find References
-- Request", "Hover Request", "Document Symbols Request"). The occurrences are those that stand, in the order of processing; a
-- question is a path, by its number, and a position in the text that is present there. This project.
use Rattle.std.specs.Prelude.{ℕ, Bool, false, ◌==◌, List, [], ◌∷◌, Option, Some, None, filter, map}
use Rattle.std.specs.Str.{chars}
use Rattle.hl_base.specs.declared.edit.Position.{Position}
use Rattle.hl_base.specs.declared.place.Frame.{Frame}
use Rattle.document_store.specs.Store.{Store}
use Rattle.lsp_messages.specs.declared.outgoing.DocumentSymbol.{DocumentSymbol}
use Rattle.lsp_messages.specs.declared.outgoing.Location.{Location}
use Rattle.lsp_messages.specs.declared.outgoing.SymbolAnswer.{SymbolAnswer}
use Rattle.lsp_messages.specs.declared.outgoing.SymbolAnswer.TheVariants.{Nothing, Place, Places, Hover, Symbols}
use Rattle.lsp_messages.specs.declared.outgoing.SymbolKind.{SymbolKind}
use Rattle.lsp_messages.specs.declared.outgoing.SymbolKind.TheVariants as kind
use Rattle.text_sites.specs.Sites.{Site, site_at}
use Rattle.text_sites.specs.Spans.{span_of, line_span}
use Rattle.trace_values.specs.declared.occurrence.Occurrence.{Occurrence}
use Rattle.trace_values.specs.declared.section.Reloc.{Reloc}
use Rattle.trace_values.specs.declared.section.Section.{Section}
use Rattle.trace_values.specs.declared.section.SectionId.{SectionId}
use Rattle.trace_values.specs.declared.symbol_row.SymbolRow.{SymbolRow}
use Rattle.symbol_answers.specs.Hover.{hover_text}
use Rattle.symbol_answers.specs.Order.{Spot, spot_of, in_order}
use Rattle.symbol_answers.specs.Questions.{asked, definition_of, references_of}

-- ---- places

-- a spot in a site, as the client is shown it
abbrev pub location_in : Site → Spot → Location
location_in site spot = record { uri = site.uri; range = span_of site.text spot.line spot.from spot.to }

-- a spot as the client is shown it
abbrev pub location_of : Store → Spot → Location
location_of store spot = location_in (site_at store spot.number) spot

-- ---- the definition

abbrev pub place_told : Store → Option Occurrence → SymbolAnswer
place_told store None = Nothing
place_told store (Some one) = Place (location_of store (spot_of store one))

-- where what stands there is defined
abbrev pub definition_told : Store → List Occurrence → Option Occurrence → SymbolAnswer
definition_told store occurrences None = Nothing
definition_told store occurrences (Some one) = place_told store (definition_of occurrences one.entity)

unfoldable pub definition : Store → List Occurrence → (path : ℕ) → Position → SymbolAnswer
definition store occurrences path at = definition_told store occurrences (asked store occurrences path at)

-- ---- the references

-- these occurrences as the client is shown them, in order
abbrev pub locations_of : Store → List Occurrence → List Location
locations_of store some = map (location_of store) (in_order (map (spot_of store) some))

-- where what stands there is named
abbrev pub references_told : Store → List Occurrence → (declarations : Bool) → Option Occurrence → SymbolAnswer
references_told store occurrences declarations None = Places []
references_told store occurrences declarations (Some one) =
    Places (locations_of store (references_of occurrences one.entity declarations))

unfoldable pub references : Store → List Occurrence → (path : ℕ) → Position → (declarations : Bool) → SymbolAnswer
references store occurrences path at declarations = references_told store occurrences declarations (asked store occurrences path at)

-- ---- what is said

abbrev pub hover_told : List SymbolRow → List Section → Store → Option Occurrence → SymbolAnswer
hover_told rows sections store None = Nothing
hover_told rows sections store (Some one) = Hover (chars (hover_text rows sections store one))

unfoldable pub hover : List SymbolRow → List Section → Store → List Occurrence → (path : ℕ) → Position → SymbolAnswer
hover rows sections store occurrences path at = hover_told rows sections store (asked store occurrences path at)

-- ---- the symbols of a document

-- whether a statement of open code stands in the text of a path, and in which line it begins, by its stack
abbrev pub stands_in : (path : ℕ) → List Frame → Bool
stands_in path [] = false
stands_in path (frame ∷ inner) = frame.origin.path.0 == path

abbrev pub line_of : List Frame → ℕ
line_of [] = 0
line_of (frame ∷ inner) = frame.origin.line

-- a number is a constant, and all else a variable
abbrev pub kind_within : Option SectionId → SymbolKind
kind_within None = kind.Constant
kind_within (Some section) = kind.Variable

abbrev pub kind_of : Option Reloc → SymbolKind
kind_of None = kind.Variable
kind_of (Some value) = kind_within value.section

-- a symbol as the client is shown it: over the shown columns of the first line of its statement of open code
abbrev pub symbol_of : (text : List ℕ) → SymbolRow → DocumentSymbol
symbol_of text row = record { kind = kind_of row.value; name = chars row.name; range = line_span text (line_of row.stack) }

-- the symbols whose statements of open code stand in a text, in the order of definition
unfoldable pub document_symbols : List SymbolRow → Store → (path : ℕ) → SymbolAnswer
document_symbols rows store path =
    Symbols (map (symbol_of (site_at store path).text) (filter (λ row. stands_in path row.stack) rows))
