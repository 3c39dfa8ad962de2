-- What is said of a name where it stands (this project). Texts are given by their bytes.
use Rattle.std.specs.Prelude.{ℕ, ℤ, List, [], ◌++◌, codes, encode_utf8, Option, Some, None, find, slice_get, unwrap_or}
use Rattle.std.specs.Fmt.{decimal, signed_decimal}
use Rattle.std.specs.Option.{option_and_then}
use Rattle.std.specs.Str.{bytes_eq}
use Rattle.hl_base.specs.declared.set.Attr.{Attr}
use Rattle.hl_base.specs.declared.set.SetKind.{SetKind}
use Rattle.hl_base.specs.declared.set.SetKind.TheVariants as kind
use Rattle.document_store.specs.Store.{Store}
use Rattle.member_paths.specs.Paths.{file_name_of, member_name}
use Rattle.trace_values.specs.declared.occurrence.Entity.{Entity}
use Rattle.trace_values.specs.declared.occurrence.Entity.TheVariants.{Symbol, Variable, Sequence, Macro, Member}
use Rattle.trace_values.specs.declared.occurrence.Occurrence.{Occurrence}
use Rattle.trace_values.specs.declared.occurrence.Role.{Role}
use Rattle.trace_values.specs.declared.occurrence.Role.TheVariants.{Plain, Parameter, Local, System}
use Rattle.trace_values.specs.declared.occurrence.Scope.{Scope}
use Rattle.trace_values.specs.declared.occurrence.Scope.TheVariants.{Program, Definition, Global}
use Rattle.trace_values.specs.declared.section.Reloc.{Reloc}
use Rattle.trace_values.specs.declared.section.Section.{Section}
use Rattle.trace_values.specs.declared.section.SectionId.{SectionId}
use Rattle.trace_values.specs.declared.symbol_row.SymbolRow.{SymbolRow}

-- ---- variable symbols

abbrev pub kind_word : SetKind → List ℕ
kind_word kind.A = codes "arithmetic"
kind_word kind.B = codes "boolean"
kind_word kind.C = codes "character"

-- what a variable symbol is that is no global; of one without a role nothing is said
abbrev pub role_text : Role → List ℕ
role_text Plain = []
role_text Parameter = codes ": parameter"
role_text (Local sort) = codes ": local " ++ kind_word sort
role_text System = codes ": system variable"

-- what a variable symbol is
abbrev pub scope_text : Scope → Role → List ℕ
scope_text Program role = role_text role
scope_text (Definition origin) role = role_text role
scope_text (Global sort) role = codes ": global " ++ kind_word sort

-- ---- ordinary symbols

-- length and type of a symbol
abbrev pub attributes_text : Attr → List ℕ
attributes_text attr = codes ", length " ++ (decimal attr.length ++ (codes ", type " ++ encode_utf8 attr.letter))

-- the name of a section; one has none
abbrev pub section_name : Section → List ℕ
section_name section = unwrap_or section.name (codes "(unnamed)")

-- where an offset lies: in a section, or in none of the program, as those of external symbols do
abbrev pub offset_text : Attr → ℤ → Option Section → List ℕ
offset_text attr value None = codes ": external"
offset_text attr value (Some section) =
    codes ": offset " ++ (signed_decimal value ++ (codes " in " ++ (section_name section ++ attributes_text attr)))

-- a value: an offset in the section of its number, or a number
abbrev pub place_text : List Section → Attr → ℤ → Option SectionId → List ℕ
place_text sections attr value None = codes ": absolute " ++ (signed_decimal value ++ attributes_text attr)
place_text sections attr value (Some id) = offset_text attr value (slice_get sections id.0)

-- what is known of a value
abbrev pub value_text : List Section → Attr → Option Reloc → List ℕ
value_text sections attr None = codes ": no value"
value_text sections attr (Some value) = place_text sections attr value.value value.section

-- what a symbol is, if it was defined
abbrev pub row_text : List Section → Option SymbolRow → List ℕ
row_text sections None = codes ": no value"
row_text sections (Some row) = value_text sections row.attr row.value

-- what a symbol of a name is
abbrev pub symbol_text : List SymbolRow → List Section → (name : List ℕ) → List ℕ
symbol_text rows sections name = row_text sections (find (λ row. bytes_eq row.name name) rows)

-- ---- all names

-- the name of the member that the file of the path of a number is
abbrev pub member_text : Store → (number : ℕ) → List ℕ
member_text store number =
    unwrap_or (option_and_then (λ path. member_name (file_name_of path)) (slice_get store.paths number)) []

-- what is said of a name
abbrev pub entity_text : List SymbolRow → List Section → Store → Role → Entity → List ℕ
entity_text rows sections store role (Symbol name) = name ++ symbol_text rows sections name
entity_text rows sections store role (Variable scope name) = codes "&" ++ (name ++ scope_text scope role)
entity_text rows sections store role (Sequence scope name) = codes "." ++ (name ++ codes ": sequence symbol")
entity_text rows sections store role (Macro origin name) = codes "macro " ++ name
entity_text rows sections store role (Member path) = codes "member " ++ member_text store path.0

-- what is said of an occurrence
abbrev pub hover_text : List SymbolRow → List Section → Store → Occurrence → List ℕ
hover_text rows sections store one = entity_text rows sections store one.role one.entity
