-- Labels of calls that define a symbol (this project): where a statement whose label is written with an ampersand defines a symbol first
-- of all, the label of the innermost call round it that is written as this very symbol is its definition.
use Rattle.std.specs.Prelude.{ℕ, zero, suc, ◌==◌, Bool, true, false, List, [], ◌∷◌, length, Option, Some, None, encode_utf8_all, if◌then◌else◌}
use Rattle.std.specs.List.{list_any}
use Rattle.std.specs.Str.{bytes_eq}
use Rattle.std.specs.Option.{option_map}
use Rattle.hl_base.specs.Symbols.{symbol_of}
use Rattle.hl_base.specs.declared.place.Origin.{Origin}
use Rattle.hl_base.specs.declared.place.PathId.{PathId}
use Rattle.hlasm_statements.specs.declared.statement.Field.TheVariants.{Label}
use Rattle.hlasm_statements.specs.declared.statement.Statement.{Statement}
use Rattle.running_calls.specs.declared.calls.RunningCall.{RunningCall}
use Rattle.statement_listing.specs.Listings.{Listed}
use Rattle.statement_names.specs.declared.name.NameKind.TheVariants as kind
use Rattle.statement_names.specs.declared.name.WrittenName.{WrittenName}
use Rattle.statement_occurrences.specs.Named.{occurrence_of}
use Rattle.text_lists.specs.Lists.{Source, line_at}
use Rattle.trace_values.specs.declared.occurrence.Entity.TheVariants as entity
use Rattle.trace_values.specs.declared.occurrence.Occurrence.{Occurrence}
use Rattle.trace_values.specs.declared.occurrence.Role.TheVariants as role

-- whether a text has an ampersand (38)
abbrev pub has_ampersand : List ℕ → Bool
has_ampersand text = list_any (λ c. c == 38) text

-- whether a label is written as this symbol
abbrev pub is_same : List ℕ → Option (List ℕ) → Bool
is_same name None = false
is_same name (Some label) = bytes_eq name label

abbrev pub is_written : List ℕ → Statement → Bool
is_written name statement = is_same name (symbol_of (encode_utf8_all statement.label))

-- whether the label of what stands at a place is
abbrev pub is_line_written : List ℕ → Option Listed → Bool
is_line_written name None = false
is_line_written name (Some line) = is_written name line.statement

abbrev pub is_labelled : List Source → List ℕ → Origin → Bool
is_labelled texts name origin = is_line_written name (line_at texts origin)

-- whether the label of the statement of a call is
abbrev pub is_call_labelled : List Source → List ℕ → Option RunningCall → Bool
is_call_labelled texts name None = false
is_call_labelled texts name (Some call) = is_labelled texts name call.at

abbrev pub place_in : RunningCall → Origin
place_in call = call.at

-- where the statement of the innermost of so many calls stands of which it is, by their levels
abbrev pub labelled_call : List Source → List ℕ → (calls : ℕ → Option RunningCall) → (count : ℕ) → Option Origin
labelled_call texts name calls zero = None
labelled_call texts name calls (suc level) =
    if is_call_labelled texts name (calls level) then option_map place_in (calls level) else labelled_call texts name calls level

-- the label of a statement as this symbol
abbrev pub label_name : Statement → List ℕ → WrittenName
label_name statement name = record { kind = kind.Label; field = Label; at = 0; count = length statement.label; name = name }

-- the label of a statement of a path as the definition of this symbol, if it has one
abbrev pub label_of : PathId → Statement → List ℕ → List Occurrence
label_of path statement name =
    if length statement.label == 0 then []
    else occurrence_of path statement (label_name statement name) (record { entity = entity.Symbol name; defines = true; role = role.Plain }) ∷ []

abbrev pub label_in : PathId → Option Listed → List ℕ → List Occurrence
label_in path None name = []
label_in path (Some line) name = label_of path line.statement name

abbrev pub label_at : List Source → List ℕ → Origin → List Occurrence
label_at texts name origin = label_in origin.path (line_at texts origin) name

abbrev pub label_found : List Source → List ℕ → Option Origin → List Occurrence
label_found texts name None = []
label_found texts name (Some origin) = label_at texts name origin

-- the occurrence at a call of so many that a statement within them gives, which defines this symbol first of all, if one
abbrev pub of_calls : List Source → (calls : ℕ → Option RunningCall) → (count : ℕ) → Statement → (first : Option (List ℕ)) → List Occurrence
of_calls texts calls count statement None = []
of_calls texts calls count statement (Some name) =
    if has_ampersand statement.label then label_found texts name (labelled_call texts name calls count) else []
