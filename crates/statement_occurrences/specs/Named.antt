-- What the names of a statement name where it is met, and where they stand (HLASM Language Reference SC26-4940, "Symbols",
-- "Variable symbols", "Sequence symbols", "Macro call instructions", "COPY instruction"; which of them count is this project's).
use Rattle.std.specs.Prelude.{ℕ, ◌&&◌, Bool, true, false, not, List, [], ◌∷◌, ◌++◌, Option, Some, None, is_some, is_none, slice_index_or, if◌then◌else◌}
use Rattle.std.specs.List.{list_any}
use Rattle.std.specs.Str.{bytes_eq}
use Rattle.hl_base.specs.declared.place.Origin.{Origin}
use Rattle.hl_base.specs.declared.place.PathId.{PathId}
use Rattle.hlasm_statements.specs.Statements.{places}
use Rattle.hlasm_statements.specs.declared.statement.Field.{Field}
use Rattle.hlasm_statements.specs.declared.statement.Field.TheVariants.{Label, Op, Operands}
use Rattle.hlasm_statements.specs.declared.statement.Statement.{Statement}
use Rattle.statement_listing.specs.Listings.{Listed, elements, place_of}
use Rattle.statement_names.specs.Spans.{span}
use Rattle.statement_names.specs.declared.name.NameKind.{NameKind}
use Rattle.statement_names.specs.declared.name.NameKind.TheVariants as kind
use Rattle.statement_names.specs.declared.name.WrittenName.{WrittenName}
use Rattle.trace_values.specs.declared.occurrence.Entity.{Entity}
use Rattle.trace_values.specs.declared.occurrence.Entity.TheVariants as entity
use Rattle.trace_values.specs.declared.occurrence.Occurrence.{Occurrence}
use Rattle.trace_values.specs.declared.occurrence.Role.TheVariants as role
use Rattle.variable_meanings.specs.Meanings.{Call, meaning, meaning_at, own_scope}
use Rattle.variable_meanings.specs.declared.meaning.Meaning.{Meaning}
use Rattle.statement_occurrences.specs.declared.naming.Naming.{Naming}
use Rattle.trace_values.specs.declared.item.TraceItem.{TraceItem}

-- what is known where a statement is met: the list that is run there; what variable symbols mean in its call before it; what is kept
-- of it; the symbol that its label defines first of all; and the file of the member that it copies
pub record Circumstances : Type 0 where
  pub list : Option (List Listed)
  pub call : Call
  pub item : TraceItem
  pub first : Option (List ℕ)
  pub member : Option PathId

-- what is no variable symbol names this
abbrev pub plainly : Entity → (defines : Bool) → Option Naming
plainly what defines = Some (record { entity = what; defines = defines; role = role.Plain })

-- ---- variable symbols

abbrev pub is_same_field : Field → Field → Bool
is_same_field Label Label = true
is_same_field Op Op = true
is_same_field Operands Operands = true
is_same_field one other = false

abbrev pub is_variable : NameKind → Bool
is_variable kind.Variable = true
is_variable other = false

-- whether a name is the variable symbol of another one, in the same field
abbrev pub is_again : WrittenName → WrittenName → Bool
is_again name earlier = is_variable earlier.kind && (is_same_field earlier.field name.field && bytes_eq earlier.name name.name)

-- a symbol has its meaning of this place where it had none before the statement, and stands at no place of the field before
abbrev pub is_given_here : Call → (earlier : List WrittenName) → WrittenName → Bool
is_given_here call earlier name = is_none (meaning call name.name) && not (list_any (is_again name) earlier)

-- a symbol with this meaning
abbrev pub meant : (defines : Bool) → List ℕ → Option Meaning → Option Naming
meant defines name None = None
meant defines name (Some m) = Some (record { entity = entity.Variable m.scope name; defines = defines; role = m.role })

abbrev pub variable : Circumstances → (earlier : List WrittenName) → WrittenName → Option Naming
variable s earlier name =
    meant (is_given_here s.call earlier name) name.name (meaning_at s.call name.field name.at s.item name.name)

-- ---- other names

-- a symbol in the operands counts where the statement was generated
abbrev pub symbol : Circumstances → List ℕ → Option Naming
symbol s name = if is_some s.item.line then plainly (entity.Symbol name) false else None

-- whether a name is this one
abbrev pub is_this : List ℕ → Option (List ℕ) → Bool
is_this name None = false
is_this name (Some other) = bytes_eq name other

-- a label counts where it defines its symbol first of all
abbrev pub label : Circumstances → List ℕ → Option Naming
label s name = if is_this name s.first then plainly (entity.Symbol name) true else None

abbrev pub sequence_label : Circumstances → List ℕ → Option Naming
sequence_label s name = plainly (entity.Sequence (own_scope s.item.definition) name) true

-- whether a branch in a list finds a sequence symbol; where no list is known none does
abbrev pub is_found : Option (List Listed) → List ℕ → Bool
is_found None name = false
is_found (Some list) name = is_some (place_of name (elements list))

-- a sequence symbol that is branched to counts where a branch finds it
abbrev pub sequence_reference : Circumstances → List ℕ → Option Naming
sequence_reference s name =
    if is_found (s.list) name then plainly (entity.Sequence (own_scope s.item.definition) name) false else None

-- an operation counts where it named a macro
abbrev pub operation : (called : Option Origin) → List ℕ → Option Naming
operation None name = None
operation (Some origin) name = plainly (entity.Macro origin name) false

-- the operand of a COPY counts where it took a member
abbrev pub member : (file : Option PathId) → Option Naming
member None = None
member (Some path) = plainly (entity.Member path) false

-- ---- all of them

-- what a name of a kind names, where these stand before it in the statement
abbrev pub naming : NameKind → Circumstances → (earlier : List WrittenName) → WrittenName → Option Naming
naming kind.Variable s earlier name = variable s earlier name
naming kind.Symbol s earlier name = symbol s name.name
naming kind.Label s earlier name = label s name.name
naming kind.SequenceLabel s earlier name = sequence_label s name.name
naming kind.SequenceReference s earlier name = sequence_reference s name.name
naming kind.Operation s earlier name = operation s.item.called name.name
naming kind.Member s earlier name = member s.member

-- a name of a statement of a path as an occurrence: it stands where its first character does
abbrev pub occurrence_of : PathId → Statement → WrittenName → Naming → Occurrence
occurrence_of path statement name what =
    let place = span (slice_index_or (places statement name.field) name.at (0, 0)) name.count in
    record { path = path; line = place.line; from = place.from; to = place.to; entity = what.entity; defines = what.defines; role = what.role }

-- the occurrence, if a name is one
abbrev pub occurring : PathId → Statement → WrittenName → Option Naming → List Occurrence
occurring path statement name None = []
occurring path statement name (Some what) = occurrence_of path statement name what ∷ []

abbrev pub of_name : Circumstances → PathId → Statement → (earlier : List WrittenName) → WrittenName → List Occurrence
of_name s path statement earlier name = occurring path statement name (naming name.kind s earlier name)

-- the occurrences of names of a statement that stand behind these
abbrev pub of_names : Circumstances → PathId → Statement → (earlier names : List WrittenName) → List Occurrence
of_names s path statement earlier [] = []
of_names s path statement earlier (name ∷ names) =
    of_name s path statement earlier name ++ of_names s path statement (earlier ++ name ∷ []) names
