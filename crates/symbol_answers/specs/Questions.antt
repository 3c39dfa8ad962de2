-- Which occurrence a question means, where what it names is defined, and where else that is named (this project; Language Server
-- Protocol 3.17, "Position"). Columns count from 1 in characters; columns behind the 71st are no part of a statement.
use Rattle.std.specs.Prelude.{ℕ, Bool, ◌==◌, ◌&&◌, ◌||◌, not, nat_le, nat_lt, min, List, Option, filter, find}
use Rattle.std.specs.Option.{option_and_then, option_map}
use Rattle.hl_base.specs.declared.edit.Position.{Position}
use Rattle.document_store.specs.Holdings.{present_text}
use Rattle.document_store.specs.Positions.{column_of}
use Rattle.document_store.specs.Store.{Store}
use Rattle.trace_values.specs.declared.occurrence.Entity.{Entity}
use Rattle.trace_values.specs.declared.occurrence.Occurrence.{Occurrence}
use Rattle.symbol_answers.specs.Entities.{is_same_entity}

-- whether an occurrence holds a column of a line of a path: it begins there or before, and ends behind it
abbrev pub holds : (path : ℕ) → (place : ℕ × ℕ) → Occurrence → Bool
holds path place one =
    one.path.0 == path && (one.line == place.0 && (nat_le one.from place.1 && nat_lt place.1 (min one.to 72)))

-- the occurrence that holds a column of a line of a path; of several the first in the order of processing
abbrev pub at_place : List Occurrence → (path : ℕ) → (place : ℕ × ℕ) → Option Occurrence
at_place occurrences path place = find (holds path place) occurrences

-- the line and the column that a position means in the text that is present at a path
abbrev pub place_asked : Store → (path : ℕ) → Position → Option (ℕ × ℕ)
place_asked store path at = option_map (λ text. column_of text at) (present_text store path)

-- the occurrence that a question means
abbrev pub asked : Store → List Occurrence → (path : ℕ) → Position → Option Occurrence
asked store occurrences path at = option_and_then (at_place occurrences path) (place_asked store path at)

-- whether something is defined at an occurrence
abbrev pub is_definition : Entity → Occurrence → Bool
is_definition entity one = one.defines && is_same_entity one.entity entity

-- where it is defined first in the order of processing
abbrev pub definition_of : List Occurrence → Entity → Option Occurrence
definition_of occurrences entity = find (is_definition entity) occurrences

-- whether it is named there; where it is defined counts only if declarations are wanted
abbrev pub is_reference : Entity → (declarations : Bool) → Occurrence → Bool
is_reference entity declarations one = is_same_entity one.entity entity && (declarations || not one.defines)

-- all occurrences that name it, in the order of processing
abbrev pub references_of : List Occurrence → Entity → (declarations : Bool) → List Occurrence
references_of occurrences entity declarations = filter (is_reference entity declarations) occurrences
