-- Which occurrences stand: of several at one place the first in the order of processing (this project).
use Rattle.std.specs.Prelude.{Bool, ◌==◌, ◌&&◌, not, List, [], ◌∷◌, ◌++◌, filter, if◌then◌else◌}
use Rattle.std.specs.List.{list_any}
use Rattle.trace_values.specs.declared.occurrence.Occurrence.{Occurrence}

-- whether two occurrences have the same columns of the same line of the same path
abbrev pub is_same_place : Occurrence → Occurrence → Bool
is_same_place a b = a.path.0 == b.path.0 && (a.line == b.line && (a.from == b.from && a.to == b.to))

-- those of some occurrences before which none has their place
abbrev pub standing : List Occurrence → List Occurrence
standing [] = []
standing (first ∷ others) = first ∷ filter (λ other. not (is_same_place first other)) (standing others)

-- what stands once another occurrence comes behind those that do
abbrev pub with_first : List Occurrence → Occurrence → List Occurrence
with_first kept next = if list_any (is_same_place next) kept then kept else kept ++ next ∷ []
