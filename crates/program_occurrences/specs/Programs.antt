-- The occurrences of a program, as a function of its points, of its texts, of the statements of the definitions of its macros and of
-- what is found under the names of members (this project).
use Rattle.std.specs.Prelude.{ℕ, List, [], ◌∷◌, ◌++◌, length}
use Rattle.std.specs.List.{flat_map}
use Rattle.defined_symbols.specs.Symbols.{defined_by, first_in, with_symbols}
use Rattle.running_calls.specs.Calls.{running, variables_at}
use Rattle.standing_occurrences.specs.Standing.{standing}
use Rattle.text_lists.specs.Definitions.{Defined}
use Rattle.text_lists.specs.Lists.{Source}
use Rattle.text_pool.specs.Members.{Member}
use Rattle.trace_arena.specs.Points.{Point}
use Rattle.trace_values.specs.declared.item.TraceItem.{TraceItem}
use Rattle.trace_values.specs.declared.occurrence.Occurrence.{Occurrence}
use Rattle.trace_variables.specs.Calls.{done_before}
use Rattle.program_occurrences.specs.Occurrences.{Situation, of_point}

-- the symbols that the statements of these points define, each once
abbrev pub symbols_of : List (Point TraceItem) → List (List ℕ)
symbols_of points = with_symbols [] (flat_map (λ point. defined_by point.item.line) points)

-- what is known where a point is met behind these points
abbrev pub situation : (before : List (Point TraceItem)) → Point TraceItem → Situation
situation before point = record {
  calls = λ level. running (done_before level before);
  level = length point.calls;
  variables = variables_at before (length point.calls) point.item;
  first = first_in (symbols_of before) point.item.line;
}

-- the occurrences of the points that are left, where these stand before them
abbrev pub of_points : List Source → List Defined → (List ℕ → Member) → (before points : List (Point TraceItem)) → List Occurrence
of_points texts definitions members before [] = []
of_points texts definitions members before (point ∷ points) =
    of_point texts definitions members (situation before point) point.item
    ++ of_points texts definitions members (before ++ point ∷ []) points

-- the occurrences of a program: of several at one place the first stands
unfoldable pub occurrences_of : List Source → List Defined → (List ℕ → Member) → List (Point TraceItem) → List Occurrence
occurrences_of texts definitions members points = standing (of_points texts definitions members [] points)
