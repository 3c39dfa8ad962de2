-- The definitions of the macros that a trace goes through (this project): each is known by the place of its prototype.
use Rattle.std.specs.Prelude.{ℕ, List, [], Option, Some, None}
use Rattle.std.specs.List.{fold}
use Rattle.hl_base.specs.declared.place.Origin.{Origin}
use Rattle.text_lists.specs.Definitions.{Defined, with_list}
use Rattle.text_lists.specs.Lists.{Source}
use Rattle.text_pool.specs.Members.{Member}
use Rattle.trace_arena.specs.Points.{Point}
use Rattle.trace_values.specs.declared.item.TraceItem.{TraceItem}
use Rattle.called_definitions.specs.Readings.{list_at}

-- definitions, and the one whose prototype stands at a place, if it is not there yet
abbrev pub with_definition : List Source → (List ℕ → Member) → List Defined → Option Origin → List Defined
with_definition texts members known None = known
with_definition texts members known (Some origin) = with_list known origin (list_at texts members origin)

-- definitions, and that of the macro whose statement a point is
abbrev pub with_point : List Source → (List ℕ → Member) → List Defined → Point TraceItem → List Defined
with_point texts members known point = with_definition texts members known point.item.definition

-- the definitions of the macros whose statements these points are, in the order in which they come, each once
unfoldable pub definitions_of : List Source → (List ℕ → Member) → List (Point TraceItem) → List Defined
definitions_of texts members points = fold (with_point texts members) [] points

-- definitions, and those whose prototypes stand at these places
abbrev pub with_prototype : List Source → (List ℕ → Member) → List Defined → Origin → List Defined
with_prototype texts members known origin = with_definition texts members known (Some origin)

abbrev pub with_prototypes : List Source → (List ℕ → Member) → List Defined → List Origin → List Defined
with_prototypes texts members known origins = fold (with_prototype texts members) known origins
