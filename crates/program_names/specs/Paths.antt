-- The paths that a program touches (this project).
use Rattle.std.specs.Prelude.{ℕ, List, [], ◌∷◌, ◌++◌, map, Option, Some, None, if◌then◌else◌}
use Rattle.std.specs.List.{fold, flat_map}
use Rattle.std.specs.Ordering.{nat_cmp}
use Rattle.std.specs.BTreeSet.{insert_key}
use Rattle.hl_base.specs.declared.place.Origin.{Origin}
use Rattle.hl_base.specs.declared.place.PathId.{PathId}
use Rattle.program_occurrences.specs.Operations.{is_entered}
use Rattle.text_lists.specs.Definitions.{Defined, defined_paths}
use Rattle.trace_arena.specs.Points.{Point}
use Rattle.trace_paths.specs.Touched.{frame_path}
use Rattle.trace_values.specs.CallFrames.{frames_of}
use Rattle.trace_values.specs.declared.item.TraceItem.{TraceItem}

-- the place of the prototype of the macro whose call an item entered, if it entered one
abbrev pub entered : TraceItem → Option Origin
entered item = if is_entered item then item.called else None

-- the path of a place, if there is one
abbrev pub called_path : Option Origin → List ℕ
called_path None = []
called_path (Some origin) = origin.path.0 ∷ []

-- The paths of a point: those of the frames of its own call, and that of the macro whose call it enters. The frames round its call
-- are those of the statements that called, which are points themselves.
abbrev pub item_paths : TraceItem → List ℕ
item_paths item = map frame_path (frames_of item.frames) ++ called_path (entered item)

abbrev pub point_paths : Point TraceItem → List ℕ
point_paths point = item_paths point.item

-- the paths of points
abbrev pub all_paths : List (Point TraceItem) → List ℕ
all_paths points = flat_map point_paths points

-- paths and others, each once, in the order of their numbers
abbrev pub with_paths : List ℕ → List ℕ → List ℕ
with_paths met others = fold (insert_key nat_cmp) met others

-- the paths that points touch
abbrev pub met_paths : List (Point TraceItem) → List ℕ
met_paths points = with_paths [] (all_paths points)

-- those, and the paths of the statements of these definitions
abbrev pub touched : List (Point TraceItem) → List Defined → List PathId
touched points definitions = map (λ n. record { 0 = n }) (with_paths (met_paths points) (flat_map defined_paths definitions))
