-- The files that a run touches (this project).
use Rattle.std.specs.Prelude.{ℕ, List, map}
use Rattle.std.specs.List.{All, Contains, flat_map}
use Rattle.std.specs.List.Sorted.{IsStrictlySortedBy}
use Rattle.std.specs.Ordering.{nat_cmp}
use Rattle.hl_base.specs.declared.place.Frame.{Frame}
use Rattle.hl_base.specs.declared.place.PathId.{PathId}
use Rattle.trace_values.specs.declared.item.TraceItem.{TraceItem}
use Rattle.trace_arena.specs.Points.{Point}
use Rattle.trace_cursor.specs.Stacks.{stack_of}

-- the number of the path of a frame's statement
abbrev pub frame_path : Frame → ℕ
frame_path frame = frame.origin.path.0

-- the paths of the frames of a point, those round its call among them
abbrev pub stack_paths : Point TraceItem → List ℕ
stack_paths point = map frame_path (stack_of point)

-- the paths of the frames of points
abbrev pub all_paths : List (Point TraceItem) → List ℕ
all_paths points = flat_map stack_paths points

-- the numbers of paths
abbrev pub numbers : List PathId → List ℕ
numbers paths = map (λ path. path.0) paths

-- These are the paths that points touch, each once, in the order of their numbers: each path of a frame of a point, and no
-- other.
pub record AreTouched (points : List (Point TraceItem)) (paths : List PathId) : Type 0 where
  pub rising : IsStrictlySortedBy nat_cmp (numbers paths)
  pub all : All (Contains (numbers paths)) (all_paths points)
  pub only : All (Contains (all_paths points)) (numbers paths)
