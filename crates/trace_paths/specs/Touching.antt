-- The paths that were met, in order. No public clause cites this file. This project.
use Rattle.std.specs.Prelude.{ℕ, List, map}
use Rattle.std.specs.List.{fold}
use Rattle.std.specs.Ordering.{nat_cmp}
use Rattle.std.specs.BTreeSet.{insert_key}
use Rattle.trace_values.specs.CallFrames.{CallFrames, frames_of}
use Rattle.trace_values.specs.declared.item.TraceItem.{TraceItem}
use Rattle.trace_arena.specs.Points.{Point}
use Rattle.trace_paths.specs.Touched.{frame_path}

-- the paths of the frames of a call at a statement
abbrev pub call_paths : CallFrames → List ℕ
call_paths frames = map frame_path (frames_of frames)

-- the paths of a point's own frames
abbrev pub own_paths : Point TraceItem → List ℕ
own_paths point = call_paths point.item.frames

-- so many paths, and these
abbrev pub with_paths : List ℕ → List ℕ → List ℕ
with_paths met paths = fold (insert_key nat_cmp) met paths
