-- The stack of a point: the frames of the items behind which its nodes were linked, and then its own (this project).
use Rattle.std.specs.Prelude.{ℕ, ◌-◌, ◌==◌, if◌then◌else◌, min, List, [], ◌∷◌, ◌++◌, length}
use Rattle.hl_base.specs.declared.place.Frame.{Frame}
use Rattle.trace_values.specs.CallFrames.{frames_of}
use Rattle.trace_values.specs.declared.item.TraceItem.{TraceItem}
use Rattle.trace_arena.specs.Nodes.{Node, IsReached}
use Rattle.trace_arena.specs.Points.{Point}

-- the frames of these items, those of the first one outermost
abbrev pub frames_in : List TraceItem → List Frame
frames_in [] = []
frames_in (i ∷ is) = frames_of i.frames ++ frames_in is

-- the frames of a point, outermost first
abbrev pub stack_of : Point TraceItem → List Frame
stack_of point = frames_in point.calls ++ frames_of point.item.frames

-- a number as far as 32 bits count it
abbrev pub counted : ℕ → ℕ
counted n = min n 4294967295

-- how deep a point is: how many frames there are within the outermost one
abbrev pub depth_of : Point TraceItem → ℕ
depth_of point = length (stack_of point) - 1

-- the number of a node, once
abbrev pub only : ℕ → ℕ → ℕ
only root x = if x == root then 1 else 0

-- the node is the root, or a node below the root links it
abbrev pub IsBelow : {I : Type 0} → List (Node I) → ℕ → ℕ → Type 0
IsBelow nodes root x = IsReached nodes (only root) x
