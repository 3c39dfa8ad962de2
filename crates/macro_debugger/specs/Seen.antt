-- Breakpoints, frames and variables as the code holds and gathers them. No public clause cites this file. This project.
use Rattle.std.specs.Prelude.{ℕ, Bool, if◌then◌else◌, Option, Some, None, List, [], ◌∷◌, map, slice_get}
use Rattle.std.specs.Bool.{beq}
use Rattle.std.specs.List.{flat_map}
use Rattle.std.specs.Option.{option_map_or}
use Rattle.std.specs.BTreeMap.{BTreeMap}
use Rattle.std.specs.BTreeSet.{BTreeSet}
use Rattle.hl_base.specs.declared.place.Frame.{Frame}
use Rattle.trace_values.specs.CallFrames.{frames_of}
use Rattle.trace_values.specs.declared.item.TraceItem.{TraceItem}
use Rattle.trace_values.specs.declared.variable.Variable.{Variable}
use Rattle.trace_arena.specs.Nodes.{Node, node_at}
use Rattle.trace_cursor.specs.declared.descent.ItemPlace.{ItemPlace}
use Rattle.macro_debugger.specs.Stops.{Breaks}

-- a file with its lines
abbrev pub seen_file : ℕ × BTreeSet ℕ → ℕ × List ℕ
seen_file entry = (entry.0, entry.1.keys)

-- the files, if there are any
abbrev pub seen : Option (BTreeMap ℕ (BTreeSet ℕ)) → Breaks
seen None = []
seen (Some files) = map seen_file files.entries

-- the frames of the item of a place
abbrev pub frames_at : List (Node TraceItem) → ItemPlace → List Frame
frames_at nodes place =
    option_map_or (λ item. frames_of item.frames) (slice_get (node_at nodes place.node.0).items place.at) []

-- the frames of the items of places, those of the first one outermost
abbrev pub frames_there : List (Node TraceItem) → List ItemPlace → List Frame
frames_there nodes places = flat_map (frames_at nodes) places

-- a variable, if it is one of the global ones, or one of the local ones
abbrev pub part_of : Bool → Variable → List Variable
part_of globals variable = if beq variable.global globals then variable ∷ [] else []
