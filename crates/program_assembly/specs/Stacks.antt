-- The frames of the items at places, and notes at a stack one by one. No public clause cites this file. This project.
use Rattle.std.specs.Prelude.{List, [], ◌∷◌, slice_get, if◌then◌else◌}
use Rattle.std.specs.Option.{option_map_or}
use Rattle.hl_base.specs.declared.note.Note.{Note}
use Rattle.hl_base.specs.declared.place.Frame.{Frame}
use Rattle.trace_values.specs.CallFrames as call_frames
use Rattle.trace_values.specs.declared.item.TraceItem.{TraceItem}
use Rattle.trace_arena.specs.Nodes.{Node, node_at}
use Rattle.trace_cursor.specs.declared.descent.ItemPlace.{ItemPlace}
use Rattle.program_assembly.specs.PointNotes.{at_stack, is_of_columns}

-- the frames of the item at a place, if it is there
abbrev pub frames_there : List (Node TraceItem) → ItemPlace → List Frame
frames_there nodes place =
    option_map_or (λ item. call_frames.frames_of item.frames) (slice_get (node_at nodes place.node.0).items place.at) []

-- a note at a stack, unless it is that of a column fault
abbrev pub other_at : List Frame → Note → List Note
other_at stack note = if is_of_columns note then [] else at_stack stack note ∷ []
