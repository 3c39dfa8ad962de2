use Rattle.std.proofs.Common.{◌≡◌, ◌<◌, ◌++◌, take, length}
use Rattle.trace_arena.specs.Points.{points}
use Rattle.trace_cursor.specs.Places.{StandsAt}
use Rattle.statement_checks.specs.Layout.{rows_of}
use Rattle.statement_checks.specs.Views.{layout_view}
use Rattle.program_assembly.specs.Statements.{generated, noted_points}
use Rattle.program_assembly.proofs.point_notes.add_point_notes.Given as goal

-- the cursor stands at the point of the number, the statements of those before it are counted, and their notes are added
abbrev pub invariant-loop-index : goal.invariant-loop-index
invariant-loop-index l =
    StandsAt l.arena.nodes l.cursor
    × (l.cursor.root ≡ l.root)
    × (l.index < length (points l.arena.nodes l.root.0) → l.cursor.index ≡ l.index)
    × (l.statements ≡ length (generated (take l.index (points l.arena.nodes l.root.0))))
    × (l.notes ≡ l.initial.notes ++ noted_points l.path.0 (rows_of (layout_view l.layout)) 0 (take l.index (points l.arena.nodes l.root.0)))
