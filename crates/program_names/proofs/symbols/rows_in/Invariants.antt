use Rattle.std.proofs.Common.{◌≡◌, ◌<◌, take, length}
use Rattle.trace_arena.specs.Points.{points}
use Rattle.trace_cursor.specs.Places.{StandsAt}
use Rattle.program_assembly.specs.Views.{layout_view}
use Rattle.program_assembly.specs.Statements.{generated}
use Rattle.program_names.specs.Symbols.{rows_from}
use Rattle.program_names.proofs.SymbolLaws.{behind_all}
use Rattle.program_names.proofs.symbols.rows_in.Given as goal

-- the cursor stands at the point of the number, the statements and symbols of those before it are counted, and their symbols are added
abbrev pub invariant-loop-index : goal.invariant-loop-index
invariant-loop-index l =
    StandsAt l.arena.nodes l.cursor
    × (l.cursor.root ≡ l.root)
    × (l.index < length (points l.arena.nodes l.root.0) → l.cursor.index ≡ l.index)
    × (l.statements ≡ length (generated (take l.index (points l.arena.nodes l.root.0))))
    × (l.before ≡ behind_all (layout_view l.layout) 0 0 (take l.index (points l.arena.nodes l.root.0)))
    × (l.rows ≡ rows_from (layout_view l.layout) 0 0 (take l.index (points l.arena.nodes l.root.0)))
