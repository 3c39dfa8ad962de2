-- The run of a program's open code over an arena, and what an assembly says of it (this project).
use Rattle.std.specs.Prelude.{◌≡◌, ℕ, List, length, map}
use Rattle.hl_base.specs.declared.note.Note.{Note}
use Rattle.hl_base.specs.declared.place.Frame.{Frame}
use Rattle.kept_values.specs.Trees.{Tree}
use Rattle.trace_values.specs.declared.item.TraceItem.{TraceItem}
use Rattle.trace_arena.specs.Nodes.{Node}
use Rattle.trace_arena.specs.Points.{points}
use Rattle.trace_arena.specs.declared.node.NodeId.{NodeId}
use Rattle.asking_core.specs.Machines.{MachineModel}
use Rattle.expansion_memo.specs.declared.outcome.Outcome.{Outcome}
use Rattle.expansion_memo.specs.Entries.{ending_of}
use Rattle.expansion_memo.specs.Reuse.{ComesTo}
use Rattle.call_sites.specs.Calls.{open_code_tree}
use Rattle.text_pool.specs.Members.{Member}
use Rattle.program_world.specs.World.{ProgramState, program_world, first_world}
use Rattle.trace_variables.specs.Globals.{globals_after}
use Rattle.program_assembly.specs.Notes.{Ran, notes_of}
use Rattle.trace_paths.specs.Touched.{AreTouched}
use Rattle.program_assembly.specs.declared.assembly.Assembly.{Assembly}

-- what an outcome says of a run
abbrev pub ran_of : List (Node TraceItem) → Outcome (List Frame) → Ran
ran_of nodes outcome = record { points = points nodes outcome.node.0; ended = ending_of outcome.ended; unpaid = outcome.unpaid.items }

-- A report of a program, for a machine: its root has the points of the machine's plain run of the open code, with the whole
-- budget, over the world of this text in which nothing is put and counted yet and these members are found, and the notes are what
-- is reported of that run.
pub record IsReport (M : MachineModel) (rebased : Tree → Tree → ℕ → Tree) (call_of : Tree → M.Call) (item_of : TraceItem → M.Item)
    (frames_of : List Frame → M.Frames) (path : ℕ) (text parm : List ℕ) (members : List ℕ → Member) (budget : ℕ)
    (nodes : List (Node TraceItem)) (root : NodeId) (notes : List Note) : Type 0 where
  pub world : ProgramState
  pub outcome : Outcome (List Frame)
  pub comes : ComesTo M program_world rebased item_of frames_of budget 0 (call_of (open_code_tree path text)) (first_world text parm members) world
      nodes outcome
  pub root_is : root ≡ outcome.node
  pub notes_are : notes ≡ notes_of path text (ran_of nodes outcome)

-- An assembly of a program, for a machine: a report of it, and what the points of the root say besides.
pub record IsAssembly (M : MachineModel) (rebased : Tree → Tree → ℕ → Tree) (call_of : Tree → M.Call) (item_of : TraceItem → M.Item)
    (frames_of : List Frame → M.Frames) (path : ℕ) (text parm : List ℕ) (members : List ℕ → Member) (budget : ℕ)
    (nodes : List (Node TraceItem)) (a : Assembly) : Type 0 where
  pub reported : IsReport M rebased call_of item_of frames_of path text parm members budget nodes a.root a.notes
  pub points_are : a.points ≡ length (points nodes a.root.0)
  pub globals_are : a.globals ≡ globals_after (map (λ p. p.item) (points nodes a.root.0))
  pub touched_are : AreTouched (points nodes a.root.0) a.touched
