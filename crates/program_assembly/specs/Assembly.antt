-- The assembly of a program, as a function of its path, its text, SYSPARM, the members and the budget (this project).
use Rattle.std.specs.Prelude.{◌≡◌, ℕ, List, length, map}
use Rattle.hl_base.specs.declared.note.Note.{Note}
use Rattle.trace_values.specs.declared.item.TraceItem.{TraceItem}
use Rattle.trace_values.specs.declared.variable.Setting.{Setting}
use Rattle.trace_arena.specs.Nodes.{Node}
use Rattle.trace_arena.specs.Points.{points}
use Rattle.trace_variables.specs.Globals.{globals_after}
use Rattle.asking_core.specs.Machines.{MachineModel}
use Rattle.plain_expansion.specs.Expansion.{expansion}
use Rattle.plain_expansion.specs.Laws.{careful_expander}
use Rattle.expansion_step.specs.Watch.{most_actions}
use Rattle.call_sites.specs.Calls.{call_of, open_code}
use Rattle.call_sites.specs.Rules.{is_moving, is_writable, rebased}
use Rattle.text_pool.specs.Members.{Member}
use Rattle.program_world.specs.World.{program_world, first_world}
use Rattle.macro_expand.specs.Language.{hlasm}
use Rattle.program_assembly.specs.Notes.{Ran, notes_of}
use Rattle.trace_paths.specs.Touched.{AreTouched}
use Rattle.program_assembly.specs.Runs.{IsAssembly}
use Rattle.program_assembly.specs.declared.assembly.Assembly.{Assembly}

-- The run of a program's open code: its plain expansion, with the whole budget, over the world of its text in which nothing is
-- put and counted yet, and these members are found.
abbrev pub open_code_run : (path : ℕ) (text parm : List ℕ) (members : List ℕ → Member) (budget : ℕ) → Ran
open_code_run path text parm members budget =
    let e = expansion hlasm program_world (open_code path text) (first_world text parm members) budget 0 in
    record { points = e.points; ended = e.ended; unpaid = e.unpaid }

-- what is reported of a program
unfoldable pub assembly_notes : (path : ℕ) (text parm : List ℕ) (members : List ℕ → Member) (budget : ℕ) → List Note
assembly_notes path text parm members budget = notes_of path text (open_code_run path text parm members budget)

-- what a program leaves of the global SET symbols
abbrev pub assembly_globals : (path : ℕ) (text parm : List ℕ) (members : List ℕ → Member) (budget : ℕ) → List Setting
assembly_globals path text parm members budget = globals_after (map (λ p. p.item) (open_code_run path text parm members budget).points)

-- An assembly says of a program what its plain expansion says.
pub record IsPlain (path : ℕ) (text parm : List ℕ) (members : List ℕ → Member) (budget : ℕ) (nodes : List (Node TraceItem))
    (a : Assembly) : Type 0 where
  pub points_are : points nodes a.root.0 ≡ (open_code_run path text parm members budget).points
  pub count_is : a.points ≡ length (open_code_run path text parm members budget).points
  pub notes_are : a.notes ≡ assembly_notes path text parm members budget
  pub globals_are : a.globals ≡ assembly_globals path text parm members budget
  pub touched_are : AreTouched (open_code_run path text parm members budget).points a.touched

-- the machine that expands open code
abbrev pub open_code_machine : MachineModel
open_code_machine = careful_expander hlasm most_actions is_moving is_writable

-- each assembly by that machine is such a one
abbrev pub AssembliesArePlain : Type 0
AssembliesArePlain = (path : ℕ) (text parm : List ℕ) (members : List ℕ → Member) (budget : ℕ) (nodes : List (Node TraceItem))
    (a : Assembly) →
    IsAssembly open_code_machine rebased call_of (λ item. item) (λ frames. frames) path text parm members budget nodes a →
    IsPlain path text parm members budget nodes a
