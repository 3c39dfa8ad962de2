-- The trace of a program, as a debugger is given it (this project).
use Rattle.std.specs.Prelude.{ℕ, List}
use Rattle.text_pool.specs.Members.{Member}
use Rattle.trace_values.specs.declared.item.TraceItem.{TraceItem}
use Rattle.trace_arena.specs.Points.{Point}
use Rattle.plain_expansion.specs.Expansion.{expansion}
use Rattle.call_sites.specs.Calls.{open_code}
use Rattle.program_world.specs.World.{program_world, first_world}
use Rattle.macro_expand.specs.Language.{hlasm}

-- The points of a program: those of the plain expansion of its open code, with the whole budget, over the world of its text in
-- which nothing is put and counted yet, and these members are found.
unfoldable pub trace_of : (path : ℕ) (text parm : List ℕ) (members : List ℕ → Member) (budget : ℕ) → List (Point TraceItem)
trace_of path text parm members budget = (expansion hlasm program_world (open_code path text) (first_world text parm members) budget 0).points
