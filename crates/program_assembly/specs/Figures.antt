-- What an assembly of a program comes to in figures (this project).
use Rattle.std.specs.Prelude.{ℕ, List, length}
use Rattle.text_pool.specs.Members.{Member}
use Rattle.trace_arena.specs.Points.{Point}
use Rattle.trace_values.specs.declared.item.TraceItem.{TraceItem}
use Rattle.statement_checks.specs.Layout.{layout_of}
use Rattle.program_assembly.specs.Statements.{generated}
use Rattle.program_assembly.specs.Assembly.{open_code_run, assembly_notes, assembly_globals}
use Rattle.program_assembly.specs.declared.figures.Figures.{Figures}

-- how many symbols the statements define that some points generated
unfoldable pub symbol_count : List (Point TraceItem) → ℕ
symbol_count points = length (layout_of (generated points)).symbols

-- The figures of a program, with this SYSPARM and these members, where it may be given so many statements: of its plain expansion how
-- many points there are and how many symbols their statements define, how many notes are reported, and what the global SET symbols
-- hold behind the last point.
unfoldable pub figures_of : (path : ℕ) → (text parm : List ℕ) → (members : List ℕ → Member) → (budget : ℕ) → Figures
figures_of path text parm members budget =
    let points = (open_code_run path text parm members budget).points in
    record {
      summary = record {
        points = length points;
        symbols = symbol_count points;
        diagnostics = length (assembly_notes path text parm members budget);
      };
      globals = assembly_globals path text parm members budget;
    }
