-- What a plain assembly comes to in figures (this project).
use Rattle.std.proofs.Common.{◌≡◌, ℕ, List, length, ap}
use Rattle.hl_base.specs.declared.note.Note.{Note}
use Rattle.text_pool.specs.Members.{Member}
use Rattle.trace_arena.specs.Nodes.{Node}
use Rattle.trace_arena.specs.Points.{Point, points}
use Rattle.trace_values.specs.declared.item.TraceItem.{TraceItem}
use Rattle.trace_values.specs.declared.variable.Setting.{Setting}
use Rattle.program_assembly.specs.Assembly.{IsPlain}
use Rattle.program_assembly.specs.declared.assembly.Assembly.{Assembly}
use Rattle.program_assembly.specs.declared.figures.Figures.{Figures}
use Rattle.program_assembly.specs.Figures.{figures_of, symbol_count}

-- figures by their parts
abbrev pub figures_by : (points symbols diagnostics : ℕ) → List Setting → Figures
figures_by points symbols diagnostics globals =
    record { summary = record { points = points; symbols = symbols; diagnostics = diagnostics }; globals = globals }

same_figures : (p q s t d e : ℕ) (g h : List Setting) → p ≡ q → s ≡ t → d ≡ e → g ≡ h → figures_by p s d g ≡ figures_by q t e h
same_figures p q s t d e g h points symbols diagnostics globals =
    λ i. record { summary = record { points = points i; symbols = symbols i; diagnostics = diagnostics i }; globals = globals i }

-- the figures of an assembly that says of a program what its plain expansion says
pub figures_are : (path : ℕ) (text parm : List ℕ) (members : List ℕ → Member) (budget : ℕ) (nodes : List (Node TraceItem)) (a : Assembly)
    → IsPlain path text parm members budget nodes a
    → figures_by a.points (symbol_count (points nodes a.root.0)) (length a.notes) a.globals ≡ figures_of path text parm members budget
unfolding figures_of
figures_are path text parm members budget nodes a is =
    same_figures _ _ _ _ _ _ _ _
    is.count_is
    (ap (λ (ps : List (Point TraceItem)). symbol_count ps) is.points_are)
    (ap (λ (ns : List Note). length ns) is.notes_are)
    is.globals_are
