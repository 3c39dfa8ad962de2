use Rattle.std.proofs.Common.{◌≡◌, List, length, ap, ◌∙◌}
use Rattle.hl_base.specs.declared.set.Line.{Line}
use Rattle.statement_checks.specs.Layout.{Layout, layout_of}
use Rattle.statement_checks.specs.Views.{layout_view, lines_of}
use Rattle.trace_arena.specs.Points.{points}
use Rattle.program_assembly.specs.Statements.{generated}
use Rattle.program_assembly.specs.Figures.{symbol_count}
use Rattle.program_assembly.proofs.assembled_figures.symbol_count.Goals as goal

pub returns : goal.returns
unfolding symbol_count
returns c =
    let here = points c.args.arena.now.nodes c.args.root.0 in
    let laid : layout_view c.in_ok-layout.layout ≡ layout_of (generated here) =
    c.in_ok-layout.ensures ∙ ap (λ (ls : List Line). layout_of ls) (ap lines_of c.deref.ensures.value ∙ c.in_ok-lines.ensures) in
    c.count.ensures ∙ ap (λ (l : Layout). length l.symbols) laid
