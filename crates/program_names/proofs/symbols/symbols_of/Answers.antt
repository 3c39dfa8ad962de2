use Rattle.std.proofs.Common.{◌≡◌, List, ap, ◌∙◌}
use Rattle.hl_base.specs.declared.set.Line.{Line}
use Rattle.program_assembly.specs.Layout.{Layout, layout_of}
use Rattle.program_assembly.specs.Views.{layout_view, lines_of}
use Rattle.trace_arena.specs.Points.{points}
use Rattle.program_assembly.specs.Statements.{generated}
use Rattle.program_names.specs.Symbols.{rows_from, rows_of, sections_of}
use Rattle.program_names.proofs.symbols.symbols_of.Goals as goal

pub returns-clause-rows : goal.returns-clause-rows
unfolding rows_of
returns-clause-rows c =
    let here = points c.args.arena.now.nodes c.args.root.0 in
    let laid : layout_view c.in_ok-layout.layout ≡ layout_of (generated here) =
    c.in_ok-layout.ensures ∙ ap (λ (ls : List Line). layout_of ls) (ap lines_of c.deref.ensures.value ∙ c.in_ok-lines.ensures) in
    c.in_ok-rows.ensures ∙ ap (λ (l : Layout). rows_from l 0 0 here) laid

pub returns-clause-sections : goal.returns-clause-sections
unfolding sections_of
returns-clause-sections c =
    let here = points c.args.arena.now.nodes c.args.root.0 in
    let laid : layout_view c.in_ok-layout.layout ≡ layout_of (generated here) =
    c.in_ok-layout.ensures ∙ ap (λ (ls : List Line). layout_of ls) (ap lines_of c.deref.ensures.value ∙ c.in_ok-lines.ensures) in
    ap (λ (l : Layout). l.sections) laid
