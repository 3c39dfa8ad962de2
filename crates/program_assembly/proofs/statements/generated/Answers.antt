use Rattle.std.proofs.Common.{◌≡◌, ℕ, ◌<◌, List, [], length, take, ap, sym, ◌∙◌, ◌++◌, arith}
use Rattle.std.specs.Prelude.{slice_get}
use Rattle.std.specs.List.{flat_map}
use Rattle.std.specs.Option.{option_map, option_map_or}
use Rattle.hl_base.specs.declared.set.Line.{Line}
use Rattle.trace_values.specs.declared.item.TraceItem.{TraceItem}
use Rattle.trace_arena.specs.Points.{Point, points}
use Rattle.trace_variables.proofs.ValueLemmas.{step_index}
use Rattle.trace_paths.proofs.ListLaws.{flat_map-more}
use Rattle.trace_paths.proofs.TouchedLaws.{own_item, no_points}
use Rattle.program_assembly.specs.Statements.{generated, line_in, own_line}
use Rattle.statement_checks.specs.Views.{lines_of}
use Rattle.program_assembly.proofs.StatementLaws.{line_there}
use Rattle.program_assembly.proofs.statements.generated.Goals as goal

pub returns-in_default : goal.returns-in_default
returns-in_default c =
    let here = points c.args.arena.now.nodes c.args.root.0 in
    ap lines_of c.new-lines.ensures.items
    ∙ sym (ap (λ (ps : List (Point TraceItem)). generated ps) (no_points here c.at.result _ c.in_default.is c.at.ensures))

pub loop-preserved : goal.loop-preserved
loop-preserved c =
    let nodes = c.args.arena.now.nodes in
    let here = points nodes c.args.root.0 in
    let i = c.loop.counter in
    let held = c.loop.invariant in
    let item = c.item.result.now in
    let inside : i < length here = omega (arith, c.loop-test.true) in
    let at : c.loop.cursor.index ≡ i = held.2 inside in
    let there : option_map_or own_line (slice_get here i) [] ≡ line_in item.line =
    line_there (slice_get here i) item
    (ap (λ (n : ℕ). option_map own_item (slice_get here n)) (sym at)
    ∙ ap (λ r. option_map own_item (slice_get (points nodes r.0) c.loop.cursor.index)) (sym held.1)
    ∙ c.item.ensures) in (
      c.advance.ensures.stands,
      c.advance.ensures.root ∙ held.1,
      (λ lt.
          step_index c.advance.result c.advance.new.self.index c.loop.cursor.index i (length here) (length (points nodes c.loop.cursor.root.0))
          c.advance.ensures.next c.advance.ensures.last (ap (λ r. length (points nodes r.0)) held.1) at lt),
      c.in_ok-add_line.ensures
          ∙ ap (λ (ls : List Line). ls ++ line_in item.line) held.3
          ∙ ap (λ (ls : List Line). flat_map own_line (take i here) ++ ls) (sym there)
          ∙ sym (flat_map-more own_line here i),
    )
