use Rattle.std.proofs.Common.{◌≡◌, ℕ, ◌+◌, ◌<◌, List, ◌++◌, [], Some, length, take, ap, sym, ◌∙◌, arith, append_assoc, length-append}
use Rattle.std.specs.Prelude.{slice_get}
use Rattle.std.specs.Option.{option_map, option_map_or}
use Rattle.hl_base.specs.declared.note.Note.{Note}
use Rattle.hl_base.specs.declared.set.Line.{Line}
use Rattle.note_rows.specs.declared.row.Row.{Row}
use Rattle.trace_arena.specs.Points.{points}
use Rattle.trace_cursor.specs.Stacks.{stack_of}
use Rattle.statement_checks.specs.Layout.{rows_of}
use Rattle.statement_checks.specs.Views.{layout_view}
use Rattle.program_assembly.specs.PointNotes.{point_notes}
use Rattle.program_assembly.specs.Statements.{line_in, own_line, generated, rows_at, noted_point, noted_points}
use Rattle.program_assembly.proofs.PointLaws.{own_item}
use Rattle.program_assembly.proofs.StatementLaws.{fewer_statements, line_there, said_there, noted_points-more}
use Rattle.trace_variables.proofs.ValueLemmas.{step_index}
use Rattle.trace_paths.proofs.ListLaws.{flat_map-more}
use Rattle.program_assembly.proofs.point_notes.add_point_notes.Goals as goal

pub overflow_add-statements : goal.overflow_add-statements
overflow_add-statements c =
    let few = fewer_statements (points c.args.arena.now.nodes c.args.root.0) c.loop-index.index in
    omega (arith, few, c.loop-index.invariant.3, c.count_of-statements.ensures.few, c.loop-index-test.true)

pub loop-index-preserved : goal.loop-index-preserved
loop-index-preserved c =
    let nodes = c.args.arena.now.nodes in
    let path = c.args.path.0 in
    let here = points nodes c.args.root.0 in
    let i = c.loop-index.index in
    let said = rows_of (layout_view c.args.layout.now) in
    let statements = c.loop-index.statements in
    let before = generated (take i here) in
    let held = c.loop-index.invariant in
    let item = c.item-item.result.now in
    let inside : i < length here = omega (arith, c.loop-index-test.true) in
    let at : c.loop-index.cursor.index ≡ i = held.2 inside in
    let there : option_map own_item (slice_get here i) ≡ Some item =
    ap (λ (n : ℕ). option_map own_item (slice_get here n)) (sym at)
    ∙ ap (λ r. option_map own_item (slice_get (points nodes r.0) c.loop-index.cursor.index)) (sym held.1)
    ∙ c.item-item.ensures in
    let more : generated (take (i + 1) here) ≡ before ++ line_in item.line =
    flat_map-more own_line here i ∙ ap (λ (ls : List Line). before ++ ls) (line_there (slice_get here i) item there) in
    let counted : length (generated (take (i + 1) here)) ≡ length before + length (line_in item.line) =
    ap (λ (ls : List Line). length ls) more ∙ length-append before (line_in item.line) in
    let none : length before ≡ 0 + length before = omega arith in
    let noted : option_map_or (λ point. point_notes path point ++ rows_at (stack_of point) c.said_of-said.result.now) (slice_get here i) []
    ≡ option_map_or (noted_point path said (0 + length before)) (slice_get here i) [] =
    ap (λ (rs : List Row). option_map_or (λ point. point_notes path point ++ rows_at (stack_of point) rs) (slice_get here i) []) c.said_of-said.ensures
    ∙ said_there path said statements (slice_get here i) item there
    ∙ ap (λ (n : ℕ). option_map_or (noted_point path said n) (slice_get here i) []) (held.3 ∙ none) in (
      c.advance.ensures.stands,
      c.advance.ensures.root ∙ held.1,
      (λ lt.
          step_index c.advance.result c.advance.new.self.index c.loop-index.cursor.index i (length here) (length (points nodes c.loop-index.cursor.root.0))
          c.advance.ensures.next c.advance.ensures.last (ap (λ r. length (points nodes r.0)) held.1) at lt),
      omega (arith, counted, held.3, c.count_of-statements.ensures.count),
      c.in_ok-add_notes_of.ensures
          ∙ ap (λ (ns : List Note). ns ++ option_map_or (λ point. point_notes path point ++ rows_at (stack_of point) c.said_of-said.result.now) (slice_get here i) []) held.4
          ∙ append_assoc c.args.notes.now (noted_points path said 0 (take i here))
          (option_map_or (λ point. point_notes path point ++ rows_at (stack_of point) c.said_of-said.result.now) (slice_get here i) [])
          ∙ ap (λ (ns : List Note). c.args.notes.now ++ ns)
          (ap (λ (ns : List Note). noted_points path said 0 (take i here) ++ ns) noted
          ∙ sym (noted_points-more path said 0 here i)),
    )
