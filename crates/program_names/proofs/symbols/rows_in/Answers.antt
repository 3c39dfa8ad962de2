use Rattle.std.proofs.Common.{◌≡◌, ℕ, ◌+◌, ◌<◌, List, ◌++◌, [], Some, length, take, ap, sym, ◌∙◌, arith, length-append}
use Rattle.std.specs.Prelude.{slice_get}
use Rattle.std.specs.Option.{option_map, option_map_or}
use Rattle.hl_base.specs.declared.set.Line.{Line}
use Rattle.trace_values.specs.declared.symbol_row.SymbolRow.{SymbolRow}
use Rattle.trace_arena.specs.Points.{points}
use Rattle.trace_cursor.specs.Stacks.{stack_of}
use Rattle.program_assembly.specs.Views.{layout_view}
use Rattle.program_assembly.specs.Statements.{line_in, own_line, generated}
use Rattle.program_assembly.proofs.PointLaws.{own_item}
use Rattle.program_assembly.proofs.StatementLaws.{fewer_statements, line_there}
use Rattle.trace_variables.proofs.ValueLemmas.{step_index}
use Rattle.trace_paths.proofs.ListLaws.{flat_map-more}
use Rattle.program_names.specs.Symbols.{rows_between, rows_from, behind_point}
use Rattle.program_names.proofs.SymbolLaws.{rows_there, rows_from-next, behind_all-next, behind_there, rows_told}
use Rattle.program_names.proofs.symbols.rows_in.Goals as goal

pub overflow_add-statements : goal.overflow_add-statements
overflow_add-statements c =
    let few = fewer_statements (points c.args.arena.now.nodes c.args.root.0) c.loop-index.index in
    omega (arith, few, c.loop-index.invariant.3, c.count_of-statements.ensures.few, c.loop-index-test.true)

pub loop-index-preserved : goal.loop-index-preserved
loop-index-preserved c =
    let nodes = c.args.arena.now.nodes in
    let layout = layout_view c.args.layout.now in
    let here = points nodes c.args.root.0 in
    let i = c.loop-index.index in
    let held = c.loop-index.invariant in
    let item = c.item-item.result.now in
    let inside : i < length here = omega (arith, c.loop-index-test.true) in
    let at : c.loop-index.cursor.index ≡ i = held.2 inside in
    let there : option_map own_item (slice_get here i) ≡ Some item =
    ap (λ (n : ℕ). option_map own_item (slice_get here n)) (sym at)
    ∙ ap (λ r. option_map own_item (slice_get (points nodes r.0) c.loop-index.cursor.index)) (sym held.1)
    ∙ c.item-item.ensures in
    let before = generated (take i here) in
    let more : generated (take (i + 1) here) ≡ before ++ line_in item.line =
    flat_map-more own_line here i ∙ ap (λ (ls : List Line). before ++ ls) (line_there (slice_get here i) item there) in
    let counted : length (generated (take (i + 1) here)) ≡ length before + length (line_in item.line) =
    ap (λ (ls : List Line). length ls) more ∙ length-append before (line_in item.line) in (
      c.advance.ensures.stands,
      c.advance.ensures.root ∙ held.1,
      (λ lt.
          step_index c.advance.result c.advance.new.self.index c.loop-index.cursor.index i (length here) (length (points nodes c.loop-index.cursor.root.0))
          c.advance.ensures.next c.advance.ensures.last (ap (λ r. length (points nodes r.0)) held.1) at lt),
      omega (arith, counted, held.3, c.count_of-statements.ensures.count),
      c.symbols_behind-behind.ensures ∙ behind_there layout c.loop-index.statements c.loop-index.before (slice_get here i) item there
          ∙ ap (λ (n : ℕ). option_map_or (behind_point layout n c.loop-index.before) (slice_get here i) c.loop-index.before) held.3
          ∙ ap (λ (b : ℕ). option_map_or (behind_point layout (length before) b) (slice_get here i) b) held.4
          ∙ sym (behind_all-next layout here i),
      c.in_ok-add_rows_of.ensures
          ∙ ap (λ (rs : List SymbolRow). rs ++ option_map_or (λ point. rows_between layout.symbols (stack_of point) c.loop-index.before c.symbols_behind-behind.result) (slice_get here i) []) held.5
          ∙ ap (λ (rs : List SymbolRow). rows_from layout 0 0 (take i here) ++ rs)
          (rows_told layout c.loop-index.statements c.loop-index.before c.symbols_behind-behind.result (slice_get here i) item there c.symbols_behind-behind.ensures
          ∙ ap (λ (n : ℕ). option_map_or (rows_there layout n c.loop-index.before) (slice_get here i) []) held.3
          ∙ ap (λ (b : ℕ). option_map_or (rows_there layout (length before) b) (slice_get here i) []) held.4)
          ∙ sym (rows_from-next layout here i),
    )
