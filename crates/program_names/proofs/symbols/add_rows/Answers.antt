use Rattle.std.proofs.Common.{◌≡◌, ◌++◌, List, [], ◌∷◌, Some, ap, sym, ◌∙◌, arith, append_assoc}
use Rattle.std.specs.Prelude.{slice_get}
use Rattle.std.specs.Option.{option_copied, option_map}
use Rattle.ordinary_symbols.specs.Shown.{table_of}
use Rattle.ordinary_symbols.specs.Table.{row_of}
use Rattle.trace_values.specs.declared.symbol_row.SymbolRow.{SymbolRow}
use Rattle.program_names.specs.Symbols.{rows_between}
use Rattle.program_names.proofs.SymbolLaws.{rows_between-more}
use Rattle.program_names.proofs.symbols.add_rows.Goals as goal

pub loop-at-preserved : goal.loop-at-preserved
loop-at-preserved c =
    let table = table_of c.args.symbols.now in
    let stack = c.args.stack.now in
    let before = c.args.before in
    let at = c.loop-at.at in
    let held = c.loop-at.invariant in
    let so_far = rows_between table stack before at in
    let there : option_map row_of (slice_get table at) ≡ Some c.in-Some.row.now = sym c.row.ensures ∙ ap option_copied c.in-Some.is in (
      omega (arith, held.0),
      omega (arith, held.0, held.1, c.loop-at-test.true),
      c.in_ok-push.ensures.ok
          ∙ ap (λ (rs : List SymbolRow). rs ++ c.in_ok-row.row ∷ []) held.2
          ∙ ap (λ (r : SymbolRow). (c.args.rows.now ++ so_far) ++ r ∷ []) c.in_ok-row.ensures
          ∙ append_assoc c.args.rows.now so_far (record c.in-Some.row.now { stack = stack } ∷ [])
          ∙ ap (λ (rs : List SymbolRow). c.args.rows.now ++ rs) (sym (rows_between-more table stack before at c.in-Some.row.now held.0 there)),
    )
