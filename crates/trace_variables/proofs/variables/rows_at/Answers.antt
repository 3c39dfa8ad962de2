use Rattle.std.proofs.Common.{◌≡◌, ◌≤◌, ℕ, true, false, [], ◌++◌, refl, map, take, length, Some, sym, ap, subst, ◌∙◌}
use Rattle.std.specs.Prelude.{slice_get}
use Rattle.std.specs.List.{filter, flat_map}
use Rattle.std.specs.Option.{option_map, MatchOption}
use Rattle.trace_values.specs.declared.item.TraceItem.{TraceItem}
use Rattle.trace_arena.specs.declared.node.NodeId.{NodeId}
use Rattle.trace_arena.specs.Points.{Point, points}
use Rattle.trace_cursor.specs.Places.{StandsAt}
use Rattle.trace_variables.specs.Values.{local_values}
use Rattle.trace_variables.specs.Calls.{done_before}
use Rattle.trace_variables.specs.Variables.{rows_at}
use Rattle.trace_variables.specs.Shown.{shown}
use Rattle.trace_variables.specs.Seen.{seen, seen_symbols, all_noted, is_among}
use Rattle.trace_variables.proofs.RowLemmas.{rows_are, through_item}
use Rattle.trace_variables.proofs.variables.rows_at.Goals as goal

pub returns : goal.returns
returns c =
    let nodes = c.args.arena.now.nodes in
    let ps = points nodes c.args.root.0 in
    let before = take c.args.index ps in
    let own = c.item.result.now in
    let stands =
    subst (λ o. MatchOption o (length ps ≤ c.args.index)
    (λ k. StandsAt nodes k × (k.root ≡ c.args.root) × (k.index ≡ c.args.index))) c.unwrap-cursor.ensures c.at.ensures in
    let here : option_map (λ (p : Point TraceItem). p.item) (slice_get ps c.args.index) ≡ Some own =
    ap (λ (n : NodeId). option_map (λ (p : Point TraceItem). p.item) (slice_get (points nodes n.0) c.args.index)) (sym stands.1)
    ∙ ap (λ (k : ℕ). option_map (λ (p : Point TraceItem). p.item) (slice_get (points nodes c.unwrap-cursor.result.root.0) k)) (sym stands.2)
    ∙ c.item.ensures in
    let slice : map (λ i. i.now) c.as_slice.result.now ≡ done_before c.args.level before =
    ap (map (λ i. i.now)) c.as_slice.ensures.value ∙ c.in_ok-done.ensures in
    let slice_again : map (λ i. i.now) c.as_slice-2.result.now ≡ done_before c.args.level before =
    ap (map (λ i. i.now)) c.as_slice-2.ensures.value ∙ c.in_ok-done.ensures in
    let rows : c.show_globals.new.rows ≡ rows_at before c.args.level own =
    c.in_ok-show_globals.ensures
    ∙ ap (λ vs. vs ++ map (shown true) (filter (is_among (seen_symbols c.in_ok-symbols.symbols)) (seen c.in_ok-globals.globals)))
    (c.in_ok-show_locals.ensures ∙ ap (λ vs. vs ++ map (shown false) (seen c.in_ok-locals.locals)) c.new-rows.ensures)
    ∙ rows_are before c.args.level own (done_before c.args.level before) (seen_symbols c.in_ok-symbols.symbols) (seen c.in_ok-locals.locals)
    (seen c.in_ok-globals.globals) refl
    (c.in_ok-locals.ensures ∙ ap (λ is. local_values is own) slice)
    (c.in_ok-symbols.ensures ∙ ap (λ is. all_noted [] (flat_map (λ item. item.declared) is)) slice_again)
    c.in_ok-globals.ensures in
    through_item (rows_at before c.args.level) (slice_get ps c.args.index) own here ∙ ap Some (sym rows)
