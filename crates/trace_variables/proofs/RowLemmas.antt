-- What is shown of a point.
use Rattle.std.proofs.Common.{◌≡◌, true, false, List, [], ◌++◌, map, Option, Some, None, ap, ◌∙◌}
use Rattle.std.specs.Prelude.{unwrap_or}
use Rattle.std.specs.List.{flat_map, filter}
use Rattle.std.specs.Option.{option_map}
use Rattle.std.proofs.lemmas.Option.{none-some}
use Rattle.trace_values.specs.declared.item.TraceItem.{TraceItem}
use Rattle.trace_arena.specs.Points.{Point}
use Rattle.trace_variables.specs.Values.{VariableKey, Values, local_values, global_values}
use Rattle.trace_variables.specs.Calls.{done_before}
use Rattle.trace_variables.specs.Shown.{shown}
use Rattle.trace_variables.specs.Variables.{rows_at, is_known}
use Rattle.trace_variables.specs.Seen.{all_noted, is_among}
use Rattle.trace_variables.proofs.KnownLemmas.{known_is}

pub rows_are : (before : List (Point TraceItem)) (level : _) (own : TraceItem) (done : List TraceItem) (symbols : List VariableKey)
    (locals globals : Values) → done ≡ done_before level before → locals ≡ local_values done own →
    symbols ≡ all_noted [] (flat_map (λ item. item.declared) done) → globals ≡ global_values (map (λ p. p.item) before) →
    map (shown false) locals ++ map (shown true) (filter (is_among symbols) globals) ≡ rows_at before level own
rows_are before level own done symbols locals globals is_done is_locals is_symbols is_globals =
    ap (λ vs. map (shown false) vs ++ map (shown true) (filter (is_among symbols) globals)) is_locals
    ∙ ap (λ test. map (shown false) (local_values done own) ++ map (shown true) (filter test globals)) (known_is symbols done is_symbols)
    ∙ ap (λ vs. map (shown false) (local_values done own) ++ map (shown true) (filter (is_known done) vs)) is_globals
    ∙ ap (λ is. map (shown false) (local_values is own) ++ map (shown true) (filter (is_known is) (global_values (map (λ p. p.item) before)))) is_done

pub through_item : {Y : Type 0} (f : TraceItem → Y) (o : Option (Point TraceItem)) (own : TraceItem) →
    option_map (λ (p : Point TraceItem). p.item) o ≡ Some own → option_map (λ (p : Point TraceItem). f p.item) o ≡ Some (f own)
through_item f None own e = absurd (none-some own e)
through_item f (Some p) own e = ap (λ i. Some (f (unwrap_or i own))) e
