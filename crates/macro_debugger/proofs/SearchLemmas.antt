-- The search for a stop, one point after another.
use Rattle.std.proofs.Common.{◌≡◌, ℕ, zero, suc, ◌+◌, Option, Some, None, List, [], ◌∷◌, drop, sym, ap, ◌∙◌, add-one}
use Rattle.std.specs.Prelude.{slice_get, unwrap_or}
use Rattle.std.proofs.lemmas.Option.{none-some}
use Rattle.trace_values.specs.declared.item.TraceItem.{TraceItem}
use Rattle.trace_arena.specs.Points.{Point}
use Rattle.macro_debugger.specs.declared.stop.Reason.{Reason}
use Rattle.macro_debugger.specs.Stops.{stop_or, first_stop}

module _ (reason : Point TraceItem → Option Reason) (trace : List (Point TraceItem)) (point : Point TraceItem) where
  -- the search from a point on looks at that point, and then at those behind it
  search_on : (ps : List (Point TraceItem)) (n k : ℕ) → slice_get ps k ≡ Some point →
      first_stop reason n (drop k ps) ≡ stop_or n (reason point) (first_stop reason (n + 1) (drop (suc k) ps))
  search_on [] n k e = absurd (none-some point e)
  search_on (p ∷ ps) n zero e = ap (λ o. stop_or n (reason (unwrap_or o point)) (first_stop reason (n + 1) ps)) e
  search_on (p ∷ ps) n (suc k) e = search_on ps n k e

  pub stops_here : (k : ℕ) (why : Reason) → slice_get trace k ≡ Some point → Some why ≡ reason point →
      Some (record { index = k; reason = why }) ≡ first_stop reason k (drop k trace)
  stops_here k why e is =
      ap (λ o. stop_or k o (first_stop reason (k + 1) (drop (suc k) trace))) is ∙ sym (search_on trace k k e)

  pub goes_on : (k : ℕ) → slice_get trace k ≡ Some point → None ≡ reason point →
      first_stop reason k (drop k trace) ≡ first_stop reason (k + 1) (drop (k + 1) trace)
  goes_on k e is =
      search_on trace k k e
      ∙ ap (λ o. stop_or k o (first_stop reason (k + 1) (drop (suc k) trace))) (sym is)
      ∙ ap (λ n. first_stop reason (k + 1) (drop n trace)) (sym (add-one k))
