-- The stop that the search finds is the least.
use Rattle.std.proofs.Common.{◌≡◌, ◌⊎◌, inl, inr, ◌↔◌, ℕ, zero, suc, ◌+◌, ◌-◌, ◌<◌, ◌≤◌, Bool, true, false, if◌then◌else◌, Option, Some, None, List, [], ◌∷◌, drop, refl, sym, ap, subst, ◌∙◌, arith}
use Rattle.std.specs.Prelude.{slice_get, unwrap_or, IsTrue}
use Rattle.std.specs.Option.{MatchOption}
use Rattle.std.proofs.lemmas.Bool.{false≢true}
use Rattle.std.proofs.lemmas.Option.{none-some, same_Some}
use Rattle.trace_values.specs.declared.item.TraceItem.{TraceItem}
use Rattle.trace_arena.specs.Points.{Point}
use Rattle.macro_debugger.specs.declared.stop.StepRule.{StepRule}
use Rattle.macro_debugger.specs.declared.stop.Reason.{Reason}
use Rattle.macro_debugger.specs.declared.stop.Reason.TheVariants.{Breakpoint, Step}
use Rattle.macro_debugger.specs.declared.stop.Stop.{Stop}
use Rattle.macro_debugger.specs.Stops.{depth, holds, breaks_at, reason_at, depth_at, first_later, stop_or, first_stop}
use Rattle.macro_debugger.specs.Walks.{Walk, next_stop}
use Rattle.macro_debugger.specs.Laws.{IsLater, EndsAt, IsLeastStop, StopsAreTheLeast}

-- what a reason says of the two tests
abbrev pick : Bool → Bool → Option Reason
pick set held = if set then Some Breakpoint else (if held then Some Step else None)

picks_none : (set held : Bool) → pick set held ≡ None → IsTrue set ⊎ IsTrue held → ⊥
picks_none true held e ends = none-some Breakpoint (sym e)
picks_none false true e ends = none-some Step (sym e)
picks_none false false e (inl set) = false≢true set
picks_none false false e (inr held) = false≢true held

step_apart : Step ≡ Breakpoint → ⊥
step_apart e = cc

picks_some : (set held : Bool) (why : Reason) → pick set held ≡ Some why →
    (IsTrue set ⊎ IsTrue held) × ((why ≡ Breakpoint) ↔ IsTrue set)
picks_some true held why e = (inl refl, ((λ is. refl), (λ is. sym (same_Some Breakpoint why e))))
picks_some false true why e =
    (inr refl, ((λ is. absurd (step_apart (same_Some Step why e ∙ is))), (λ is. absurd (false≢true is))))
picks_some false false why e = absurd (none-some why e)

module _ (reason : Point TraceItem → Option Reason) where
  -- there is no reason at any of these points
  abbrev NoneOf : List (Point TraceItem) → Type 0
  NoneOf ps = (k : ℕ) (p : Point TraceItem) → slice_get ps k ≡ Some p → reason p ≡ None

  -- the stop is at one of these points, of which the first has this number, and there is no reason at those before it
  record IsFirst (n : ℕ) (ps : List (Point TraceItem)) (stop : Stop) : Type 0 where
    k : ℕ
    point : Point TraceItem
    index : stop.index ≡ n + k
    found : slice_get ps k ≡ Some point
    why : reason point ≡ Some stop.reason
    before : (j : ℕ) (p : Point TraceItem) → j < k → slice_get ps j ≡ Some p → reason p ≡ None

  one : (p q : Point TraceItem) → Some p ≡ Some q → reason p ≡ None → reason q ≡ None
  one p q e none = ap (λ o. reason (unwrap_or o p)) (sym e) ∙ none

  later : (n : ℕ) (p : Point TraceItem) (ps : List (Point TraceItem)) (o : Option Stop) → reason p ≡ None →
      MatchOption o (NoneOf ps) (IsFirst (n + 1) ps) → MatchOption o (NoneOf (p ∷ ps)) (IsFirst n (p ∷ ps))
  later n p ps None here none = none_more
    where
      none_more : NoneOf (p ∷ ps)
      none_more zero q e = one p q e here
      none_more (suc k) q e = none k q e
  later n p ps (Some stop) here first = record {
    k = suc first.k;
    point = first.point;
    index = omega (arith, first.index);
    found = first.found;
    why = first.why;
    before = before_more;
  }
    where
      before_more : (j : ℕ) (q : Point TraceItem) → j < suc first.k → slice_get (p ∷ ps) j ≡ Some q → reason q ≡ None
      before_more zero q lt e = one p q e here
      before_more (suc j) q lt e = first.before j q (omega arith) e

  at_first : (n : ℕ) (p : Point TraceItem) (ps : List (Point TraceItem)) (o : Option Reason) → reason p ≡ o →
      MatchOption (first_stop reason (n + 1) ps) (NoneOf ps) (IsFirst (n + 1) ps) →
      MatchOption (stop_or n o (first_stop reason (n + 1) ps)) (NoneOf (p ∷ ps)) (IsFirst n (p ∷ ps))
  at_first n p ps None here rest = later n p ps (first_stop reason (n + 1) ps) here rest
  at_first n p ps (Some why) here rest = record {
    k = 0;
    point = p;
    index = omega arith;
    found = refl;
    why = here;
    before = λ j q lt e. absurd (omega arith);
  }

  searched : (n : ℕ) (ps : List (Point TraceItem)) → MatchOption (first_stop reason n ps) (NoneOf ps) (IsFirst n ps)
  searched n [] = none_there
    where
      none_there : NoneOf []
      none_there k p e = absurd (none-some p e)
  searched n (p ∷ ps) = at_first n p ps (reason p) refl (searched (n + 1) ps)

get_drop : {X : Type 0} (n : ℕ) (xs : List X) (k : ℕ) → slice_get (drop n xs) k ≡ slice_get xs (n + k)
get_drop zero xs k =
    let e : k ≡ 0 + k = omega arith in
    ap (slice_get xs) e
get_drop (suc n) [] k = refl
get_drop (suc n) (x ∷ xs) k =
    let e : suc (n + k) ≡ suc n + k = omega arith in
    get_drop n xs k ∙ ap (slice_get (x ∷ xs)) e

later_from : (place : Option ℕ) (k : ℕ) → IsLater place (first_later place + k)
later_from None k = tt
later_from (Some i) k = omega arith

from_later : (place : Option ℕ) (index : ℕ) → IsLater place index → first_later place ≤ index
from_later None index late = omega arith
from_later (Some i) index late = omega (arith, late)

module _ (walk : Walk) (trace : List (Point TraceItem)) (rule : StepRule) where
  abbrev seen_from : ℕ
  seen_from = depth_at trace walk.place

  abbrev why_at : Point TraceItem → Option Reason
  why_at = reason_at walk.breakpoints rule seen_from

  abbrev behind : List (Point TraceItem)
  behind = drop (first_later walk.place) trace

  -- a point that ends the step is one of those behind the place
  ends_behind : (index : ℕ) (e : EndsAt walk trace rule index) →
      slice_get behind (index - first_later walk.place) ≡ Some e.point
  ends_behind index e =
      let le = from_later walk.place index e.later in
      let same : first_later walk.place + (index - first_later walk.place) ≡ index = omega (arith, le) in
      get_drop (first_later walk.place) trace (index - first_later walk.place) ∙ ap (slice_get trace) same ∙ e.found

  no_end : (index : ℕ) (e : EndsAt walk trace rule index) → why_at e.point ≡ None → ⊥
  no_end index e none =
      picks_none (breaks_at walk.breakpoints e.point) (holds rule seen_from (depth e.point)) none e.ends

  least_by : (o : Option Stop) → MatchOption o (NoneOf why_at behind) (IsFirst why_at (first_later walk.place) behind) →
      MatchOption o ((index : ℕ) → EndsAt walk trace rule index → ⊥) (IsLeastStop walk trace rule)
  least_by None none =
      λ index e. no_end index e (none (index - first_later walk.place) e.point (ends_behind index e))
  least_by (Some stop) first =
      let both = picks_some (breaks_at walk.breakpoints first.point) (holds rule seen_from (depth first.point)) stop.reason first.why in
      record {
        ending = record {
          point = first.point;
          found =
              ap (slice_get trace) first.index ∙ sym (get_drop (first_later walk.place) trace first.k) ∙ first.found;
          later = subst (IsLater walk.place) (sym first.index) (later_from walk.place first.k);
          ends = both.0;
        };
        reason = both.1;
        least = λ index lt e.
            no_end index e
            (first.before (index - first_later walk.place) e.point
            (omega (arith, first.index, lt, from_later walk.place index e.later)) (ends_behind index e));
      }

pub stops_are_the_least : StopsAreTheLeast
stops_are_the_least walk trace rule =
    least_by walk trace rule (next_stop walk trace rule)
    (searched (why_at walk trace rule) (first_later walk.place) (behind walk trace rule))
