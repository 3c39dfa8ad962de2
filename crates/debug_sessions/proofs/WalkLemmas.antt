-- A walk whose breakpoints were set, and a launch that has come to a stop or to its end.
use Rattle.std.proofs.Common.{◌≡◌, ◌∙◌, ℕ, Bool, true, false, List, refl, sym, ap, subst, Some, None, Option}
use Rattle.std.specs.Prelude.{IsTrue, IsSome, is_some}
use Rattle.std.specs.Option.{option_map, ForSome}
use Rattle.std.proofs.lemmas.Bool.{false≢true}
use Rattle.std.proofs.lemmas.Option.{none-some}
use Rattle.trace_values.specs.declared.item.TraceItem.{TraceItem}
use Rattle.trace_arena.specs.declared.node.NodeId.{NodeId}
use Rattle.trace_arena.specs.Nodes.{Node}
use Rattle.trace_arena.specs.Points.{Point, points}
use Rattle.dap_messages.specs.declared.bodies.StopReason.{StopReason}
use Rattle.macro_debugger.specs.declared.stop.StepRule.{StepRule}
use Rattle.macro_debugger.specs.declared.stop.Stop.{Stop}
use Rattle.macro_debugger.specs.Walks.{Walk, HasTrace, trace_of, next_stop, place_after}
use Rattle.debug_sessions.specs.declared.breakpoints.PathLines.{PathLines}
use Rattle.debug_sessions.specs.Inside.{AreNumbered, IsSound, stop_at}
use Rattle.debug_sessions.specs.Launches.{Launch}
use Rattle.debug_sessions.specs.Stops.{Halt, halt_of, stop_behind, first_halt, next_halt, halted}
use Rattle.debug_sessions.proofs.StopLemmas.{same_stop, stopped_first, stopped_next, stands_first, stands_next}

abbrev index_of : Option Halt → Option ℕ
index_of halt = option_map (λ (h : Halt). h.index) halt

abbrev reason_of : Option Halt → Option StopReason
reason_of halt = option_map (λ (h : Halt). h.reason) halt

-- ---- a walk that has other breakpoints

module _ (paths : List (List ℕ)) (breakpoints : List PathLines) (nodes : List (Node TraceItem)) (old new : Walk) (is : new ≡ record old { breakpoints = new.breakpoints }) where
  pub same_trace : HasTrace nodes old → HasTrace nodes new
  same_trace has = subst (λ (w : Walk). HasTrace nodes w) (sym is) (record { live = has.live; whole = has.whole })

  -- its next stop is that of the session, whose breakpoints they are by their paths
  pub next_is : AreNumbered paths breakpoints new.breakpoints → (by : StepRule) (found : Option Stop) → found ≡ next_stop new (trace_of nodes new) by →
      found ≡ stop_behind paths breakpoints by old.place (trace_of nodes old)
  next_is numbered by found found_is =
      found_is
      ∙ same_stop paths breakpoints new.breakpoints numbered by new.place (trace_of nodes new)
      ∙ ap (λ (w : Walk). stop_behind paths breakpoints by w.place (trace_of nodes w)) is

-- a walk that has not begun stands at its first stop, if there is one
pub begins_at : (place : Option ℕ) (stop : Option ℕ → Option Stop) → place ≡ None → place_after place (stop place) ≡ index_of (option_map halt_of (stop None))
begins_at place stop none = ap (λ p. place_after p (stop p)) none ∙ first (stop None)
  where
    first : (found : Option Stop) → place_after None found ≡ index_of (option_map halt_of found)
    first None = refl
    first (Some found) = refl

-- ---- a launch

-- what holds of the place of a walk holds of the point where the launch is stopped
pub at_stop : (is_stopped : Bool) (place stop : Option ℕ) (P : Option ℕ → Type 0) → stop_at is_stopped place ≡ stop → P place →
    (index : ℕ) → stop ≡ Some index → P (Some index)
at_stop true place stop P is here index at = subst P (is ∙ at) here
at_stop false place stop P is here index at = absurd (none-some index (is ∙ at))

-- a launch that is stopped has begun
pub not_fresh : (is_stopped : Bool) (place stop : Option ℕ) → place ≡ None → stop_at is_stopped place ≡ stop → IsSome stop → ⊥
not_fresh true place stop none is some = false≢true (ap is_some (sym none ∙ is) ∙ some)
not_fresh false place stop none is some = false≢true (ap is_some is ∙ some)

-- a launch that is stopped at this point, if it is
abbrev launch_at : List (Point TraceItem) → (stops_on_entry is_started : Bool) → (stop : Option ℕ) → Launch
launch_at trace stops_on_entry is_started stop = record {
  trace = trace;
  stops_on_entry = stops_on_entry;
  is_started = is_started;
  stop = stop;
}

-- a launch whose walk has this root and stands at this place
abbrev shown : List (Node TraceItem) → NodeId → Option ℕ → (stops_on_entry is_started is_stopped : Bool) → Launch
shown nodes root place stops_on_entry is_started is_stopped = launch_at (points nodes root.0) stops_on_entry is_started (stop_at is_stopped place)

module _ (paths : List (List ℕ)) (breakpoints : List PathLines) (nodes : List (Node TraceItem)) (old new : Walk) (stops_on_entry was_started was_stopped is_stopped : Bool) (launch : Launch) (reason : Option StopReason)
    (is : shown nodes old.root old.place stops_on_entry was_started was_stopped ≡ launch) (same : new.root ≡ old.root) (stopped : is_stopped ≡ is_some reason) where
  -- what was told of the walk is told of the launch, and it stands there
  moved : (started : Bool) (halt : Option Halt) → reason ≡ reason_of halt → new.place ≡ index_of halt → shown nodes new.root new.place stops_on_entry started is_stopped ≡
      launch_at (trace_of nodes old) stops_on_entry started (index_of halt)
  moved started halt why place =
      ap (λ root. shown nodes root new.place stops_on_entry started is_stopped) same
      ∙ ap (λ s. shown nodes old.root new.place stops_on_entry started s) (stopped ∙ ap is_some why)
      ∙ ap (λ p. shown nodes old.root p stops_on_entry started (is_some (reason_of halt))) place
      ∙ ap (launch_at (trace_of nodes old) stops_on_entry started) (stopped_first halt)

  abbrev first : Option Halt
  first = first_halt paths breakpoints stops_on_entry (trace_of nodes old)

  pub started_reason : reason ≡ reason_of first → reason ≡ reason_of (first_halt paths breakpoints launch.stops_on_entry launch.trace)
  started_reason why = why ∙ ap (λ (l : Launch). reason_of (first_halt paths breakpoints l.stops_on_entry l.trace)) is

  pub started_launch : reason ≡ reason_of first → new.place ≡ index_of first →
      shown nodes new.root new.place stops_on_entry true is_stopped ≡ halted (record launch { is_started = true }) (first_halt paths breakpoints launch.stops_on_entry launch.trace)
  started_launch why place =
      moved true first why place
      ∙ ap (λ (l : Launch). halted (record l { is_started = true }) (first_halt paths breakpoints l.stops_on_entry l.trace)) is

  pub started_sound : HasTrace nodes new → reason ≡ reason_of first → new.place ≡ index_of first → IsSound nodes new true is_stopped
  started_sound has why place = record {
    trace = has;
    stands = λ yes. subst (λ (o : Option ℕ). IsSome o) (sym place) (stands_first first (sym (stopped ∙ ap is_some why) ∙ yes));
    fresh = λ no. absurd (false≢true (sym no));
  }

  abbrev next : StepRule → Option Stop
  next by = stop_behind paths breakpoints by old.place (trace_of nodes old)

  pub stepped_reason : (by : StepRule) → reason ≡ reason_of (option_map halt_of (next by)) →
      ForSome launch.stop (λ index. reason ≡ reason_of (next_halt paths breakpoints by launch.trace index))
  stepped_reason by why =
      at_stop was_stopped old.place launch.stop (λ p. reason ≡ reason_of (option_map halt_of (stop_behind paths breakpoints by p launch.trace)))
      (ap (λ (l : Launch). l.stop) is)
      (why ∙ ap (λ (l : Launch). reason_of (option_map halt_of (stop_behind paths breakpoints by old.place l.trace))) is)

  stepped_to : (by : StepRule) → reason ≡ reason_of (option_map halt_of (next by)) → new.place ≡ place_after old.place (next by) →
      shown nodes new.root new.place stops_on_entry was_started is_stopped ≡ halted launch (option_map halt_of (stop_behind paths breakpoints by old.place launch.trace))
  stepped_to by why place =
      ap (λ root. shown nodes root new.place stops_on_entry was_started is_stopped) same
      ∙ ap (λ s. shown nodes old.root new.place stops_on_entry was_started s) (stopped ∙ ap is_some why)
      ∙ ap (λ p. shown nodes old.root p stops_on_entry was_started (is_some (reason_of (option_map halt_of (next by))))) place
      ∙ ap (launch_at (trace_of nodes old) stops_on_entry was_started) (stopped_next old.place (next by))
      ∙ ap (λ (l : Launch). halted l (option_map halt_of (stop_behind paths breakpoints by old.place l.trace))) is

  pub stepped_launch : (by : StepRule) → reason ≡ reason_of (option_map halt_of (next by)) → new.place ≡ place_after old.place (next by) →
      ForSome launch.stop (λ index. shown nodes new.root new.place stops_on_entry was_started is_stopped ≡ halted launch (next_halt paths breakpoints by launch.trace index))
  stepped_launch by why place =
      at_stop was_stopped old.place launch.stop
      (λ p. shown nodes new.root new.place stops_on_entry was_started is_stopped ≡ halted launch (option_map halt_of (stop_behind paths breakpoints by p launch.trace)))
      (ap (λ (l : Launch). l.stop) is) (stepped_to by why place)

  pub stepped_sound : (by : StepRule) → IsSound nodes old was_started was_stopped → HasTrace nodes new → IsSome launch.stop →
      reason ≡ reason_of (option_map halt_of (next by)) → new.place ≡ place_after old.place (next by) → IsSound nodes new was_started is_stopped
  stepped_sound by sound has some why place = record {
    trace = has;
    stands = λ yes. subst (λ (o : Option ℕ). IsSome o) (sym place) (stands_next old.place (next by) (sym (stopped ∙ ap is_some why) ∙ yes));
    fresh = λ no. absurd (not_fresh was_stopped old.place launch.stop (sound.fresh no) (ap (λ (l : Launch). l.stop) is) some);
  }

-- a walk that has not moved
pub still_sound : (nodes : List (Node TraceItem)) (old new : Walk) (is_started is_stopped : Bool) → IsSound nodes old is_started is_stopped → HasTrace nodes new → new.place ≡ old.place →
    IsSound nodes new is_started is_stopped
still_sound nodes old new is_started is_stopped sound has place = record {
  trace = has;
  stands = λ yes. subst (λ (o : Option ℕ). IsSome o) (sym place) (sound.stands yes);
  fresh = λ no. place ∙ sound.fresh no;
}
