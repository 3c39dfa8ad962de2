-- A request that is done in its session, and what is written for it.
use Rattle.std.proofs.Common.{◌≡◌, ◌∙◌, ℕ, Bool, true, false, cond, List, ◌∷◌, map, refl, sym, ap, Some, None, Option}
use Rattle.std.specs.Prelude.{is_some, reverse}
use Rattle.std.specs.Option.{option_map, option_map_or, ForSome}
use Rattle.std.specs.Str.{chars}
use Rattle.std.proofs.lemmas.Bool.{false≢true}
use Rattle.serde_json.specs.Data.{Data}
use Rattle.serde_json.specs.View.{view}
use Rattle.serde_json.specs.declared.value.Value.{Value}
use Rattle.hl_base.specs.declared.place.Frame.{Frame}
use Rattle.trace_values.specs.declared.item.TraceItem.{TraceItem}
use Rattle.trace_arena.specs.Points.{Point}
use Rattle.dap_messages.specs.Requests.{name_of}
use Rattle.dap_messages.specs.Written.{body_of, body_has_fraction, response_value, stack_value, value_of}
use Rattle.dap_messages.specs.declared.bodies.StopReason.{StopReason}
use Rattle.dap_messages.specs.declared.requests.DapIn.{DapIn}
use Rattle.macro_debugger.specs.declared.stop.StepRule.{StepRule}
use Rattle.debug_sessions.specs.declared.debugger.Debugger.{Debugger}
use Rattle.debug_sessions.specs.declared.effects.Done.{Done}
use Rattle.debug_sessions.specs.declared.effects.Replies.{Replies}
use Rattle.debug_sessions.specs.declared.event.Event.{Event}
use Rattle.debug_sessions.specs.Launches.{Launch}
use Rattle.debug_sessions.specs.Shown.{shown_frame, stack_at}
use Rattle.debug_sessions.specs.State.{next_seq}
use Rattle.debug_sessions.specs.Stops.{Halt, first_halt, next_halt, halted}
use Rattle.debug_sessions.specs.Answers.{Effect, becomes, tells, of_launch, of_stop, begins, steps, goes_on, stack_told, event_of, sent, last_seq, events_behind}
use Rattle.debug_sessions.specs.Done.{kept, effect_of, IsDone, IsReplied}
use Rattle.debug_sessions.specs.Written.{AreWhole}

-- ---- what comes of a launch

pub of_none : (d : Debugger) (effect : Launch → Effect) → d.launch ≡ None → of_launch d effect ≡ becomes d
of_none d effect is = ap (λ launch. option_map_or effect launch (becomes d)) is

pub of_some : (d : Debugger) (effect : Launch → Effect) (l : Launch) → d.launch ≡ Some l → of_launch d effect ≡ effect l
of_some d effect l is = ap (λ launch. option_map_or effect launch (becomes d)) is

-- where it is stopped
pub of_stopped : (d : Debugger) (effect : Launch → ℕ → Effect) (l : Launch) (e : Effect) → d.launch ≡ Some l → is_some l.stop ≡ true →
    ((index : ℕ) → l.stop ≡ Some index → effect l index ≡ e) → of_stop d effect ≡ e
of_stopped d effect l e is stopped come =
    of_some d (λ launch. option_map_or (effect launch) launch.stop (becomes d)) l is ∙ by l.stop stopped come
  where
    by : (stop : Option ℕ) → is_some stop ≡ true → ((index : ℕ) → stop ≡ Some index → effect l index ≡ e) → option_map_or (effect l) stop (becomes d) ≡ e
    by None stopped come = absurd (false≢true stopped)
    by (Some index) stopped come = come index refl

-- where it is not, nothing comes of it
pub of_ended : (d : Debugger) (effect : Launch → ℕ → Effect) (l : Launch) → d.launch ≡ Some l → is_some l.stop ≡ false → of_stop d effect ≡ becomes d
of_ended d effect l is ended =
    of_some d (λ launch. option_map_or (effect launch) launch.stop (becomes d)) l is ∙ by l.stop ended
  where
    by : (stop : Option ℕ) → is_some stop ≡ false → option_map_or (effect l) stop (becomes d) ≡ becomes d
    by None ended = refl
    by (Some index) ended = absurd (false≢true (sym ended))

-- what is done where the program goes on
abbrev goes : Option Value → Event → Done
goes body event = record { stays = true; body = body; event = Some event }

-- an effect where the launch is this one, and this event comes behind the response
abbrev gone : Debugger → Launch → Option Data → Event → Effect
gone d launch body event = record { debugger = Some (record d { launch = Some launch }); body = body; event = Some event }

module _ (paths : List (List ℕ)) (d : Debugger) (l new : Launch) (reason : Option StopReason) (event : Event) (is : d.launch ≡ Some l)
    (told : (halt : Option Halt) → reason ≡ option_map (λ (h : Halt). h.reason) halt → event ≡ event_of halt) where
  -- the program has begun
  pub started : l.is_started ≡ false → reason ≡ option_map (λ (h : Halt). h.reason) (first_halt paths d.breakpoints l.stops_on_entry l.trace) →
      new ≡ halted (record l { is_started = true }) (first_halt paths d.breakpoints l.stops_on_entry l.trace) →
      of_launch d (begins paths d) ≡ effect_of (goes None event) (record d { launch = Some new })
  started fresh why launch =
      let halt = first_halt paths d.breakpoints l.stops_on_entry l.trace in
      of_some d (begins paths d) l is
      ∙ ap (λ b. cond b (becomes d) (goes_on d (record l { is_started = true }) halt None)) fresh
      ∙ ap (λ m. gone d m None (event_of halt)) (sym launch)
      ∙ ap (gone d new None) (sym (told halt why))

  -- it has taken a step
  pub stepped : (by : StepRule) (body : Option Value) → is_some l.stop ≡ true →
      ForSome l.stop (λ index. reason ≡ option_map (λ (h : Halt). h.reason) (next_halt paths d.breakpoints by l.trace index)) →
      ForSome l.stop (λ index. new ≡ halted l (next_halt paths d.breakpoints by l.trace index)) →
      steps paths d by (body_of body) ≡ effect_of (goes body event) (record d { launch = Some new })
  stepped by body stopped why launch =
      of_stopped d (λ l index. goes_on d l (next_halt paths d.breakpoints by l.trace index) (body_of body)) l (gone d new (body_of body) event) is stopped
      (λ index at.
      ap (λ m. gone d m (body_of body) (event_of (next_halt paths d.breakpoints by l.trace index))) (sym (launch index at))
      ∙ ap (gone d new (body_of body)) (sym (told (next_halt paths d.breakpoints by l.trace index) (why index at))))

-- the frames of the stop are told
pub stack_is : (paths : List (List ℕ)) (d : Debugger) (l : Launch) (frames : List Frame) (body : Value) → d.launch ≡ Some l → is_some l.stop ≡ true →
    ForSome l.stop (λ index. reverse frames ≡ stack_at l.trace index) → view body ≡ stack_value (map (shown_frame paths) (reverse frames)) →
    stack_told paths d ≡ effect_of (record { stays = true; body = Some body; event = None }) d
stack_is paths d l frames body is stopped shown told =
    of_stopped d (λ l index. tells d (stack_value (map (shown_frame paths) (stack_at l.trace index)))) l (tells d (view body)) is stopped
    (λ index at. ap (λ fs. tells d (stack_value (map (shown_frame paths) fs))) (sym (shown index at)) ∙ ap (tells d) (sym told))

-- ---- what is written

kept_sent : (stays : Bool) (d : Debugger) (seq last : ℕ) → last ≡ seq → kept stays (record d { seq = last }) ≡ option_map (sent seq) (kept stays d)
kept_sent true d seq last is = ap (λ n. Some (sent n d)) is
kept_sent false d seq last is = refl

-- a request that is done is answered
pub is_replied : (done : Done) (d : Debugger) (replies : Replies) (seq last : ℕ) (request : DapIn) (effect : Effect) → IsDone done d effect → replies.stays ≡ done.stays →
    last ≡ last_seq (next_seq seq) done.event →
    map value_of replies.messages.items
    ≡ response_value (chars (name_of request.command)) request.seq (next_seq seq) (body_of done.body) ∷ events_behind (next_seq seq) done.event →
    AreWhole replies.messages.items → IsReplied replies (record d { seq = last }) seq request effect
is_replied done d replies seq last request effect is stays counted written whole = record {
  placing =
      ap (λ s. kept s (record d { seq = last })) stays
      ∙ kept_sent done.stays d (last_seq (next_seq seq) done.event) last counted
      ∙ ap (λ (e : Effect). option_map (sent (last_seq (next_seq seq) e.event)) e.debugger) (sym is.effect_is);
  messages =
      written
      ∙ ap (λ (e : Effect). response_value (chars (name_of request.command)) request.seq (next_seq seq) e.body ∷ events_behind (next_seq seq) e.event) (sym is.effect_is);
  whole = whole;
}
