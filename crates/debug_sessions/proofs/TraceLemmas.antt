-- A message leaves the traces of launches, but for that of the session that it disconnects.
use Rattle.std.proofs.Common.{◌≡◌, ◌≢◌, ◌∙◌, ℕ, Bool, true, false, cond, ◌&&◌, ◌||◌, List, [], ◌∷◌, ◌++◌, refl, sym, ap, subst, Some, None, Option}
use Rattle.std.specs.Prelude.{◌==◌, ℤ, map, find, is_some, Result, Ok, Err, unwrap_or}
use Rattle.std.specs.List.{list_any}
use Rattle.std.specs.Option.{option_map, option_map_or, option_and_then}
use Rattle.std.proofs.lemmas.Bool.{false≢true, eqb-true, eq-eqb}
use Rattle.serde_json.specs.Data.{Data}
use Rattle.trace_values.specs.declared.item.TraceItem.{TraceItem}
use Rattle.trace_arena.specs.Points.{Point}
use Rattle.dap_messages.specs.declared.requests.DapIn.{DapIn}
use Rattle.dap_messages.specs.declared.requests.DapCommand.{DapCommand}
use Rattle.dap_messages.specs.declared.requests.DapCommand.TheVariants.{Initialize, Launch, SetBreakpoints, ConfigurationDone, Threads, StackTrace, Scopes, Variables, Next, StepIn, StepOut, Continue, Disconnect}
use Rattle.dap_messages.specs.declared.requests.DapRefusal.{DapRefusal}
use Rattle.dap_messages.specs.declared.requests.DapRefusal.TheVariants.{NotDap, UnknownCommand, BadArguments, OutOfMemory}
use Rattle.macro_debugger.specs.declared.stop.StepRule.{StepRule}
use Rattle.macro_debugger.specs.declared.stop.StepRule.TheVariants as rule
use Rattle.debug_sessions.specs.declared.debugger.Debugger.{Debugger}
use Rattle.debug_sessions.specs.declared.refusals.Refusal.{Refusal}
use Rattle.debug_sessions.specs.declared.refusals.Refusal.TheVariants as why
use Rattle.debug_sessions.specs.declared.wants.Want.{Want}
use Rattle.debug_sessions.specs.declared.wants.Want.TheVariants.{Idle}
use Rattle.debug_sessions.specs.Launches as launches
use Rattle.debug_sessions.specs.Places.{with_one}
use Rattle.debug_sessions.specs.State.{Debuggers, has_number, session_of, session_for, begun, with_session, next_seq}
use Rattle.debug_sessions.specs.Refusals as table
use Rattle.debug_sessions.specs.Stops.{Halt, first_halt, next_halt}
use Rattle.debug_sessions.specs.Shown.{shown_frame, stack_at, asked, variables_at}
use Rattle.dap_messages.specs.Written.{stack_value, variables_value, continued_value}
use Rattle.debug_sessions.specs.Answers.{Effect, effect, of_stop, of_launch, steps, begins, goes_on, becomes, tells, placed, sent, last_seq, done, counted, refused, obeyed, unless_refused, head_of, judged, answer}
use Rattle.debug_sessions.specs.Laws.{Message, after, disconnects, is_disconnect, reads_disconnect, trace_in, LaunchesKeepTheirTraces}
use Rattle.debug_sessions.proofs.LawLemmas.{found_passes, stays_with, stays_without, found_with, numbers_apart}

-- the trace of the launch of a session
abbrev traced : Debugger → Option (List (Point TraceItem))
traced d = option_map (λ (l : launches.Launch). l.trace) d.launch

abbrev trace_found : Option Debugger → Option (List (Point TraceItem))
trace_found found = option_map (λ (l : launches.Launch). l.trace) (table.launch_in found)

-- ---- effects

-- the session that an effect leaves has the number of another one
abbrev pub HasNumberOf : Debugger → Option Debugger → Type 0
HasNumberOf d None = Unit {0}
HasNumberOf d (Some e) = e.number ≡ d.number

-- there is a session, and it has the trace of another one
abbrev HasTraceOf : Debugger → Option Debugger → Type 0
HasTraceOf d None = ⊥
HasTraceOf d (Some e) = traced e ≡ traced d

-- what holds of a session, and of what comes of its launch, holds of what comes of it in all
of_launch_holds : (d : Debugger) (P : Option Debugger → Type 0) (f : launches.Launch → Effect) → P (Some d) →
    ((l : launches.Launch) → d.launch ≡ Some l → P (f l).debugger) → P (of_launch d f).debugger
of_launch_holds d P f stay there = by d.launch refl
  where
    by : (launch : Option launches.Launch) → d.launch ≡ launch → P (option_map_or f launch (becomes d)).debugger
    by None e = stay
    by (Some l) e = there l e

of_stop_holds : (d : Debugger) (P : Option Debugger → Type 0) (f : launches.Launch → ℕ → Effect) → P (Some d) →
    ((l : launches.Launch) (index : ℕ) → d.launch ≡ Some l → P (f l index).debugger) → P (of_stop d f).debugger
of_stop_holds d P f stay there = of_launch_holds d P (λ l. option_map_or (f l) l.stop (becomes d)) stay (λ l e. by l e l.stop)
  where
    by : (l : launches.Launch) → d.launch ≡ Some l → (stop : Option ℕ) → P (option_map_or (f l) stop (becomes d)).debugger
    by l e None = stay
    by l e (Some index) = there l index e

begins_holds : (paths : List (List ℕ)) (d : Debugger) (P : Option Debugger → Type 0) (l : launches.Launch) → P (Some d) →
    ((halt : Option Halt) → P (goes_on d (record l { is_started = true }) halt None).debugger) → P (begins paths d l).debugger
begins_holds paths d P l stay there = by l.is_started
  where
    by : (t : Bool) → P (cond t (becomes d) (goes_on d (record l { is_started = true }) (first_halt paths d.breakpoints l.stops_on_entry l.trace) None)).debugger
    by true = stay
    by false = there (first_halt paths d.breakpoints l.stops_on_entry l.trace)

module _ (paths : List (List ℕ)) (program : Option (List (Point TraceItem))) (d : Debugger) where
  abbrev told_stack : launches.Launch → ℕ → Effect
  told_stack l index = tells d (stack_value (map (shown_frame paths) (stack_at l.trace index)))

  abbrev told_variables : ℤ → launches.Launch → ℕ → Effect
  told_variables reference l index = tells d (variables_value (variables_at l.trace index (asked reference)))

  steps_number : (by : StepRule) (body : Option Data) → HasNumberOf d (steps paths d by body).debugger
  steps_number by body = of_stop_holds d (HasNumberOf d) (λ l index. goes_on d l (next_halt paths d.breakpoints by l.trace index) body) refl (λ l index e. refl)

  pub effect_number : (command : DapCommand) → HasNumberOf d (effect paths program d command).debugger
  effect_number Initialize = refl
  effect_number (Launch path stops_on_entry) = refl
  effect_number (SetBreakpoints path lines) = refl
  effect_number ConfigurationDone = of_launch_holds d (HasNumberOf d) (begins paths d) refl (λ l e. begins_holds paths d (HasNumberOf d) l refl (λ halt. refl))
  effect_number Threads = refl
  effect_number StackTrace = of_stop_holds d (HasNumberOf d) told_stack refl (λ l index e. refl)
  effect_number (Scopes frame) = refl
  effect_number (Variables reference) = of_stop_holds d (HasNumberOf d) (told_variables reference) refl (λ l index e. refl)
  effect_number Next = steps_number rule.Over None
  effect_number StepIn = steps_number rule.In None
  effect_number StepOut = steps_number rule.Out None
  effect_number Continue = steps_number rule.Continue (Some continued_value)
  effect_number Disconnect = tt

  same_trace : (l : launches.Launch) → d.launch ≡ Some l → Some l.trace ≡ traced d
  same_trace l e = sym (ap (option_map (λ (m : launches.Launch). m.trace)) e)

  steps_trace : (by : StepRule) (body : Option Data) → HasTraceOf d (steps paths d by body).debugger
  steps_trace by body = of_stop_holds d (HasTraceOf d) (λ l index. goes_on d l (next_halt paths d.breakpoints by l.trace index) body) refl (λ l index e. same_trace l e)

  effect_trace : (command : DapCommand) → is_disconnect command ≡ false → (table.want_of command ≡ Idle → ⊥) → HasTraceOf d (effect paths program d command).debugger
  effect_trace Initialize stays other = refl
  effect_trace (Launch path stops_on_entry) stays other = absurd (other refl)
  effect_trace (SetBreakpoints path lines) stays other = refl
  effect_trace ConfigurationDone stays other = of_launch_holds d (HasTraceOf d) (begins paths d) refl (λ l e. begins_holds paths d (HasTraceOf d) l refl (λ halt. same_trace l e))
  effect_trace Threads stays other = refl
  effect_trace StackTrace stays other = of_stop_holds d (HasTraceOf d) told_stack refl (λ l index e. refl)
  effect_trace (Scopes frame) stays other = refl
  effect_trace (Variables reference) stays other = of_stop_holds d (HasTraceOf d) (told_variables reference) refl (λ l index e. refl)
  effect_trace Next stays other = steps_trace rule.Over None
  effect_trace StepIn stays other = steps_trace rule.In None
  effect_trace StepOut stays other = steps_trace rule.Out None
  effect_trace Continue stays other = steps_trace rule.Continue (Some continued_value)
  effect_trace Disconnect stays other = absurd (false≢true (sym stays))

-- ---- sessions

module _ (ds : Debuggers) (number : ℕ) where
  -- the session of a number has it
  for_number : (session_for number ds).number ≡ number
  for_number = by (session_of number ds) refl
    where
      by : (found : Option Debugger) → session_of number ds ≡ found → (unwrap_or found (begun number)).number ≡ number
      by None e = refl
      by (Some d) e = eqb-true d.number number (found_passes (has_number number) ds d e)

  -- another session stays where one has changed, or is gone
  pub other_stays : (other : ℕ) → other ≢ number → (placing : Option Debugger) → HasNumberOf (session_for number ds) placing →
      session_of other (placed number placing ds) ≡ session_of other ds
  other_stays other differ None has = stays_without (has_number number) (has_number other) (numbers_apart number other differ) ds
  other_stays other differ (Some e) has =
      stays_with (has_number number) (has_number other) (numbers_apart number other differ) e (eq-eqb e.number number (has ∙ for_number)) ds

  -- a session that has changed is found as it is now
  own_found : (e : Debugger) → e.number ≡ number → session_of number (with_session number e ds) ≡ Some e
  own_found e is = found_with (has_number number) e (eq-eqb e.number number is) ds

pub sent_number : (d : Debugger) (seq : ℕ) (o : Option Debugger) → HasNumberOf d o → HasNumberOf d (option_map (sent seq) o)
sent_number d seq None has = tt
sent_number d seq (Some e) has = has

-- ---- a message

-- a launch of a session that has one is refused
launch_refused : (request : DapIn) (is_program : Bool) (others : ℕ) (d : Debugger) (l : launches.Launch) → table.want_of request.command ≡ Idle → d.launch ≡ Some l →
    table.first_of (table.early (Ok request) others (Some d) ++ table.late (Ok request) is_program (Some d)) ≡ None → ⊥
launch_refused request is_program others d l idle launched none =
    let early : Want → Option Refusal = λ want. table.first_of (None ∷ table.no_session want (Some d) ∷ table.too_many want others ∷ table.already_initialized want (Some d) ∷ None
    ∷ table.already_launched want (Some d) ∷ table.late (Ok request) is_program (Some d)) in
    some_none (sym (ap early idle ∙ ap (λ o. table.first_of (table.where_so (is_some o) why.AlreadyLaunched ∷ table.late (Ok request) is_program (Some d))) launched) ∙ none)
  where
    some_none : {why : Refusal} → Some why ≡ None → ⊥
    some_none is = cc

module _ (number : ℕ) (trace : List (Point TraceItem)) where
  -- counting a message changes no trace
  counted_trace : (ds : Debuggers) (m : ℕ) (found : Option Debugger) → session_of m ds ≡ found → trace_in number (counted m found ds) ≡ trace_in number ds
  counted_trace ds m None e = refl
  counted_trace ds m (Some d) e = by (number == m) refl
    where
      at_m : session_of m (with_session m (sent (next_seq d.seq) d) ds) ≡ Some (sent (next_seq d.seq) d)
      at_m = found_with (has_number m) (sent (next_seq d.seq) d) (found_passes (has_number m) ds d e) ds

      by : (t : Bool) → (number == m) ≡ t → trace_in number (with_session m (sent (next_seq d.seq) d) ds) ≡ trace_in number ds
      by true same =
          let is : number ≡ m = eqb-true number m same in
          ap (λ n. trace_in n (with_session m (sent (next_seq d.seq) d) ds)) is ∙ ap trace_found at_m ∙ sym (ap trace_found e)
          ∙ ap (λ n. trace_in n ds) (sym is)
      by false same =
          ap trace_found (stays_with (has_number m) (has_number number) (numbers_apart m number (λ is. false≢true (sym same ∙ eq-eqb number m is)))
          (sent (next_seq d.seq) d) (found_passes (has_number m) ds d e) ds)

  module _ (ds : Debuggers) (m : Message) (request : DapIn) (is : trace_in number ds ≡ Some trace) where
    abbrev own : Debugger
    own = session_for m.number ds

    abbrev come : Effect
    come = effect m.paths m.program own request.command

    abbrev seq : ℕ
    seq = last_seq (next_seq own.seq) come.event

    abbrev behind : Debuggers
    behind = placed m.number (option_map (sent seq) come.debugger) ds

    numbered : HasNumberOf own come.debugger
    numbered = effect_number m.paths m.program own request.command

    -- where it is a message to that session, the session has a launch
    launches_none : (found : Option Debugger) → session_of m.number ds ≡ found → trace_found found ≡ Some trace →
        table.refusal ds m.number (Ok request) (is_some m.program) ≡ None → table.want_of request.command ≡ Idle → ⊥
    launches_none None e has allowed idle = cc
    launches_none (Some d) e has allowed idle = by d.launch refl has
      where
        by : (launch : Option launches.Launch) → d.launch ≡ launch → option_map (λ (l : launches.Launch). l.trace) launch ≡ Some trace → ⊥
        by None at is = cc
        by (Some l) at is =
            launch_refused request (is_some m.program) (table.others m.number ds) d l idle at
            (ap (λ found. table.first_of (table.early (Ok request) (table.others m.number ds) found ++ table.late (Ok request) (is_some m.program) found)) (sym e) ∙ allowed)

    -- and keeps its trace
    keeps : (found : Option Debugger) → session_of m.number ds ≡ found → trace_found found ≡ Some trace → traced own ≡ Some trace
    keeps None e has = absurd cc
    keeps (Some d) e has = ap (λ found. traced (unwrap_or found (begun m.number))) e ∙ has

    found_behind : (o : Option Debugger) → HasNumberOf own o → HasTraceOf own o → traced own ≡ Some trace →
        trace_in m.number (placed m.number (option_map (sent seq) o) ds) ≡ Some trace
    found_behind None has same held = absurd same
    found_behind (Some f) has same held = ap trace_found (own_found ds m.number (sent seq f) (has ∙ for_number ds m.number)) ∙ same ∙ held

    here : m.number ≡ number → is_disconnect request.command ≡ false → table.refusal ds m.number (Ok request) (is_some m.program) ≡ None → trace_in number behind ≡ Some trace
    here at stays allowed =
        let held : trace_in m.number ds ≡ Some trace = ap (λ n. trace_in n ds) at ∙ is in
        ap (λ n. trace_in n behind) (sym at)
        ∙ found_behind come.debugger numbered
        (effect_trace m.paths m.program own request.command stays (launches_none (session_of m.number ds) refl held allowed))
        (keeps (session_of m.number ds) refl held)

    elsewhere : (m.number ≡ number → ⊥) → trace_in number behind ≡ Some trace
    elsewhere apart =
        ap trace_found (other_stays ds m.number number (λ at. apart (sym at)) (option_map (sent seq) come.debugger) (sent_number own seq come.debugger numbered))
        ∙ is

    -- a request that is done leaves the trace, unless it disconnects that session
    done_trace : table.refusal ds m.number (Ok request) (is_some m.program) ≡ None → ((m.number == number) && is_disconnect request.command) ≡ false →
        trace_in number behind ≡ Some trace
    done_trace allowed stays = by (m.number == number) refl
      where
        by : (t : Bool) → (m.number == number) ≡ t → trace_in number behind ≡ Some trace
        by true same = here (eqb-true m.number number same) (sym (ap (λ t. t && is_disconnect request.command) same) ∙ stays) allowed
        by false same = elsewhere (λ at. false≢true (sym same ∙ eq-eqb m.number number at))

  judged_trace : (ds : Debuggers) (m : Message) → disconnects number m ≡ false → trace_in number ds ≡ Some trace →
      trace_in number (judged m.paths ds m.number m.read m.program).sessions ≡ Some trace
  unfolding judged
  judged_trace ds m stays is = refused_or_not (table.refusal ds m.number m.read (is_some m.program)) refl
    where
      obeyed_trace : (read : Result DapIn DapRefusal) → ((m.number == number) && reads_disconnect read) ≡ false → table.refusal ds m.number read (is_some m.program) ≡ None →
          trace_in number (obeyed m.paths m.program ds m.number read).sessions ≡ Some trace
      obeyed_trace (Ok request) stays allowed = done_trace ds m request is allowed stays
      obeyed_trace (Err refusal) stays allowed = is

      refused_or_not : (reason : Option Refusal) → table.refusal ds m.number m.read (is_some m.program) ≡ reason →
          trace_in number (unless_refused reason ds m.number (head_of m.read) (obeyed m.paths m.program ds m.number m.read)).sessions ≡ Some trace
      refused_or_not None e = obeyed_trace m.read stays e
      refused_or_not (Some why) e = counted_trace ds m.number (session_of m.number ds) refl ∙ is

  message_trace : (ds : Debuggers) (m : Message) → disconnects number m ≡ false → trace_in number ds ≡ Some trace →
      trace_in number (answer m.paths ds m.number m.read m.program).sessions ≡ Some trace
  unfolding answer
  message_trace ds m stays is = by m.read (judged_trace ds m stays is)
    where
      by : (read : Result DapIn DapRefusal) → trace_in number (judged m.paths ds m.number read m.program).sessions ≡ Some trace →
          trace_in number (answer m.paths ds m.number read m.program).sessions ≡ Some trace
      by (Ok request) judged = judged
      by (Err NotDap) judged = is
      by (Err (UnknownCommand head)) judged = judged
      by (Err (BadArguments head)) judged = judged
      by (Err OutOfMemory) judged = is

or_none : (a b : Bool) → (a || b) ≡ false → (a ≡ false) × (b ≡ false)
or_none true b is = absurd (false≢true (sym is))
or_none false b is = (refl, is)

pub launches_keep_their_traces : LaunchesKeepTheirTraces
launches_keep_their_traces ds number trace [] is stays = is
launches_keep_their_traces ds number trace (m ∷ ms) is stays =
    let apart = or_none (disconnects number m) (list_any (disconnects number) ms) stays in
    launches_keep_their_traces (answer m.paths ds m.number m.read m.program).sessions number trace ms
    (message_trace number trace ds m apart.0 is) apart.1
