-- How what is sent piece by piece adds up.
use Rattle.std.proofs.Common.{◌≡◌, ◌≢◌, ℕ, suc, ◌<◌, ◌≤◌, Bool, true, false, List, [], ◌∷◌, ◌++◌, length, take, drop, Option, Err, if◌then◌else◌, refl, sym, ap, ◌∙◌, subst, arith, append_assoc}
use Rattle.std.proofs.lemmas.Grind.{flat_map-append}
use Rattle.std.proofs.lemmas.List.{append-nil, take-append-drop}
use Rattle.io_edge.specs.Told.{Gains}
use Rattle.io_edge.specs.LibraryCall.{LibraryCall}
use Rattle.io_edge.proofs.ToldLaws.{Gains-append, Gains-nil}
use Rattle.rpc_framing.specs.Frames.{frame}
use Rattle.hl_base.specs.declared.place.PathId.{PathId}
use Rattle.bulk_session.specs.Connection.{Connection}
use Rattle.bulk_session.specs.ConnectionVariants.{Running as StillRunning, Exit}
use Rattle.bulk_session.specs.State.{State}
use Rattle.bulk_session.specs.Step.{Effect, written}
use Rattle.bulk_session.specs.Step as step
use Rattle.bulk_session.specs.Turn.{turn}
use Rattle.bulk_session.proofs.TurnLaws.{turn_queue}
use Rattle.bulk_session.specs.Message.{message}
use Rattle.bulk_session.specs.SessionView.{SessionView, connection_of, Moves, GoesThrough, ComesOver}
use Rattle.bulk_session.specs.SessionFault.{SessionFault}
use Rattle.bulk_session.specs.SessionFaultVariants.{Spent, OutOfMemory}
use Rattle.hlasm_server.specs.Hearing.{Running, in_state, Made, none_made, behind, turns, following, Heard, Ends, goes_on, heard_in, heard_of, hear, said, MakesEach}
use Rattle.hlasm_server.specs.Sending.{PutsFront, PutsFirst, PutsUntil, IsReady, Follows, StopsFollowing, GoesOn, Closes, StopsHearing}
use Rattle.hlasm_server.specs.Waiting.{one_more, is_held, unasked, Asked, Asks}
use Rattle.hlasm_server.proofs.OutputLaws.{heard_makes}
use Rattle.hlasm_server.proofs.WaitingLaws.{Asked-append}
use Rattle.hlasm_server.specs.declared.sending.Stop.{Stop}
use Rattle.hlasm_server.specs.declared.sending.Stop.TheVariants as stop

-- ---- bytes

-- a front of the bytes was put, and these are left
pub record IsPutting (bytes left : List ℕ) (held_before held_now : Option (List ℕ)) (faults_before faults_now : ℕ) : Type 0 where
  pub done : List ℕ
  pub cut : bytes ≡ done ++ left
  pub put : Gains held_before done held_now
  pub later : faults_before ≤ faults_now

pub putting_begins : (bytes : List ℕ) (held : Option (List ℕ)) (faults : ℕ) → IsPutting bytes bytes held held faults faults
putting_begins bytes held faults = record { done = []; cut = refl; put = Gains-nil held; later = omega arith }

pub putting_goes_on : (bytes left : List ℕ) (h0 h1 h2 : Option (List ℕ)) (f0 f1 f2 n : ℕ) → IsPutting bytes left h0 h1 f0 f1 → Gains h1 (take n left) h2 → f1 ≤ f2 → IsPutting bytes (drop n left) h0 h2 f0 f2
putting_goes_on bytes left h0 h1 h2 f0 f1 f2 n putting gains later = record {
  done = putting.done ++ take n left;
  cut = putting.cut ∙ ap (λ z. putting.done ++ z) (sym (take-append-drop n left)) ∙ sym (append_assoc putting.done (take n left) (drop n left));
  put = Gains-append h0 h1 h2 putting.done (take n left) putting.put gains;
  later = let earlier = putting.later in omega arith;
}

-- what was put of the first bytes is put of more
PutsFront-more : (bytes more : List ℕ) (h0 h1 : Option (List ℕ)) → PutsFront h0 bytes h1 → PutsFront h0 (bytes ++ more) h1
PutsFront-more bytes more h0 h1 (front, rest, cut, gains) = (front, rest ++ more, ap (λ z. z ++ more) cut ∙ append_assoc front rest more, gains)

PutsFront-behind : (bytes more : List ℕ) (h0 h1 h2 : Option (List ℕ)) → Gains h0 bytes h1 → PutsFront h1 more h2 → PutsFront h0 (bytes ++ more) h2
PutsFront-behind bytes more h0 h1 h2 before (front, rest, cut, gains) =
    (bytes ++ front, rest, ap (λ z. bytes ++ z) cut ∙ sym (append_assoc bytes front rest), Gains-append h0 h1 h2 bytes front before gains)

PutsFirst-behind : (bodies more : List (List ℕ)) (h0 h1 h2 : Option (List ℕ)) → Gains h0 (written bodies) h1 → PutsFirst h1 more h2 → PutsFirst h0 (bodies ++ more) h2
PutsFirst-behind bodies more h0 h1 h2 before (first, others, cut, gains) = (
  bodies ++ first,
  others,
  ap (λ z. bodies ++ z) cut ∙ sym (append_assoc bodies first others),
  subst (λ z. Gains h0 z h2) (sym (flat_map-append frame bodies first)) (Gains-append h0 h1 h2 (written bodies) (written first) before gains),
)

-- ---- one Turn

-- a Turn leaves one program fewer
pub turn_leaves : (s : State) → s.queue ≢ [] → suc (length (turn s).state.queue) ≡ length s.queue
turn_leaves s some = ap (λ (q : List PathId). suc (length q)) (turn_queue s some) ∙ one_fewer s.queue some where
  one_fewer : (queue : List PathId) → queue ≢ [] → suc (length (drop 1 queue)) ≡ length queue
  one_fewer [] none = absurd (none refl)
  one_fewer (n ∷ others) some = refl

-- ---- an event

-- an event went to this state with these bodies, of a session whose output was taken
pub record Came (state : State) (bodies : List (List ℕ)) (now : SessionView) : Type 0 where
  pub state_is : now.state ≡ state
  pub output : now.output ≡ written bodies
  pub sound : now.spent ≡ false

pub came : (state : State) (bodies : List (List ℕ)) (before now : SessionView) → IsReady before → Moves state bodies before now → Came state bodies now
came state bodies before now ready moves = record {
  state_is = moves.state_is;
  output = moves.output_is ∙ ap (λ z. z ++ written bodies) ready.empty;
  sound = moves.sound_still;
}

-- its output is taken
pub ready_again : (state : State) (bodies : List (List ℕ)) (s t : SessionView) → Came state bodies s → t ≡ record s { output = [] } → IsReady t × (t.state ≡ state)
ready_again state bodies s t came is = (
  record { sound = ap (λ (h : SessionView). h.spent) is ∙ came.sound; empty = ap (λ (h : SessionView). h.output) is },
  ap (λ (h : SessionView). h.state) is ∙ came.state_is,
)

-- ---- Turns, one after another

-- the first Turn, if it is not held back, and the others
following-first : (s : State) (w : List Bool) (c : List LibraryCall) (n : ℕ) → s.queue ≢ [] → following (in_state s w c n) ≡
    (if is_held n w then none_made (in_state s (unasked n w) c n) else behind (turn s).bodies (following (in_state (turn s).state (unasked n w) c 0)))
following-first s w c n some = ap (λ k. turns k (in_state s w c n)) (sym (turn_leaves s some))

-- no Turn is made of no program
following-none : (s : State) (w : List Bool) (c : List LibraryCall) (n : ℕ) → s.queue ≡ [] → following (in_state s w c n) ≡ none_made (in_state s w c n)
following-none s w c n none = ap (λ (q : List PathId). turns (length q) (in_state s w c n)) none

-- a Turn that is not held back
following-turn : (s : State) (w more : List Bool) (c : List LibraryCall) (n : ℕ) → s.queue ≢ [] → is_held n w ≡ false → unasked n w ≡ more
    → following (in_state s w c n) ≡ behind (turn s).bodies (following (in_state (turn s).state more c 0))
following-turn s w more c n some held left =
    following-first s w c n some
    ∙ ap (λ b. if b then none_made (in_state s (unasked n w) c n) else behind (turn s).bodies (following (in_state (turn s).state (unasked n w) c 0))) held
    ∙ ap (λ z. behind (turn s).bodies (following (in_state (turn s).state z c 0))) left

-- a Turn that is held back
following-held : (s : State) (w more : List Bool) (c : List LibraryCall) (n : ℕ) → s.queue ≢ [] → is_held n w ≡ true → unasked n w ≡ more → following (in_state s w c n) ≡ none_made (in_state s more c n)
following-held s w more c n some held left =
    following-first s w c n some
    ∙ ap (λ b. if b then none_made (in_state s (unasked n w) c n) else behind (turn s).bodies (following (in_state (turn s).state (unasked n w) c 0))) held
    ∙ ap (λ z. none_made (in_state s z c n)) left

behind-behind : (first others : List (List ℕ)) (made : Made) → behind first (behind others made) ≡ behind (first ++ others) made
behind-behind first others made = ap (λ z. record { next = made.next; bodies = z }) (sym (append_assoc first others made.bodies))

behind-none : (bodies : List (List ℕ)) (r : Running) → behind bodies (none_made r) ≡ record { next = r; bodies = bodies }
behind-none bodies r = ap (λ z. record { next = r; bodies = z }) (append-nil bodies)

-- Some Turns were made, and what they publish was sent: the others are those of the state behind them.
pub record IsTurning (first now : SessionView) (since_first since : ℕ) (waits_before waits_now : Option (List Bool)) (held_before held_now : Option (List ℕ)) (faults_before faults_now : ℕ) : Type 0 where
  pub ready : IsReady now
  pub answers : List Bool
  pub asked : Asked waits_before answers waits_now
  pub done : List (List ℕ)
  pub made : (more : List Bool) (calls : List LibraryCall) → following (in_state first.state (answers ++ more) calls since_first) ≡ behind done (following (in_state now.state more calls since))
  pub sent : Gains held_before (written done) held_now
  pub later : faults_before ≤ faults_now

pub turning_begins : (s : SessionView) (n : ℕ) (waits : Option (List Bool)) (held : Option (List ℕ)) (faults : ℕ) → IsReady s → IsTurning s s n n waits waits held held faults faults
turning_begins s n waits held faults ready = record { ready = ready; answers = []; asked = refl; done = []; made = λ more calls. refl; sent = Gains-nil held; later = omega arith }

-- it was asked whether the next Turn is held back
pub asked_next : (s0 s1 : SessionView) (n0 n1 : ℕ) (w0 w1 w2 : Option (List Bool)) (h0 h1 : Option (List ℕ)) (f0 f1 : ℕ) (held : Bool) (turning : IsTurning s0 s1 n0 n1 w0 w1 h0 h1 f0 f1)
    (asks : Asks n1 held w1 w2) (more : List Bool) (calls : List LibraryCall)
    → following (in_state s0.state ((turning.answers ++ asks.answers) ++ more) calls n0) ≡ behind turning.done (following (in_state s1.state (asks.answers ++ more) calls n1))
asked_next s0 s1 n0 n1 w0 w1 w2 h0 h1 f0 f1 held turning asks more calls =
    ap (λ z. following (in_state s0.state z calls n0)) (append_assoc turning.answers asks.answers more) ∙ turning.made (asks.answers ++ more) calls

pub turning_goes_on : (s0 s1 s2 s3 : SessionView) (n0 n1 : ℕ) (w0 w1 w2 : Option (List Bool)) (h0 h1 h2 : Option (List ℕ)) (f0 f1 f2 : ℕ) → IsTurning s0 s1 n0 n1 w0 w1 h0 h1 f0 f1 → s1.state.queue ≢ []
    → Asks n1 false w1 w2 → Came (turn s1.state).state (turn s1.state).bodies s2 → s3 ≡ record s2 { output = [] } → Gains h1 s2.output h2 → f1 ≤ f2 → IsTurning s0 s3 n0 0 w0 w2 h0 h2 f0 f2
turning_goes_on s0 s1 s2 s3 n0 n1 w0 w1 w2 h0 h1 h2 f0 f1 f2 turning some asks came taken gains later =
    let here = turn s1.state in
    let again = ready_again here.state here.bodies s2 s3 came taken in
    let sent : Gains h1 (written here.bodies) h2 = subst (λ z. Gains h1 z h2) came.output gains in
    record {
      ready = again.0;
      answers = turning.answers ++ asks.answers;
      asked = Asked-append w0 w1 w2 turning.answers asks.answers turning.asked asks.asked;
      done = turning.done ++ here.bodies;
      made = λ more calls. asked_next s0 s1 n0 n1 w0 w1 w2 h0 h1 f0 f1 false turning asks more calls
          ∙ ap (behind turning.done) (following-turn s1.state (asks.answers ++ more) more calls n1 some (asks.held_back more) (asks.left more))
          ∙ behind-behind turning.done here.bodies (following (in_state here.state more calls 0))
          ∙ ap (λ (z : State). behind (turning.done ++ here.bodies) (following (in_state z more calls 0))) (sym again.1);
      sent = subst (λ z. Gains h0 z h2) (sym (flat_map-append frame turning.done here.bodies))
          (Gains-append h0 h1 h2 (written turning.done) (written here.bodies) turning.sent sent);
      later = let earlier = turning.later in omega arith;
    }

-- a Turn leaves fewer programs
pub fewer_queued : (s1 s2 s3 : SessionView) → s1.state.queue ≢ [] → Came (turn s1.state).state (turn s1.state).bodies s2 → s3 ≡ record s2 { output = [] } → length s3.state.queue < length s1.state.queue
fewer_queued s1 s2 s3 some came taken =
    let again = ready_again (turn s1.state).state (turn s1.state).bodies s2 s3 came taken in
    let same : length s3.state.queue ≡ length (turn s1.state).state.queue = ap (λ (z : State). length z.queue) again.1 in
    omega (arith, turn_leaves s1.state some)

-- where the queue is empty, all were made
pub turning_ends : (s0 s1 : SessionView) (n0 n1 : ℕ) (w0 w1 : Option (List Bool)) (h0 h1 : Option (List ℕ)) (f0 f1 : ℕ) → IsTurning s0 s1 n0 n1 w0 w1 h0 h1 f0 f1 → s1.state.queue ≡ []
    → Follows s0.state n0 s1.state n1 w0 w1 h0 h1
turning_ends s0 s1 n0 n1 w0 w1 h0 h1 f0 f1 turning none = record {
  answers = turning.answers;
  bodies = turning.done;
  asked = turning.asked;
  made = λ more calls. turning.made more calls ∙ ap (behind turning.done) (following-none s1.state more calls n1 none) ∙ behind-none turning.done (in_state s1.state more calls n1);
  sent = turning.sent;
}

-- where the next is held back, no other is made
pub turning_holds : (s0 s1 : SessionView) (n0 n1 : ℕ) (w0 w1 w2 : Option (List Bool)) (h0 h1 : Option (List ℕ)) (f0 f1 : ℕ) → IsTurning s0 s1 n0 n1 w0 w1 h0 h1 f0 f1 → s1.state.queue ≢ []
    → Asks n1 true w1 w2 → Follows s0.state n0 s1.state n1 w0 w2 h0 h1
turning_holds s0 s1 n0 n1 w0 w1 w2 h0 h1 f0 f1 turning some asks = record {
  answers = turning.answers ++ asks.answers;
  bodies = turning.done;
  asked = Asked-append w0 w1 w2 turning.answers asks.answers turning.asked asks.asked;
  made = λ more calls. asked_next s0 s1 n0 n1 w0 w1 w2 h0 h1 f0 f1 true turning asks more calls
      ∙ ap (behind turning.done) (following-held s1.state (asks.answers ++ more) more calls n1 some (asks.held_back more) (asks.left more)) ∙ behind-none turning.done (in_state s1.state more calls n1);
  sent = turning.sent;
}

-- where memory runs out before a Turn, what the first of them publish was sent
pub turning_stops : (s0 s1 : SessionView) (n0 n1 : ℕ) (w0 w1 w2 : Option (List Bool)) (h0 h1 : Option (List ℕ)) (f0 f1 : ℕ) → IsTurning s0 s1 n0 n1 w0 w1 h0 h1 f0 f1
    → Asks n1 false w1 w2 → StopsFollowing stop.OutOfMemory s0.state n0 w0 w2 h0 h1
turning_stops s0 s1 n0 n1 w0 w1 w2 h0 h1 f0 f1 turning asks = record {
  answers = turning.answers ++ asks.answers;
  asked = Asked-append w0 w1 w2 turning.answers asks.answers turning.asked asks.asked;
  put = λ calls. (turning.done, (following (in_state s1.state asks.answers calls n1)).bodies, ap (λ (z : Made). z.bodies) (turning.made asks.answers calls), turning.sent);
}

-- where the sink refuses within a Turn, it has a front of all of them
pub turning_breaks : (s0 s1 s2 : SessionView) (n0 n1 : ℕ) (w0 w1 w2 : Option (List Bool)) (h0 h1 h2 : Option (List ℕ)) (f0 f1 : ℕ) → IsTurning s0 s1 n0 n1 w0 w1 h0 h1 f0 f1 → s1.state.queue ≢ []
    → Asks n1 false w1 w2 → Came (turn s1.state).state (turn s1.state).bodies s2 → PutsFront h1 s2.output h2 → StopsFollowing stop.WriteFault s0.state n0 w0 w2 h0 h2
turning_breaks s0 s1 s2 n0 n1 w0 w1 w2 h0 h1 h2 f0 f1 turning some asks came front = record {
  answers = (turning.answers ++ asks.answers) ++ [];
  asked = subst (λ z. Asked w0 z w2) (sym (append-nil (turning.answers ++ asks.answers))) (Asked-append w0 w1 w2 turning.answers asks.answers turning.asked asks.asked);
  put = λ calls. broken calls;
}
  where
    here : Effect
    here = turn s1.state

    broken : (calls : List LibraryCall) → PutsFront h0 (written (following (in_state s0.state ((turning.answers ++ asks.answers) ++ []) calls n0)).bodies) h2
    broken calls =
        let others = (following (in_state here.state [] calls 0)).bodies in
        let now : PutsFront h1 (written here.bodies) h2 = subst (λ z. PutsFront h1 z h2) came.output front in
        let more : PutsFront h1 (written (here.bodies ++ others)) h2 = subst (λ z. PutsFront h1 z h2) (sym (flat_map-append frame here.bodies others))
        (PutsFront-more (written here.bodies) (written others) h1 h2 now) in
        let is : following (in_state s0.state ((turning.answers ++ asks.answers) ++ []) calls n0) ≡ behind turning.done (behind here.bodies (following (in_state here.state [] calls 0))) =
        asked_next s0 s1 n0 n1 w0 w1 w2 h0 h1 f0 f1 false turning asks [] calls ∙ ap (behind turning.done) (following-turn s1.state (asks.answers ++ []) [] calls n1 some (asks.held_back []) (asks.left [])) in
        let all : written (following (in_state s0.state ((turning.answers ++ asks.answers) ++ []) calls n0)).bodies ≡ written turning.done ++ written (here.bodies ++ others) =
        ap (λ (z : Made). written z.bodies) is ∙ flat_map-append frame turning.done (here.bodies ++ others) in
        subst (λ z. PutsFront h0 z h2) (sym all) (PutsFront-behind (written turning.done) (written (here.bodies ++ others)) h0 h1 h2 turning.sent more)

-- ---- one message

-- An event that made these calls has gone to its state, of a session whose output was taken.
pub record CameBy (s : State) (body : List ℕ) (calls : List LibraryCall) (now : SessionView) : Type 0 where
  pub state : State
  pub bodies : List (List ℕ)
  pub goes : (more : List LibraryCall) → message s body (calls ++ more) ≡ step.Goes state bodies more
  pub came : Came state bodies now

pub came_by : (s : State) (body : List ℕ) (calls : List LibraryCall) (before now : SessionView) → IsReady before → GoesThrough (message s body) calls before now → CameBy s body calls now
came_by s body calls before now ready through = record {
  state = through.state;
  bodies = through.bodies;
  goes = through.goes;
  came = came through.state through.bodies before now ready through.moves;
}

-- the connection that is answered is that of the state behind it
connection_is : (state : State) (bodies : List (List ℕ)) (now : SessionView) (connection : Connection) → Came state bodies now → connection ≡ connection_of now.state → connection_of state ≡ connection
connection_is state bodies now connection came is = ap connection_of (sym came.state_is) ∙ sym is

-- what a message comes to whose session goes on
hear-Running : (s : State) (w : List Bool) (c rest : List LibraryCall) (n : ℕ) (body : List ℕ) (t : State) (bodies : List (List ℕ)) → message s body c ≡ step.Goes t bodies rest → connection_of t ≡ StillRunning
    → hear (in_state s w c n) body ≡ goes_on bodies (following (in_state t w rest (one_more n)))
unfolding hear
hear-Running s w c rest n body t bodies goes is = ap (heard_of (in_state s w c n)) goes ∙ ap (λ (p : Connection). heard_in p (in_state s w c n) t bodies rest) is

hear-Exit : (s : State) (w : List Bool) (c rest : List LibraryCall) (n : ℕ) (body : List ℕ) (closed : Bool) (t : State) (bodies : List (List ℕ)) → message s body c ≡ step.Goes t bodies rest → connection_of t ≡ Exit closed
    → hear (in_state s w c n) body ≡ Ends closed rest
unfolding hear
hear-Exit s w c rest n body closed t bodies goes is = ap (heard_of (in_state s w c n)) goes ∙ ap (λ (p : Connection). heard_in p (in_state s w c n) t bodies rest) is

-- where these calls are all that are to come, each was made
none_more : (s : State) (body : List ℕ) (calls : List LibraryCall) (now : SessionView) (by : CameBy s body calls now) → message s body calls ≡ step.Goes by.state by.bodies []
none_more s body calls now by = ap (message s body) (sym (append-nil calls)) ∙ by.goes []

makes_calls : (s : State) (w : List Bool) (n : ℕ) (body : List ℕ) (calls : List LibraryCall) → step.MakesAll (message s body calls) → MakesEach (hear (in_state s w calls n) body)
unfolding hear
makes_calls s w n body calls makes = heard_makes (in_state s w calls n) (message s body calls) makes

makes_its_calls : (s : State) (w : List Bool) (n : ℕ) (body : List ℕ) (calls : List LibraryCall) (now : SessionView) → CameBy s body calls now → MakesEach (hear (in_state s w calls n) body)
makes_its_calls s w n body calls now by =
    let all : step.MakesAll (step.Goes by.state by.bodies []) = refl in
    makes_calls s w n body calls (subst step.MakesAll (sym (none_more s body calls now by)) all)

-- memory ran out before anything was written; a session that has memory was not spent before
pub stopped_before : {T : Type 0} (fault : SessionFault) (s now : SessionView) (n : ℕ) (body : List ℕ) (w : Option (List Bool)) (c d : Option (List LibraryCall)) (h : Option (List ℕ)) → IsReady s
    → ComesOver {T = T} (Err fault) (message s.state body) c d s now → StopsHearing stop.OutOfMemory s.state n body w w c d h h
stopped_before OutOfMemory s now n body w c d h ready over = record {
  answers = [];
  calls = over.calls;
  asked = refl;
  made = over.made;
  makes = makes_calls s.state [] n body over.calls over.comes.0;
  put = ([], said (hear (in_state s.state [] over.calls n) body), refl, Gains-nil h);
}
stopped_before Spent s now n body w c d h ready over = absurd (spent_and_sound (sym over.comes.1.spent ∙ ready.sound)) where
  spent_and_sound : true ≡ false → ⊥
  spent_and_sound e = cc

-- the session is at its end
pub heard_end : (s : State) (n : ℕ) (body : List ℕ) (closed : Bool) (calls : List LibraryCall) (now : SessionView) (w : Option (List Bool)) (c d : Option (List LibraryCall)) (h : Option (List ℕ)) → CameBy s body calls now
    → Gains c calls d → Exit closed ≡ connection_of now.state → Closes s n body closed w w c d h h
heard_end s n body closed calls now w c d h by gains is = record {
  calls = calls;
  made = gains;
  heard = λ waits rest. hear-Exit s waits (calls ++ rest) rest n body closed by.state by.bodies (by.goes rest) (connection_is by.state by.bodies now (Exit closed) by.came is);
  asked = refl;
  sent = refl;
}

-- the message itself could not all be written
pub broken_before_turns : (s : State) (n : ℕ) (body : List ℕ) (calls : List LibraryCall) (now : SessionView) (w : Option (List Bool)) (c d : Option (List LibraryCall)) (h0 h1 : Option (List ℕ)) → CameBy s body calls now
    → Gains c calls d → StillRunning ≡ connection_of now.state → PutsFront h0 now.output h1 → StopsHearing stop.WriteFault s n body w w c d h0 h1
broken_before_turns s n body calls now w c d h0 h1 by gains is front =
    let others = (following (in_state by.state [] [] (one_more n))).bodies in
    let goes = hear-Running s [] calls [] n body by.state by.bodies (none_more s body calls now by) (connection_is by.state by.bodies now StillRunning by.came is) in
    let here : PutsFront h0 (written by.bodies) h1 = subst (λ z. PutsFront h0 z h1) by.came.output front in
    let more : PutsFront h0 (written (by.bodies ++ others)) h1 = subst (λ z. PutsFront h0 z h1) (sym (flat_map-append frame by.bodies others))
    (PutsFront-more (written by.bodies) (written others) h0 h1 here) in
    record {
      answers = [];
      calls = calls;
      asked = refl;
      made = gains;
      makes = makes_its_calls s [] n body calls now by;
      put = subst (λ (z : Heard). PutsFront h0 (written (said z)) h1) (sym goes) more;
    }

-- a Turn could not be made, or what it publishes not all be written
pub broken_in_turns : (e : Stop) (s : State) (n : ℕ) (body : List ℕ) (calls : List LibraryCall) (now after : SessionView) (w0 w1 : Option (List Bool)) (c d : Option (List LibraryCall)) (h0 h1 h2 : Option (List ℕ)) → CameBy s body calls now
    → Gains c calls d → StillRunning ≡ connection_of now.state → after ≡ record now { output = [] } → Gains h0 now.output h1 → StopsFollowing e after.state (one_more n) w0 w1 h1 h2 → StopsHearing e s n body w0 w1 c d h0 h2
broken_in_turns e s n body calls now after w0 w1 c d h0 h1 h2 by made is taken gains stops =
    let goes = hear-Running s stops.answers calls [] n body by.state by.bodies (none_more s body calls now by) (connection_is by.state by.bodies now StillRunning by.came is) in
    let again = ready_again by.state by.bodies now after by.came taken in
    let sent : Gains h0 (written by.bodies) h1 = subst (λ z. Gains h0 z h1) by.came.output gains in
    let here : PutsUntil e h1 (following (in_state by.state stops.answers [] (one_more n))).bodies h2 =
    subst (λ (z : State). PutsUntil e h1 (following (in_state z stops.answers [] (one_more n))).bodies h2) again.1 (stops.put []) in
    record {
      answers = stops.answers;
      calls = calls;
      asked = stops.asked;
      made = made;
      makes = makes_its_calls s stops.answers n body calls now by;
      put = subst (λ (z : Heard). PutsUntil e h0 (said z) h2) (sym goes) (until_behind e by.bodies (following (in_state by.state stops.answers [] (one_more n))).bodies sent here);
    }
  where
    until_behind : (e : Stop) (bodies more : List (List ℕ)) → Gains h0 (written bodies) h1 → PutsUntil e h1 more h2 → PutsUntil e h0 (bodies ++ more) h2
    until_behind stop.OutOfMemory bodies more sent put = PutsFirst-behind bodies more h0 h1 h2 sent put
    until_behind stop.WriteFault bodies more sent put =
        subst (λ z. PutsFront h0 z h2) (sym (flat_map-append frame bodies more)) (PutsFront-behind (written bodies) (written more) h0 h1 h2 sent put)

-- a message and the Turns that follow were written
pub heard_whole : (s t : State) (n m : ℕ) (body : List ℕ) (calls : List LibraryCall) (now after : SessionView) (w0 w1 : Option (List Bool)) (c d : Option (List LibraryCall)) (h0 h1 h2 : Option (List ℕ)) → CameBy s body calls now
    → Gains c calls d → StillRunning ≡ connection_of now.state → after ≡ record now { output = [] } → Gains h0 now.output h1 → Follows after.state (one_more n) t m w0 w1 h1 h2 → GoesOn s n body t m w0 w1 c d h0 h2
heard_whole s t n m body calls now after w0 w1 c d h0 h1 h2 by made is taken gains follows =
    let again = ready_again by.state by.bodies now after by.came taken in
    let sent : Gains h0 (written by.bodies) h1 = subst (λ z. Gains h0 z h1) by.came.output gains in
    record {
      answers = follows.answers;
      calls = calls;
      bodies = by.bodies ++ follows.bodies;
      asked = follows.asked;
      made = made;
      heard = λ more rest. hear-Running s (follows.answers ++ more) (calls ++ rest) rest n body by.state by.bodies (by.goes rest) (connection_is by.state by.bodies now StillRunning by.came is)
          ∙ ap (λ (z : State). goes_on by.bodies (following (in_state z (follows.answers ++ more) rest (one_more n)))) (sym again.1)
          ∙ ap (goes_on by.bodies) (follows.made more rest);
      sent = subst (λ z. Gains h0 z h2) (sym (flat_map-append frame by.bodies follows.bodies))
          (Gains-append h0 h1 h2 (written by.bodies) (written follows.bodies) sent follows.sent);
    }
