-- A session that was served so far, and each way in which it comes to its end.
use Rattle.std.proofs.Common.{◌≡◌, ℕ, ◌+◌, ◌-◌, ◌<◌, ◌≤◌, Bool, true, false, List, [], ◌∷◌, ◌++◌, length, take, Option, Some, None, Err, refl, sym, ap, ◌∙◌, subst, arith, length-append, append_assoc}
use Rattle.std.proofs.lemmas.Grind.{flat_map-append}
use Rattle.std.proofs.lemmas.List.{append-nil}
use Rattle.std.proofs.Math.Seq.{take-append_seam}
use Rattle.io_edge.specs.Told.{Gives, Gains, IsAtEnd}
use Rattle.io_edge.specs.LibraryCall.{LibraryCall}
use Rattle.io_edge.proofs.ToldLaws.{Gives-nil, Gives-append, Gains-nil, Gains-append, HasRisen-widen}
use Rattle.rpc_framing.specs.Frames.{IsFrame, IsFrames, IsPartial, IsBadStart, frame}
use Rattle.rpc_framing.specs.Reading.{Reading}
use Rattle.rpc_framing.proofs.FrameLaws.{IsFrames-one, length-IsFrame}
use Rattle.rpc_framing.proofs.Splitting.{IsFrames-append, IsBadStart-append}
use Rattle.hlasm_server.specs.declared.status.Status.{Status}
use Rattle.hlasm_server.specs.declared.status.Status.TheVariants.{Done, NoShutdown, InputEnded, OutOfMemory, ReadFault, WriteFault, BadFrame, BadWords, InputTooLong}
use Rattle.bulk_session.specs.Connection.{Connection}
use Rattle.bulk_session.specs.Step.{written}
use Rattle.bulk_session.specs.SessionView.{SessionView, beginning}
use Rattle.hlasm_server.specs.Hearing.{Running, Heard, Goes, Ends, Lacks, Differs, in_state, beginning_with, hear, said, MakesEach}
use Rattle.hlasm_server.specs.Output.{Leads, Meets, most_input, Finished, EndsAt, Course, end_of, Out}
use Rattle.hlasm_server.specs.Headline.{Whole, FirstFrames, FirstBytes, IsAnswer, IsPlainRun, HasStatusCause}
use Rattle.hlasm_server.specs.Status.{status_of}
use Rattle.hlasm_server.specs.declared.sending.Stop.{Stop}
use Rattle.hlasm_server.specs.declared.sending.Stop.TheVariants as stop
use Rattle.hlasm_server.specs.Feeding.{IsBetweenFrames}
use Rattle.hlasm_server.specs.Sending.{PutsFront, PutsFirst, IsReady, GoesOn, Closes, StopsHearing, HasStopCause}
use Rattle.hlasm_server.specs.Waiting.{Asked}
use Rattle.hlasm_server.proofs.WaitingLaws.{Asked-append}
use Rattle.hlasm_server.proofs.OutputLaws.{some_out, Course-here, Course-behind, Leads-append, met_frame}

-- What was heard and written so far, where the session stands open between two frames.
pub record IsServing (budget : ℕ) (left_before left_now held_before held_now : Option (List ℕ)) (waits_before waits_now : Option (List Bool)) (calls_before calls_now : Option (List LibraryCall))
    (source_before source_now sink_before sink_now : ℕ) (session : SessionView) (since : ℕ) (reader : Reading) : Type 0 where
  pub front : List ℕ
  pub bodies : List (List ℕ)
  pub replies : List (List ℕ)
  pub answers : List Bool
  pub calls : List LibraryCall
  pub asked : Asked waits_before answers waits_now
  pub made : Gains calls_before calls calls_now
  pub whole : IsFrames front bodies
  pub heard : (more : List Bool) (rest : List LibraryCall) → Leads (beginning_with budget (answers ++ more) (calls ++ rest)) bodies (in_state session.state more rest since) replies
  pub ready : IsReady session
  pub read : Gives left_before front left_now
  pub wrote : Gains held_before (written replies) held_now
  pub between : IsBetweenFrames reader
  pub fed : reader.fed ≡ length front
  pub within : reader.fed ≤ most_input
  pub source_later : source_before ≤ source_now
  pub sink_later : sink_before ≤ sink_now

-- what is told of the input, where this was taken of it
pub record Took (bytes taken : List ℕ) : Type 0 where
  pub rest : List ℕ
  pub is : bytes ≡ taken ++ rest

pub took : (before now : Option (List ℕ)) (taken bytes : List ℕ) → Gives before taken now → before ≡ Some bytes → Took bytes taken
took before None taken bytes gives told = let none : Some bytes ≡ None = sym told ∙ gives in cc
took before (Some rest) taken bytes gives told = let same : Some bytes ≡ Some (taken ++ rest) = sym told ∙ gives in record { rest = rest; is = cc }

-- where nothing more comes, all of the input was taken
pub took_all : (before now : Option (List ℕ)) (taken bytes : List ℕ) → Gives before taken now → IsAtEnd now → before ≡ Some bytes → bytes ≡ taken
took_all before None taken bytes gives end told = let none : Some bytes ≡ None = sym told ∙ gives in cc
took_all before (Some rest) taken bytes gives end told =
    let same : Some bytes ≡ Some (taken ++ rest) = sym told ∙ gives in
    let is : bytes ≡ taken ++ rest = cc in
    is ∙ ap (λ z. taken ++ z) end ∙ append-nil taken

-- ---- the output from here

-- what was heard before, and an end with this status, at which no call of the library is left
whole_at : (from s : Running) (bodies : List (List ℕ)) (front tail : List ℕ) (replies : List (List ℕ)) (status : Status) (place : ℕ)
    → IsFrames front bodies → Leads from bodies s replies → length front + place ≤ most_input → EndsAt s (length front) tail (Finished status []) place
    → Out from 0 (front ++ tail) replies (Some status) (length front + place)
whole_at from s bodies front tail replies status place frames leads room end =
    let first : length front ≡ 0 + length front = omega arith in
    let end_here : EndsAt s (0 + length front) tail (Finished status []) place = subst (λ k. EndsAt s k tail (Finished status []) place) first end in
    let here : Course s (0 + length front) tail [] (Finished status []) place = Course-here s (0 + length front) tail (Finished status []) place (omega arith) end_here in
    subst (λ z. Out from 0 (front ++ tail) z (Some status) (length front + place)) (append-nil replies)
    (Course-behind bodies from s 0 front tail replies [] (Finished status []) place frames leads here)

-- what was heard before, and some output of what follows
out_at : (from s : Running) (bodies : List (List ℕ)) (front tail : List ℕ) (replies more : List (List ℕ)) (status : Option Status) (taken : ℕ)
    → IsFrames front bodies → Leads from bodies s replies → Out s (0 + length front) tail more status taken
    → Out from 0 (front ++ tail) (replies ++ more) status (length front + taken)
out_at from s bodies front tail replies more status taken frames leads o =
    Course-behind bodies from s 0 front tail replies more (end_of status) taken frames leads o

-- a frame is next: an output that begins with what is written for its body
pub record OutMeeting (s : Running) (before : ℕ) (tail body : List ℕ) : Type 0 where
  pub more : List (List ℕ)
  pub status : Option Status
  pub taken : ℕ
  pub out : Out s before tail (said (hear s body) ++ more) status taken

-- the session ends with it, and each of the calls to come was made
out_ending : (heard : Heard) (status : Option Status) (s : Running) (before : ℕ) (f rest body : List ℕ) → IsFrame f body → before + length f ≤ most_input → hear s body ≡ heard
    → EndsAt s before (f ++ rest) (end_of status) (length f) → said heard ≡ [] → OutMeeting s before (f ++ rest) body
out_ending heard status s before f rest body is room ends at silent =
    let says : [] ≡ said (hear s body) = sym (ap said ends ∙ silent) in
    record {
      more = [];
      status = status;
      taken = length f;
      out = subst (λ z. Out s before (f ++ rest) (z ++ []) status (length f)) says (Course-here s before (f ++ rest) (end_of status) (length f) room at);
    }

-- where each of the calls to come was made for it
out_meeting : (s : Running) (before : ℕ) (f rest body : List ℕ) → MakesEach (hear s body) → IsFrame f body → before + length f ≤ most_input → OutMeeting s before (f ++ rest) body
out_meeting s before f rest body makes is room = by_heard (hear s body) refl where
  there : (heard : Heard) → hear s body ≡ heard → Meets s (f ++ rest) heard (length f)
  there heard e = met_frame body s f rest heard is e

  by_heard : (heard : Heard) → hear s body ≡ heard → OutMeeting s before (f ++ rest) body
  by_heard (Goes next first) e =
      let none : next.calls ≡ [] = subst MakesEach e makes in
      let o = some_out next (before + length f) rest none room in
      let says : first ≡ said (hear s body) = ap said (sym e) in
      let frames : IsFrames f (body ∷ []) = IsFrames-one f body is in
      let leads : Leads s (body ∷ []) next first = (next, first, [], e, (refl, refl), sym (append-nil first)) in
      record {
        more = o.replies;
        status = o.status;
        taken = length f + o.taken;
        out = subst (λ z. Out s before (f ++ rest) (z ++ o.replies) o.status (length f + o.taken)) says
            (Course-behind (body ∷ []) s next before f rest first o.replies (end_of o.status) o.taken frames leads o.out);
      }
  by_heard (Ends true left) e =
      let none : left ≡ [] = subst MakesEach e makes in
      out_ending (Ends true left) (Some Done) s before f rest body is room e (there (Ends true []) (e ∙ ap (Ends true) none)) refl
  by_heard (Ends false left) e =
      let none : left ≡ [] = subst MakesEach e makes in
      out_ending (Ends false left) (Some NoShutdown) s before f rest body is room e (there (Ends false []) (e ∙ ap (Ends false) none)) refl
  by_heard Lacks e = out_ending Lacks None s before f rest body is room e (there Lacks e) refl
  by_heard Differs e = absurd (subst MakesEach e makes)

-- ---- the beginning, and a message more

-- a reader to which nothing was fed stands between two frames
pub between_at_first : (r : Reading) → r ≡ record { ready = []; rest = []; fed = 0; fault = None } → IsBetweenFrames r × (r.fed ≡ 0)
between_at_first r is = (
  record { ready = ap (λ (z : Reading). z.ready) is; rest = ap (λ (z : Reading). z.rest) is; sound = ap (λ (z : Reading). z.fault) is },
  ap (λ (z : Reading). z.fed) is,
)

pub serving_begins : (b : ℕ) (left held : Option (List ℕ)) (waits : Option (List Bool)) (calls : Option (List LibraryCall)) (source sink : ℕ) (reader : Reading) → IsBetweenFrames reader → reader.fed ≡ 0
    → IsServing b left left held held waits waits calls calls source source sink sink (beginning b) 0 reader
serving_begins b left held waits calls source sink reader between fed = record {
  front = [];
  bodies = [];
  replies = [];
  answers = [];
  calls = [];
  asked = refl;
  made = Gains-nil calls;
  whole = refl;
  heard = λ more rest. (refl, refl);
  ready = record { sound = refl; empty = refl };
  read = Gives-nil left;
  wrote = Gains-nil held;
  between = between;
  fed = fed;
  within = omega (arith, fed);
  source_later = omega arith;
  sink_later = omega arith;
}

-- reading asks nothing
pub nothing_asked : (b : ℕ) (l0 l1 h0 h1 : Option (List ℕ)) (w0 w1 w2 : Option (List Bool)) (c0 c1 : Option (List LibraryCall)) (f0 f1 k0 k1 : ℕ) (s : SessionView) (n : ℕ) (r : Reading) → w2 ≡ w1
    → IsServing b l0 l1 h0 h1 w0 w1 c0 c1 f0 f1 k0 k1 s n r → IsServing b l0 l1 h0 h1 w0 w2 c0 c1 f0 f1 k0 k1 s n r
nothing_asked b l0 l1 h0 h1 w0 w1 w2 c0 c1 f0 f1 k0 k1 s n r same serving = subst (λ (z : Option (List Bool)). IsServing b l0 l1 h0 h1 w0 z c0 c1 f0 f1 k0 k1 s n r) (sym same) serving

-- one message, behind those before it
heard_more : (from s t : Running) (bodies : List (List ℕ)) (body : List ℕ) (replies more : List (List ℕ)) → Leads from bodies s replies → hear s body ≡ Goes t more
    → Leads from (bodies ++ body ∷ []) t (replies ++ more)
heard_more from s t bodies body replies more leads goes = Leads-append bodies (body ∷ []) from s t replies more leads (t, more, [], goes, (refl, refl), sym (append-nil more))

pub serving_goes_on : (b : ℕ) (l0 l1 l2 h0 h1 h2 : Option (List ℕ)) (w0 w1 w2 : Option (List Bool)) (c0 c1 c2 : Option (List LibraryCall)) (f0 f1 f2 k0 k1 k2 : ℕ) (s t : SessionView) (n m : ℕ) (r q : Reading) (f body : List ℕ)
    → IsServing b l0 l1 h0 h1 w0 w1 c0 c1 f0 f1 k0 k1 s n r → IsFrame f body → Gives l1 f l2 → IsBetweenFrames q → q.fed ≡ r.fed + length f → q.fed ≤ most_input
    → IsReady t → GoesOn s.state n body t.state m w1 w2 c1 c2 h1 h2 → f1 ≤ f2 → k1 ≤ k2
    → IsServing b l0 l2 h0 h2 w0 w2 c0 c2 f0 f2 k0 k2 t m q
serving_goes_on b l0 l1 l2 h0 h1 h2 w0 w1 w2 c0 c1 c2 f0 f1 f2 k0 k1 k2 s t n m r q f body serving is gives between fed room ready goes source sink = record {
  front = serving.front ++ f;
  bodies = serving.bodies ++ body ∷ [];
  replies = serving.replies ++ goes.bodies;
  answers = serving.answers ++ goes.answers;
  calls = serving.calls ++ goes.calls;
  asked = Asked-append w0 w1 w2 serving.answers goes.answers serving.asked goes.asked;
  made = Gains-append c0 c1 c2 serving.calls goes.calls serving.made goes.made;
  whole = IsFrames-append serving.bodies (body ∷ []) serving.front f serving.whole (IsFrames-one f body is);
  ready = ready;
  heard = λ more rest. heard_behind serving.answers goes.answers more serving.calls goes.calls rest (serving.heard (goes.answers ++ more) (goes.calls ++ rest)) (goes.heard more rest);
  read = Gives-append l0 l1 l2 serving.front f serving.read gives;
  wrote = subst (λ z. Gains h0 z h2) (sym (flat_map-append frame serving.replies goes.bodies))
      (Gains-append h0 h1 h2 (written serving.replies) (written goes.bodies) serving.wrote goes.sent);
  between = between;
  fed = let before = serving.fed in omega (arith, length-append serving.front f);
  within = room;
  source_later = let earlier = serving.source_later in omega arith;
  sink_later = let earlier = serving.sink_later in omega arith;
}
  where
    heard_behind : (x y more : List Bool) (u v rest : List LibraryCall)
        → Leads (beginning_with b (x ++ (y ++ more)) (u ++ (v ++ rest))) serving.bodies (in_state s.state (y ++ more) (v ++ rest) n) serving.replies
        → hear (in_state s.state (y ++ more) (v ++ rest) n) body ≡ Goes (in_state t.state more rest m) goes.bodies
        → Leads (beginning_with b ((x ++ y) ++ more) ((u ++ v) ++ rest)) (serving.bodies ++ body ∷ []) (in_state t.state more rest m) (serving.replies ++ goes.bodies)
    heard_behind x y more u v rest leads next =
        subst (λ z. Leads (beginning_with b z ((u ++ v) ++ rest)) (serving.bodies ++ body ∷ []) (in_state t.state more rest m) (serving.replies ++ goes.bodies)) (sym (append_assoc x y more))
        (subst (λ z. Leads (beginning_with b (x ++ (y ++ more)) z) (serving.bodies ++ body ∷ []) (in_state t.state more rest m) (serving.replies ++ goes.bodies)) (sym (append_assoc u v rest))
        (heard_more (beginning_with b (x ++ (y ++ more)) (u ++ (v ++ rest))) (in_state s.state (y ++ more) (v ++ rest) n) (in_state t.state more rest m) serving.bodies body serving.replies goes.bodies leads next))

-- a frame that was taken leaves fewer bytes that may be
pub frame_falls : (fed more : ℕ) (f body : List ℕ) → IsFrame f body → more ≡ fed + length f → more ≤ most_input → most_input - more < most_input - fed
frame_falls fed more f body is sum room = let some = (length-IsFrame f body is).0 in omega arith

-- what was heard, with the answers that were given so far, the calls that were made, and no others
heard_so_far : (b : ℕ) (l0 l1 h0 h1 : Option (List ℕ)) (w0 w1 : Option (List Bool)) (c0 c1 : Option (List LibraryCall)) (f0 f1 k0 k1 : ℕ) (s : SessionView) (n : ℕ) (r : Reading) (serving : IsServing b l0 l1 h0 h1 w0 w1 c0 c1 f0 f1 k0 k1 s n r)
    → Leads (beginning_with b serving.answers serving.calls) serving.bodies (in_state s.state [] [] n) serving.replies
heard_so_far b l0 l1 h0 h1 w0 w1 c0 c1 f0 f1 k0 k1 s n r serving =
    subst (λ z. Leads (beginning_with b z serving.calls) serving.bodies (in_state s.state [] [] n) serving.replies) (append-nil serving.answers)
    (subst (λ z. Leads (beginning_with b (serving.answers ++ []) z) serving.bodies (in_state s.state [] [] n) serving.replies) (append-nil serving.calls) (serving.heard [] []))

-- ---- the ends

-- the input ended within a frame, or the source refused there
ends_within_frame : (b : ℕ) (l0 l1 h0 h1 : Option (List ℕ)) (w0 w1 : Option (List Bool)) (c0 c1 : Option (List LibraryCall)) (f0 f1 k0 k1 : ℕ) (s : SessionView) (n : ℕ) (r : Reading) (t : List ℕ)
    → (serving : IsServing b l0 l1 h0 h1 w0 w1 c0 c1 f0 f1 k0 k1 s n r) → IsPartial t → r.fed + length t < most_input
    → Whole b serving.answers serving.calls (serving.front ++ t) InputEnded (length (serving.front ++ t)) (written serving.replies)
ends_within_frame b l0 l1 h0 h1 w0 w1 c0 c1 f0 f1 k0 k1 s n r t serving partial few =
    let fed = serving.fed in
    let less : length serving.front + length t < most_input = omega arith in
    let size : length serving.front + length t ≡ length (serving.front ++ t) = sym (length-append serving.front t) in
    let so_far = heard_so_far b l0 l1 h0 h1 w0 w1 c0 c1 f0 f1 k0 k1 s n r serving in
    record {
      replies = serving.replies;
      out = subst (Out (beginning_with b serving.answers serving.calls) 0 (serving.front ++ t) serving.replies (Some InputEnded)) size
          (whole_at (beginning_with b serving.answers serving.calls) (in_state s.state [] [] n) serving.bodies serving.front t serving.replies InputEnded (length t) serving.whole so_far (omega arith) (partial, refl, less, refl));
      all = refl;
    }

-- the input had less than a whole frame left
pub ends_with_input : (b : ℕ) (l0 l1 l2 h0 h1 : Option (List ℕ)) (w0 w1 : Option (List Bool)) (c0 c1 : Option (List LibraryCall)) (f0 f1 k0 k1 : ℕ) (s : SessionView) (n : ℕ) (r : Reading) (t : List ℕ)
    → IsServing b l0 l1 h0 h1 w0 w1 c0 c1 f0 f1 k0 k1 s n r → Gives l1 t l2 → IsPartial t → IsAtEnd l2 → r.fed + length t < most_input → IsPlainRun b w0 w1 c0 c1 l0 l2 h0 h1 InputEnded
ends_with_input b l0 l1 l2 h0 h1 w0 w1 c0 c1 f0 f1 k0 k1 s n r t serving gives partial end few = record {
  taken = serving.front ++ t;
  output = written serving.replies;
  waits = serving.answers;
  calls = serving.calls;
  asked = serving.asked;
  made = serving.made;
  read = Gives-append l0 l1 l2 serving.front t serving.read gives;
  wrote = serving.wrote;
  answer = λ bytes told.
      let all = took_all l0 l2 (serving.front ++ t) bytes (Gives-append l0 l1 l2 serving.front t serving.read gives) end told in
      subst (λ z. Whole b serving.answers serving.calls z InputEnded (length (serving.front ++ t)) (written serving.replies)) (sym all)
      (ends_within_frame b l0 l1 h0 h1 w0 w1 c0 c1 f0 f1 k0 k1 s n r t serving partial few);
}

-- the source refused within a frame
pub ends_with_read_fault : (b : ℕ) (l0 l1 l2 h0 h1 : Option (List ℕ)) (w0 w1 : Option (List Bool)) (c0 c1 : Option (List LibraryCall)) (f0 f1 k0 k1 : ℕ) (s : SessionView) (n : ℕ) (r : Reading) (t : List ℕ)
    → IsServing b l0 l1 h0 h1 w0 w1 c0 c1 f0 f1 k0 k1 s n r → Gives l1 t l2 → IsPartial t → r.fed + length t < most_input → IsPlainRun b w0 w1 c0 c1 l0 l2 h0 h1 ReadFault
ends_with_read_fault b l0 l1 l2 h0 h1 w0 w1 c0 c1 f0 f1 k0 k1 s n r t serving gives partial few = record {
  taken = serving.front ++ t;
  output = written serving.replies;
  waits = serving.answers;
  calls = serving.calls;
  asked = serving.asked;
  made = serving.made;
  read = Gives-append l0 l1 l2 serving.front t serving.read gives;
  wrote = serving.wrote;
  answer = λ bytes told. ends_within_frame b l0 l1 h0 h1 w0 w1 c0 c1 f0 f1 k0 k1 s n r t serving partial few;
}

-- what was written so far answers these bytes, whatever follows
frames_before : (b : ℕ) (l0 l1 h0 h1 : Option (List ℕ)) (w0 w1 : Option (List Bool)) (c0 c1 : Option (List LibraryCall)) (f0 f1 k0 k1 : ℕ) (s : SessionView) (n : ℕ) (r : Reading) (rest : List ℕ)
    → (serving : IsServing b l0 l1 h0 h1 w0 w1 c0 c1 f0 f1 k0 k1 s n r) → FirstFrames b serving.answers serving.calls (serving.front ++ rest) (written serving.replies)
frames_before b l0 l1 h0 h1 w0 w1 c0 c1 f0 f1 k0 k1 s n r rest serving =
    let fed = serving.fed in
    let within = serving.within in
    let o = some_out (in_state s.state [] [] n) (0 + length serving.front) rest refl (omega arith) in
    let so_far = heard_so_far b l0 l1 h0 h1 w0 w1 c0 c1 f0 f1 k0 k1 s n r serving in
    record {
      first = serving.replies;
      others = o.replies;
      status = o.status;
      taken = length serving.front + o.taken;
      out = out_at (beginning_with b serving.answers serving.calls) (in_state s.state [] [] n) serving.bodies serving.front rest serving.replies o.replies o.status o.taken serving.whole so_far o.out;
      all = refl;
    }

-- memory ran out before anything was written for the next message
pub ends_without_memory : (b : ℕ) (l0 l1 l2 h0 h1 : Option (List ℕ)) (w0 w1 : Option (List Bool)) (c0 c1 : Option (List LibraryCall)) (f0 f1 k0 k1 : ℕ) (s : SessionView) (n : ℕ) (r : Reading) (t : List ℕ)
    → IsServing b l0 l1 h0 h1 w0 w1 c0 c1 f0 f1 k0 k1 s n r → Gives l1 t l2 → IsPlainRun b w0 w1 c0 c1 l0 l2 h0 h1 OutOfMemory
ends_without_memory b l0 l1 l2 h0 h1 w0 w1 c0 c1 f0 f1 k0 k1 s n r t serving gives = record {
  taken = serving.front ++ t;
  output = written serving.replies;
  waits = serving.answers;
  calls = serving.calls;
  asked = serving.asked;
  made = serving.made;
  read = Gives-append l0 l1 l2 serving.front t serving.read gives;
  wrote = serving.wrote;
  answer = λ bytes told.
      let there = took l0 l2 (serving.front ++ t) bytes (Gives-append l0 l1 l2 serving.front t serving.read gives) told in
      let cut : serving.front ++ (t ++ there.rest) ≡ bytes = sym (append_assoc serving.front t there.rest) ∙ sym there.is in (
        subst (λ z. FirstFrames b serving.answers serving.calls z (written serving.replies)) cut (frames_before b l0 l1 h0 h1 w0 w1 c0 c1 f0 f1 k0 k1 s n r (t ++ there.rest) serving),
        frames_before b l0 l1 h0 h1 w0 w1 c0 c1 f0 f1 k0 k1 s n r t serving,
      );
}

-- there was no memory for a session
pub ends_at_once : (b : ℕ) (left held : Option (List ℕ)) (waits : Option (List Bool)) (calls : Option (List LibraryCall)) → IsPlainRun b waits waits calls calls left left held held OutOfMemory
ends_at_once b left held waits calls =
    let reader : Reading = record { ready = []; rest = []; fed = 0; fault = None } in
    let at_first = between_at_first reader refl in
    ends_without_memory b left left left held held waits waits calls calls 0 0 0 0 (beginning b) 0 reader [] (serving_begins b left held waits calls 0 0 reader at_first.0 at_first.1) (Gives-nil left)

-- the first bodies that are written for a message, and those before them, answer these bytes, whatever follows
frames_within : (b : ℕ) (l0 l1 h0 h1 : Option (List ℕ)) (w0 w1 : Option (List Bool)) (c0 c1 : Option (List LibraryCall)) (f0 f1 k0 k1 : ℕ) (s : SessionView) (n : ℕ) (r : Reading) (f body rest : List ℕ) (answers : List Bool) (calls : List LibraryCall) (first others : List (List ℕ))
    → (serving : IsServing b l0 l1 h0 h1 w0 w1 c0 c1 f0 f1 k0 k1 s n r) → IsFrame f body → r.fed + length f ≤ most_input → MakesEach (hear (in_state s.state answers calls n) body) → said (hear (in_state s.state answers calls n) body) ≡ first ++ others
    → FirstFrames b (serving.answers ++ answers) (serving.calls ++ calls) (serving.front ++ (f ++ rest)) (written (serving.replies ++ first))
frames_within b l0 l1 h0 h1 w0 w1 c0 c1 f0 f1 k0 k1 s n r f body rest answers calls first others serving is room makes cut_said =
    let now : Running = in_state s.state answers calls n in
    let from : Running = beginning_with b (serving.answers ++ answers) (serving.calls ++ calls) in
    let fed = serving.fed in
    let o = out_meeting now (0 + length serving.front) f rest body makes is (omega arith) in
    let parts : serving.replies ++ (said (hear now body) ++ o.more) ≡ (serving.replies ++ first) ++ (others ++ o.more) =
    ap (λ z. serving.replies ++ (z ++ o.more)) cut_said ∙ ap (λ z. serving.replies ++ z) (append_assoc first others o.more) ∙ sym (append_assoc serving.replies first (others ++ o.more)) in
    record {
      first = serving.replies ++ first;
      others = others ++ o.more;
      status = o.status;
      taken = length serving.front + o.taken;
      out = subst (λ z. Out from 0 (serving.front ++ (f ++ rest)) z o.status (length serving.front + o.taken)) parts
          (out_at from now serving.bodies serving.front (f ++ rest) serving.replies (said (hear now body) ++ o.more) o.status o.taken serving.whole (serving.heard answers calls) o.out);
      all = refl;
    }

-- nothing follows what was taken
nothing_follows : (front f : List ℕ) → front ++ (f ++ []) ≡ front ++ f
nothing_follows front f = ap (λ z. front ++ z) (append-nil f)

-- memory ran out while the message was answered
pub ends_without_memory_within : (b : ℕ) (l0 l1 l2 h0 h1 h2 : Option (List ℕ)) (w0 w1 w2 : Option (List Bool)) (c0 c1 c2 : Option (List LibraryCall)) (f0 f1 k0 k1 : ℕ) (s : SessionView) (n : ℕ) (r : Reading) (f body : List ℕ) (answers : List Bool) (calls : List LibraryCall)
    → IsServing b l0 l1 h0 h1 w0 w1 c0 c1 f0 f1 k0 k1 s n r → Gives l1 f l2 → IsFrame f body → r.fed + length f ≤ most_input → Asked w1 answers w2 → Gains c1 calls c2
    → MakesEach (hear (in_state s.state answers calls n) body) → PutsFirst h1 (said (hear (in_state s.state answers calls n) body)) h2 → IsPlainRun b w0 w2 c0 c2 l0 l2 h0 h2 OutOfMemory
ends_without_memory_within b l0 l1 l2 h0 h1 h2 w0 w1 w2 c0 c1 c2 f0 f1 k0 k1 s n r f body answers calls serving gives is room asked made makes (first, others, cut_said, gains) = record {
  taken = serving.front ++ f;
  output = written (serving.replies ++ first);
  waits = serving.answers ++ answers;
  calls = serving.calls ++ calls;
  asked = Asked-append w0 w1 w2 serving.answers answers serving.asked asked;
  made = Gains-append c0 c1 c2 serving.calls calls serving.made made;
  read = Gives-append l0 l1 l2 serving.front f serving.read gives;
  wrote = subst (λ z. Gains h0 z h2) (sym (flat_map-append frame serving.replies first))
      (Gains-append h0 h1 h2 (written serving.replies) (written first) serving.wrote gains);
  answer = λ bytes told.
      let there = took l0 l2 (serving.front ++ f) bytes (Gives-append l0 l1 l2 serving.front f serving.read gives) told in
      let cut : serving.front ++ (f ++ there.rest) ≡ bytes = sym (append_assoc serving.front f there.rest) ∙ sym there.is in (
        subst (λ z. FirstFrames b (serving.answers ++ answers) (serving.calls ++ calls) z (written (serving.replies ++ first))) cut
            (frames_within b l0 l1 h0 h1 w0 w1 c0 c1 f0 f1 k0 k1 s n r f body there.rest answers calls first others serving is room makes cut_said),
        subst (λ z. FirstFrames b (serving.answers ++ answers) (serving.calls ++ calls) z (written (serving.replies ++ first))) (nothing_follows serving.front f)
            (frames_within b l0 l1 h0 h1 w0 w1 c0 c1 f0 f1 k0 k1 s n r f body [] answers calls first others serving is room makes cut_said),
      );
}

-- the first bytes of what is written for a message, and those before them, answer these bytes, whatever follows
bytes_within : (b : ℕ) (l0 l1 h0 h1 : Option (List ℕ)) (w0 w1 : Option (List Bool)) (c0 c1 : Option (List LibraryCall)) (f0 f1 k0 k1 : ℕ) (s : SessionView) (n : ℕ) (r : Reading) (f body rest : List ℕ) (answers : List Bool) (calls : List LibraryCall) (first others : List ℕ)
    → (serving : IsServing b l0 l1 h0 h1 w0 w1 c0 c1 f0 f1 k0 k1 s n r) → IsFrame f body → r.fed + length f ≤ most_input → MakesEach (hear (in_state s.state answers calls n) body) → written (said (hear (in_state s.state answers calls n) body)) ≡ first ++ others
    → FirstBytes b (serving.answers ++ answers) (serving.calls ++ calls) (serving.front ++ (f ++ rest)) (written serving.replies ++ first)
bytes_within b l0 l1 h0 h1 w0 w1 c0 c1 f0 f1 k0 k1 s n r f body rest answers calls first others serving is room makes cut_said =
    let now : Running = in_state s.state answers calls n in
    let from : Running = beginning_with b (serving.answers ++ answers) (serving.calls ++ calls) in
    let fed = serving.fed in
    let o = out_meeting now (0 + length serving.front) f rest body makes is (omega arith) in
    record {
      replies = serving.replies ++ (said (hear now body) ++ o.more);
      status = o.status;
      taken = length serving.front + o.taken;
      rest = others ++ written o.more;
      out = out_at from now serving.bodies serving.front (f ++ rest) serving.replies (said (hear now body) ++ o.more) o.status o.taken serving.whole (serving.heard answers calls) o.out;
      all = flat_map-append frame serving.replies (said (hear now body) ++ o.more)
          ∙ ap (λ z. written serving.replies ++ z) (flat_map-append frame (said (hear now body)) o.more)
          ∙ ap (λ z. written serving.replies ++ (z ++ written o.more)) cut_said
          ∙ ap (λ z. written serving.replies ++ z) (append_assoc first others (written o.more))
          ∙ sym (append_assoc (written serving.replies) first (others ++ written o.more));
    }

-- the sink refused while the answer was written
pub ends_with_write_fault : (b : ℕ) (l0 l1 l2 h0 h1 h2 : Option (List ℕ)) (w0 w1 w2 : Option (List Bool)) (c0 c1 c2 : Option (List LibraryCall)) (f0 f1 k0 k1 : ℕ) (s : SessionView) (n : ℕ) (r : Reading) (f body : List ℕ) (answers : List Bool) (calls : List LibraryCall)
    → IsServing b l0 l1 h0 h1 w0 w1 c0 c1 f0 f1 k0 k1 s n r → Gives l1 f l2 → IsFrame f body → r.fed + length f ≤ most_input → Asked w1 answers w2 → Gains c1 calls c2
    → MakesEach (hear (in_state s.state answers calls n) body) → PutsFront h1 (written (said (hear (in_state s.state answers calls n) body))) h2 → IsPlainRun b w0 w2 c0 c2 l0 l2 h0 h2 WriteFault
ends_with_write_fault b l0 l1 l2 h0 h1 h2 w0 w1 w2 c0 c1 c2 f0 f1 k0 k1 s n r f body answers calls serving gives is room asked made makes (first, others, cut_said, gains) = record {
  taken = serving.front ++ f;
  output = written serving.replies ++ first;
  waits = serving.answers ++ answers;
  calls = serving.calls ++ calls;
  asked = Asked-append w0 w1 w2 serving.answers answers serving.asked asked;
  made = Gains-append c0 c1 c2 serving.calls calls serving.made made;
  read = Gives-append l0 l1 l2 serving.front f serving.read gives;
  wrote = Gains-append h0 h1 h2 (written serving.replies) first serving.wrote gains;
  answer = λ bytes told.
      let there = took l0 l2 (serving.front ++ f) bytes (Gives-append l0 l1 l2 serving.front f serving.read gives) told in
      let cut : serving.front ++ (f ++ there.rest) ≡ bytes = sym (append_assoc serving.front f there.rest) ∙ sym there.is in (
        subst (λ z. FirstBytes b (serving.answers ++ answers) (serving.calls ++ calls) z (written serving.replies ++ first)) cut
            (bytes_within b l0 l1 h0 h1 w0 w1 c0 c1 f0 f1 k0 k1 s n r f body there.rest answers calls first others serving is room makes cut_said),
        subst (λ z. FirstBytes b (serving.answers ++ answers) (serving.calls ++ calls) z (written serving.replies ++ first)) (nothing_follows serving.front f)
            (bytes_within b l0 l1 h0 h1 w0 w1 c0 c1 f0 f1 k0 k1 s n r f body [] answers calls first others serving is room makes cut_said),
      );
}

-- what was taken ends at this place, and so does the session, for which these calls were made at last
ended : (b : ℕ) (l0 l1 l2 h0 h1 : Option (List ℕ)) (w0 w1 : Option (List Bool)) (c0 c1 : Option (List LibraryCall)) (f0 f1 k0 k1 : ℕ) (s : SessionView) (n : ℕ) (r : Reading) (t : List ℕ) (calls : List LibraryCall) (status : Status)
    → (serving : IsServing b l0 l1 h0 h1 w0 w1 c0 c1 f0 f1 k0 k1 s n r) → Gives l1 t l2 → r.fed + length t ≤ most_input
    → ((rest : List ℕ) → EndsAt (in_state s.state [] calls n) (length serving.front) (t ++ rest) (Finished status []) (length t))
    → (bytes : List ℕ) → l0 ≡ Some bytes → Whole b serving.answers (serving.calls ++ calls) bytes status (length (serving.front ++ t)) (written serving.replies)
ended b l0 l1 l2 h0 h1 w0 w1 c0 c1 f0 f1 k0 k1 s n r t calls status serving gives room end bytes told =
    let fed = serving.fed in
    let from : Running = beginning_with b serving.answers (serving.calls ++ calls) in
    let there = took l0 l2 (serving.front ++ t) bytes (Gives-append l0 l1 l2 serving.front t serving.read gives) told in
    let cut : serving.front ++ (t ++ there.rest) ≡ bytes = sym (append_assoc serving.front t there.rest) ∙ sym there.is in
    let size : length serving.front + length t ≡ length (serving.front ++ t) = sym (length-append serving.front t) in
    let so_far : Leads from serving.bodies (in_state s.state [] calls n) serving.replies =
    subst (λ z. Leads (beginning_with b z (serving.calls ++ calls)) serving.bodies (in_state s.state [] calls n) serving.replies) (append-nil serving.answers) (serving.heard [] calls) in
    record {
      replies = serving.replies;
      out = subst (λ z. Out from 0 z serving.replies (Some status) (length (serving.front ++ t))) cut
          (subst (Out from 0 (serving.front ++ (t ++ there.rest)) serving.replies (Some status)) size
          (whole_at from (in_state s.state [] calls n) serving.bodies serving.front (t ++ there.rest) serving.replies status (length t) serving.whole so_far (omega arith) (end there.rest)));
      all = refl;
    }

-- and none was
ended_here : (b : ℕ) (l0 l1 l2 h0 h1 : Option (List ℕ)) (w0 w1 : Option (List Bool)) (c0 c1 : Option (List LibraryCall)) (f0 f1 k0 k1 : ℕ) (s : SessionView) (n : ℕ) (r : Reading) (t : List ℕ) (status : Status)
    → (serving : IsServing b l0 l1 h0 h1 w0 w1 c0 c1 f0 f1 k0 k1 s n r) → Gives l1 t l2 → r.fed + length t ≤ most_input
    → ((rest : List ℕ) → EndsAt (in_state s.state [] [] n) (length serving.front) (t ++ rest) (Finished status []) (length t))
    → (bytes : List ℕ) → l0 ≡ Some bytes → Whole b serving.answers serving.calls bytes status (length (serving.front ++ t)) (written serving.replies)
ended_here b l0 l1 l2 h0 h1 w0 w1 c0 c1 f0 f1 k0 k1 s n r t status serving gives room end bytes told =
    subst (λ z. Whole b serving.answers z bytes status (length (serving.front ++ t)) (written serving.replies)) (append-nil serving.calls)
    (ended b l0 l1 l2 h0 h1 w0 w1 c0 c1 f0 f1 k0 k1 s n r t [] status serving gives room end bytes told)

-- the status at an exit
abbrev pub exit_status : (closed : Bool) → Status
exit_status true = Done
exit_status false = NoShutdown

exit_answer : (closed : Bool) (b : ℕ) (waits : List Bool) (calls : List LibraryCall) (bytes taken output : List ℕ) → Whole b waits calls bytes (exit_status closed) (length taken) output
    → IsAnswer (exit_status closed) b waits calls bytes taken output
exit_answer true b waits calls bytes taken output whole = whole
exit_answer false b waits calls bytes taken output whole = whole

exit_ends : (closed : Bool) (s : Running) (before : ℕ) (tail : List ℕ) (taken : ℕ) → Meets s tail (Ends closed []) taken → EndsAt s before tail (Finished (exit_status closed) []) taken
exit_ends true s before tail taken met = met
exit_ends false s before tail taken met = met

-- the exit was heard
pub ends_with_exit : (closed : Bool) (b : ℕ) (l0 l1 l2 h0 h1 h2 : Option (List ℕ)) (w0 w1 w2 : Option (List Bool)) (c0 c1 c2 : Option (List LibraryCall)) (f0 f1 k0 k1 : ℕ) (s : SessionView) (n : ℕ) (r : Reading) (f body : List ℕ)
    → IsServing b l0 l1 h0 h1 w0 w1 c0 c1 f0 f1 k0 k1 s n r → Gives l1 f l2 → IsFrame f body → r.fed + length f ≤ most_input → Closes s.state n body closed w1 w2 c1 c2 h1 h2
    → IsPlainRun b w0 w2 c0 c2 l0 l2 h0 h2 (exit_status closed)
ends_with_exit closed b l0 l1 l2 h0 h1 h2 w0 w1 w2 c0 c1 c2 f0 f1 k0 k1 s n r f body serving gives is room closes = record {
  taken = serving.front ++ f;
  output = written serving.replies;
  waits = serving.answers;
  calls = serving.calls ++ closes.calls;
  asked = subst (λ (z : Option (List Bool)). Asked w0 serving.answers z) (sym closes.asked) serving.asked;
  made = Gains-append c0 c1 c2 serving.calls closes.calls serving.made closes.made;
  read = Gives-append l0 l1 l2 serving.front f serving.read gives;
  wrote = subst (λ (z : Option (List ℕ)). Gains h0 (written serving.replies) z) (sym closes.sent) serving.wrote;
  answer = λ bytes told. exit_answer closed b serving.answers (serving.calls ++ closes.calls) bytes (serving.front ++ f) (written serving.replies)
      (ended b l0 l1 l2 h0 h1 w0 w1 c0 c1 f0 f1 k0 k1 s n r f closes.calls (exit_status closed) serving gives room (λ rest. exits rest) bytes told);
}
  where
    last : hear (in_state s.state [] closes.calls n) body ≡ Ends closed []
    last = subst (λ z. hear (in_state s.state [] z n) body ≡ Ends closed []) (append-nil closes.calls) (closes.heard [] [])

    exits : (rest : List ℕ) → EndsAt (in_state s.state [] closes.calls n) (length serving.front) (f ++ rest) (Finished (exit_status closed) []) (length f)
    exits rest = exit_ends closed (in_state s.state [] closes.calls n) (length serving.front) (f ++ rest) (length f)
        (met_frame body (in_state s.state [] closes.calls n) f rest (Ends closed []) is last)

-- bytes came that begin no frame
pub ends_with_bad_start : (b : ℕ) (l0 l1 l2 h0 h1 : Option (List ℕ)) (w0 w1 : Option (List Bool)) (c0 c1 : Option (List LibraryCall)) (f0 f1 k0 k1 : ℕ) (s : SessionView) (n : ℕ) (r : Reading) (t : List ℕ) (at : ℕ)
    → IsServing b l0 l1 h0 h1 w0 w1 c0 c1 f0 f1 k0 k1 s n r → Gives l1 t l2 → IsBadStart t (length t) → at ≡ r.fed + length t → at ≤ most_input → IsPlainRun b w0 w1 c0 c1 l0 l2 h0 h1 (BadFrame at)
ends_with_bad_start b l0 l1 l2 h0 h1 w0 w1 c0 c1 f0 f1 k0 k1 s n r t at serving gives bad place room = record {
  taken = serving.front ++ t;
  output = written serving.replies;
  waits = serving.answers;
  calls = serving.calls;
  asked = serving.asked;
  made = serving.made;
  read = Gives-append l0 l1 l2 serving.front t serving.read gives;
  wrote = serving.wrote;
  answer = λ bytes told. ended_here b l0 l1 l2 h0 h1 w0 w1 c0 c1 f0 f1 k0 k1 s n r t (BadFrame at) serving gives (omega arith)
      (λ rest. (IsBadStart-append t rest (length t) bad, place ∙ ap (λ k. k + length t) serving.fed, refl)) bytes told;
}

-- all was taken that may be
pub ends_with_limit : (b : ℕ) (l0 l1 l2 h0 h1 : Option (List ℕ)) (w0 w1 : Option (List Bool)) (c0 c1 : Option (List LibraryCall)) (f0 f1 k0 k1 : ℕ) (s : SessionView) (n : ℕ) (r : Reading) (t : List ℕ)
    → IsServing b l0 l1 h0 h1 w0 w1 c0 c1 f0 f1 k0 k1 s n r → Gives l1 t l2 → IsPartial t → r.fed + length t ≡ most_input → IsPlainRun b w0 w1 c0 c1 l0 l2 h0 h1 InputTooLong
ends_with_limit b l0 l1 l2 h0 h1 w0 w1 c0 c1 f0 f1 k0 k1 s n r t serving gives partial most = record {
  taken = serving.front ++ t;
  output = written serving.replies;
  waits = serving.answers;
  calls = serving.calls;
  asked = serving.asked;
  made = serving.made;
  read = Gives-append l0 l1 l2 serving.front t serving.read gives;
  wrote = serving.wrote;
  answer = λ bytes told. ended_here b l0 l1 l2 h0 h1 w0 w1 c0 c1 f0 f1 k0 k1 s n r t InputTooLong serving gives (omega arith) (λ rest. limit rest) bytes told;
}
  where
    limit : (rest : List ℕ) → EndsAt (in_state s.state [] [] n) (length serving.front) (t ++ rest) (Finished InputTooLong []) (length t)
    limit rest =
        let all : take (length t) (t ++ rest) ≡ t = take-append_seam t rest in
        let fed = serving.fed in
        (subst IsPartial (sym all) partial, omega (arith, length-append t rest), omega arith, refl)

-- output stopped within the answer to a message
pub ends_stopped : (e : Stop) (b : ℕ) (l0 l1 l2 h0 h1 h2 : Option (List ℕ)) (w0 w1 w2 : Option (List Bool)) (c0 c1 c2 : Option (List LibraryCall)) (f0 f1 k0 k1 : ℕ) (s : SessionView) (n : ℕ) (r : Reading) (f body : List ℕ)
    → IsServing b l0 l1 h0 h1 w0 w1 c0 c1 f0 f1 k0 k1 s n r → Gives l1 f l2 → IsFrame f body → r.fed + length f ≤ most_input → StopsHearing e s.state n body w1 w2 c1 c2 h1 h2 → IsPlainRun b w0 w2 c0 c2 l0 l2 h0 h2 (status_of e)
ends_stopped stop.OutOfMemory b l0 l1 l2 h0 h1 h2 w0 w1 w2 c0 c1 c2 f0 f1 k0 k1 s n r f body serving gives is room stops =
    ends_without_memory_within b l0 l1 l2 h0 h1 h2 w0 w1 w2 c0 c1 c2 f0 f1 k0 k1 s n r f body stops.answers stops.calls serving gives is room stops.asked stops.made stops.makes stops.put
ends_stopped stop.WriteFault b l0 l1 l2 h0 h1 h2 w0 w1 w2 c0 c1 c2 f0 f1 k0 k1 s n r f body serving gives is room stops =
    ends_with_write_fault b l0 l1 l2 h0 h1 h2 w0 w1 w2 c0 c1 c2 f0 f1 k0 k1 s n r f body stops.answers stops.calls serving gives is room stops.asked stops.made stops.makes stops.put

pub HasStatusCause-stopped : (e : Stop) (f0 f1 k0 k1 k2 : ℕ) → k0 ≤ k1 → k1 ≤ k2 → HasStopCause {T = Connection} (Err e) k1 k2 → HasStatusCause (status_of e) f0 f1 k0 k2
HasStatusCause-stopped stop.OutOfMemory f0 f1 k0 k1 k2 earlier later cause = tt
HasStatusCause-stopped stop.WriteFault f0 f1 k0 k1 k2 earlier later cause = HasRisen-widen k0 k1 k2 k2 earlier later cause (omega arith)

pub status_of-is_no_BadWords : (e : Stop) → status_of e ≡ BadWords → ⊥
status_of-is_no_BadWords stop.OutOfMemory same = cc
status_of-is_no_BadWords stop.WriteFault same = cc
