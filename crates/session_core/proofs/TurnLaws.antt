-- Programs that leave the queue, one after another.
use Rattle.std.proofs.Common.{◌≡◌, ◌≢◌, ℕ, ◌<◌, Bool, true, false, cond, List, [], ◌∷◌, ◌++◌, Option, Some, None, length, drop, suc, slice_get, refl, sym, ap, ◌∙◌, subst, arith, append_assoc}
use Rattle.std.proofs.lemmas.List.{append-nil}
use Rattle.hl_base.specs.declared.place.PathId.{PathId}
use Rattle.document_store.specs.Store.{OpenDocument}
use Rattle.lsp_messages.specs.declared.outgoing.Diagnostic.{Diagnostic}
use Rattle.session_core.specs.declared.state.LastList.{LastList}
use Rattle.lsp_messages.specs.declared.incoming.Id.{Id}
use Rattle.session_core.specs.declared.state.Stage.TheVariants.{Closing}
use Rattle.session_core.specs.Diagnostics.{list_of}
use Rattle.session_core.specs.Message.{concluded, shut}
use Rattle.session_core.specs.Replies.{shutdown_reply}
use Rattle.session_core.specs.State.{State, document_at, last_list}
use Rattle.session_core.specs.Step.{Effect, quiet, says, and_then, IsEffect}
use Rattle.session_core.proofs.AnswerLaws.{so_behind}
use Rattle.session_core.specs.Turn.{assemble_first, turn_of, assemble_many, assemble_all, answer_waiting, turn, turn_at, publish, is_published, without_first}

-- a step whose state has lost the first queued program
abbrev without_first_of : Effect → Effect
without_first_of step = record step { state = without_first step.state }

-- whether the first program has left the queue makes no difference to what is published
publish_first : (s : State) (n : PathId) (document : OpenDocument) (list : List Diagnostic)
    → publish (without_first s) n document list ≡ without_first_of (publish s n document list)
publish_first s n document list = by_test (is_published (last_list s.published n) document.version list) _ _ where
  by_test : (b : Bool) (published : List LastList) (body : List ℕ)
      → cond b (quiet (without_first s)) (says (record (without_first s) { published = published }) body) ≡ without_first_of (cond b (quiet s) (says (record s { published = published }) body))
  by_test true published body = refl
  by_test false published body = refl

turn_at_first : (s : State) (n : PathId) (document : Option OpenDocument) → turn_at (without_first s) n document ≡ without_first_of (turn_at s n document)
turn_at_first s n None = refl
turn_at_first s n (Some document) = publish_first s n document (list_of s n document)

-- a program's list, and then it leaves the queue
pub turn_first : (s now : State) (n : PathId) (bodies : List (List ℕ)) → slice_get s.queue 0 ≡ Some n
    → IsEffect (turn_at s n (document_at s.store n)) now bodies → IsEffect (assemble_first s) (without_first now) bodies
unfolding assemble_first
turn_first s now n bodies first step = ap (turn_of s) first ∙ turn_at_first s n (document_at s.store n) ∙ ap without_first_of step

-- where none is queued
pub turn_none : (s : State) → slice_get s.queue 0 ≡ None → IsEffect (assemble_first s) s []
unfolding assemble_first
turn_none s none = ap (turn_of s) none

-- publishing leaves the queue
publish_queue : (s : State) (n : PathId) (document : OpenDocument) (list : List Diagnostic) → (publish s n document list).state.queue ≡ s.queue
publish_queue s n document list = by_test (is_published (last_list s.published n) document.version list) _ _ where
  by_test : (b : Bool) (published : List LastList) (body : List ℕ) → (cond b (quiet s) (says (record s { published = published }) body)).state.queue ≡ s.queue
  by_test true published body = refl
  by_test false published body = refl

turn_at_queue : (s : State) (n : PathId) (document : Option OpenDocument) → (turn_at s n document).state.queue ≡ s.queue
turn_at_queue s n None = refl
turn_at_queue s n (Some document) = publish_queue s n document (list_of s n document)

-- the first program has left the queue
pub first_queue : (s : State) → s.queue ≢ [] → (assemble_first s).state.queue ≡ drop 1 s.queue
unfolding assemble_first
first_queue s some = by_queue s.queue refl where
  by_queue : (queue : List PathId) → s.queue ≡ queue → (turn_of s (slice_get queue 0)).state.queue ≡ drop 1 s.queue
  by_queue [] e = absurd (some e)
  by_queue (n ∷ rest) e = turn_at_queue (without_first s) n (document_at s.store n)

-- so fewer are left
pub fewer_queued : (queue : List PathId) → queue ≢ [] → length (drop 1 queue) < length queue
fewer_queued [] some = absurd (some refl)
fewer_queued (n ∷ rest) some = omega arith

-- the first and those behind it are all
turns_next : (s : State) (queue : List PathId) → s.queue ≡ queue → queue ≢ [] → assemble_all s ≡ and_then (assemble_first s) assemble_all
turns_next s [] e some = absurd (some refl)
turns_next s (n ∷ rest) e some =
    let here : length s.queue ≡ suc (length rest) = ap length e in
    let behind : length (assemble_first s).state.queue ≡ length rest = ap length (first_queue s (λ f. let g = sym e ∙ f in cc) ∙ ap (drop 1) e) in
    ap (λ k. assemble_many k s) here ∙ ap (λ k. and_then (assemble_first s) (assemble_many k)) (sym behind)

-- These bodies were written so far, and with those that are left they are all.
pub record IsTurning (first now : State) (done : List (List ℕ)) : Type 0 where
  pub rest : assemble_all first ≡ record (assemble_all now) { bodies = done ++ (assemble_all now).bodies }

pub turning_goes_on : (first now next : State) (done bodies : List (List ℕ)) → IsTurning first now done → now.queue ≢ [] → IsEffect (assemble_first now) next bodies → IsTurning first next (done ++ bodies)
turning_goes_on first now next done bodies turning some step =
    let more : assemble_all now ≡ record (assemble_all next) { bodies = bodies ++ (assemble_all next).bodies } =
    turns_next now now.queue refl some ∙ ap (λ (z : Effect). and_then z assemble_all) step in
    record {
      rest = turning.rest ∙ ap (λ (z : Effect). record z { bodies = done ++ z.bodies }) more
          ∙ ap (λ z. record (assemble_all next) { bodies = z }) (sym (append_assoc done bodies (assemble_all next).bodies));
    }

pub turning_told : (first now : State) (done others : List (List ℕ)) → others ≡ done → IsTurning first now done → IsTurning first now others
turning_told first now done others same turning = subst (IsTurning first now) (sym same) turning

pub turning_ends : (first now : State) (done : List (List ℕ)) → IsTurning first now done → now.queue ≡ [] → IsEffect (assemble_all first) now done
turning_ends first now done turning none =
    let left : assemble_all now ≡ quiet now = ap (λ (z : List PathId). assemble_many (length z) now) none in
    turning.rest ∙ ap (λ (z : Effect). record z { bodies = done ++ z.bodies }) left ∙ ap (λ z. record { state = now; bodies = z }) (append-nil done)

pub turning_smaller : (now next : State) (bodies : List (List ℕ)) → now.queue ≢ [] → IsEffect (assemble_first now) next bodies → length next.queue < length now.queue
turning_smaller now next bodies some step =
    let same : (assemble_first now).state ≡ next = ap (λ (z : Effect). z.state) step in
    let queue : length next.queue ≡ length (drop 1 now.queue) = ap (λ (s : State). length s.queue) (sym same) ∙ ap length (first_queue now some) in
    let fewer = fewer_queued now.queue some in
    omega arith

-- one Turn: a list, and then what is answered
pub turn_whole : (s now next : State) (bodies all : List (List ℕ)) → IsEffect (assemble_first s) now bodies → IsEffect (concluded (record { state = now; bodies = bodies })) next all
    → IsEffect (turn s) next all
turn_whole s now next bodies all list waited = ap concluded list ∙ waited

-- answers behind what is written for an event
pub concluded_whole : (s now : State) (bodies answers all : List (List ℕ)) → IsEffect (answer_waiting s) now answers → all ≡ bodies ++ answers
    → IsEffect (concluded (record { state = s; bodies = bodies })) now all
concluded_whole s now bodies answers all waited is =
    ap (λ (z : Effect). record { state = z.state; bodies = bodies ++ z.bodies }) waited
    ∙ ap (λ z. record { state = now; bodies = z }) (sym is)

-- the lists of all queued programs, then the answers, and then the reply
pub shut_whole : (s now next : State) (id : Id) (bodies all : List (List ℕ)) → IsEffect (assemble_all s) now bodies
    → IsEffect (concluded (record { state = now; bodies = bodies })) next all
    → shut s id ≡ record { state = record next { stage = Closing }; bodies = all ++ shutdown_reply id ∷ [] }
shut_whole s now next id bodies all lists waited =
    ap (λ (z : Effect). and_then (concluded z) (λ t. says (record t { stage = Closing }) (shutdown_reply id))) lists
    ∙ ap (λ (z : Effect). and_then z (λ t. says (record t { stage = Closing }) (shutdown_reply id))) waited

-- the first program has left the queue behind a Turn
pub turn_queue : (s : State) → s.queue ≢ [] → (turn s).state.queue ≡ drop 1 s.queue
turn_queue s some = so_behind (λ t. t.queue ≡ (assemble_first s).state.queue) (assemble_first s).state refl refl ∙ first_queue s some
