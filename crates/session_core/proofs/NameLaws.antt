-- What programs tell of names, as the code gathers it and answers from it.
use Rattle.std.proofs.Common.{◌≡◌, ◌≢◌, ℕ, false, List, [], ◌∷◌, ◌++◌, Option, Some, None, refl, sym, ap, ◌∙◌}
use Rattle.std.specs.Prelude.{IfSome}
use Rattle.std.specs.List.{flat_map}
use Rattle.hl_base.specs.declared.place.PathId.{PathId}
use Rattle.document_store.specs.Store.{OpenDocument}
use Rattle.document_store.specs.Shown.{IsShown, Shows}
use Rattle.document_store.specs.declared.document.Document.{Document}
use Rattle.library_folders.specs.declared.folders.Folder.{Folder}
use Rattle.waiting_requests.specs.Bodies.{replies_to}
use Rattle.waiting_requests.specs.Names.{Names}
use Rattle.waiting_requests.specs.declared.request.Request.{Request}
use Rattle.session_core.specs.Inside.{TellsNames}
use Rattle.session_core.specs.Names.{names_in, names_at, names_over_all, program_names}
use Rattle.session_core.specs.State.{State, is_idle, libraries, programs, document_at}
use Rattle.session_core.specs.Step.{IsEffect}
use Rattle.session_core.specs.Turn.{answer_waiting}
use Rattle.session_core.proofs.AnswerLaws.{answers_later, answers_now, answers_nothing}

-- no document is open
pub names_none : (s : State) (n : PathId) → IsShown s.store.paths (document_at s.store n) None → names_at s n ≡ []
names_none s n is = by_document (document_at s.store n) is where
  by_document : (found : Option OpenDocument) → IsShown s.store.paths found None → names_in s n found ≡ []
  by_document None is = refl
  by_document (Some document) is = absurd is

-- what the program of a document tells was made
pub names_made : (s : State) (n : PathId) (shown : Document) (names : Names) → IsShown s.store.paths (document_at s.store n) (Some shown)
    → TellsNames s n shown names → names_at s n ≡ names ∷ []
names_made s n shown names is made = by_document (document_at s.store n) refl is where
  by_document : (found : Option OpenDocument) → document_at s.store n ≡ found → IsShown s.store.paths found (Some shown) → names_in s n found ≡ names ∷ []
  by_document None e is = absurd is
  by_document (Some document) e shows = ap (λ z. z ∷ []) (sym (made document e shows))

-- what all tell
pub names_all : (s : State) (folders : List Folder) (all : List PathId) (names : List Names) → folders ≡ libraries s → all ≡ programs folders s.store
    → names ≡ flat_map (names_at s) all → names ≡ program_names s
unfolding names_over_all
names_all s folders all names are is told = told ∙ ap (flat_map (names_at s)) (is ∙ ap (λ f. programs f s.store) are)

-- what is kept is what all tell
pub names_kept : (s : State) (kept : Option (List Names)) (names : List Names) → kept ≡ Some names → IfSome kept (λ told. told ≡ program_names s) → names ≡ program_names s
names_kept s None names is told = cc
names_kept s (Some others) names is told = let same : others ≡ names = cc in sym same ∙ told

-- ---- what is answered

-- a program is queued
pub waits_on : (s : State) (bodies : List (List ℕ)) → s.queue ≢ [] → bodies ≡ [] → IsEffect (answer_waiting s) s bodies
waits_on s bodies some none = answers_later s (busy s.queue some) ∙ ap (λ z. record { state = s; bodies = z }) (sym none) where
  busy : (queue : List PathId) → queue ≢ [] → is_idle queue ≡ false
  busy [] some = absurd (some refl)
  busy (n ∷ queue) some = refl

-- no request waits
pub waits_not : (s : State) (bodies : List (List ℕ)) → s.waiting ≡ [] → bodies ≡ [] → IsEffect (answer_waiting s) s bodies
waits_not s bodies empty none = answers_nothing s empty ∙ ap (λ z. record { state = s; bodies = z }) (sym none)

-- all that wait are answered from what the programs tell, and none is left
pub waits_no_more : (s t : State) (names : List Names) (left : List Request) (bodies : List (List ℕ)) → t ≡ s → s.queue ≡ [] → names ≡ program_names s
    → bodies ≡ replies_to t.store names t.waiting → left ≡ [] → IsEffect (answer_waiting s) (record t { waiting = left }) bodies
waits_no_more s t names left bodies same idle told are none =
    answers_now s (ap is_idle idle)
    ∙ ap (λ n. record { state = record s { waiting = [] }; bodies = replies_to s.store n s.waiting }) (sym told)
    ∙ ap (λ (z : State). record { state = record z { waiting = [] }; bodies = replies_to z.store names z.waiting }) (sym same)
    ∙ ap (λ z. record { state = record t { waiting = [] }; bodies = z }) (sym are)
    ∙ ap (λ w. record { state = record t { waiting = w }; bodies = bodies }) (sym none)
