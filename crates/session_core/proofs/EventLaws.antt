-- Steps of notifications, as the code makes them.
use Rattle.std.proofs.Common.{◌≡◌, ◌≢◌, ℕ, ℤ, false, List, [], ◌∷◌, Option, None, Result, Ok, Err, sym, ap, ◌∙◌}
use Rattle.hl_base.specs.declared.edit.Edit.{Edit}
use Rattle.hl_base.specs.declared.place.PathId.{PathId}
use Rattle.lsp_messages.specs.declared.incoming.Id.{Id}
use Rattle.lsp_messages.specs.declared.incoming.LspIn.{LspIn}
use Rattle.lsp_messages.specs.declared.incoming.LspIn.TheVariants.{Initialize}
use Rattle.lsp_messages.specs.declared.incoming.Refusal.{Refusal}
use Rattle.document_store.specs.Store.{Store}
use Rattle.document_store.specs.Changes.{Answers, opened, changed, closed}
use Rattle.document_store.specs.declared.fault.StoreFault.{StoreFault}
use Rattle.document_store.specs.declared.fault.StoreFault.TheVariants as fault
use Rattle.library_folders.specs.declared.folders.Folder.{Folder}
use Rattle.library_reading.specs.Asked.{answered}
use Rattle.waiting_requests.specs.Requests.{waits}
use Rattle.session_core.specs.Inside.{change_asked, closing_asked}
use Rattle.session_core.specs.declared.state.LastList.{LastList}
use Rattle.session_core.specs.declared.state.Stage.{Stage}
use Rattle.session_core.specs.declared.state.Stage.TheVariants.{Fresh}
use Rattle.session_core.specs.Message.{asked, asked_at, effect, unless_refused, queue_all, after_leaving, farewell_at}
use Rattle.session_core.specs.Refusals.{OutOfPlace, where_so, first_of}
use Rattle.session_core.specs.Replies.{log_line, refusal_of}
use Rattle.session_core.specs.State.{State, libraries, programs, with_programs, without, published_without}
use Rattle.session_core.specs.Step.{Effect, IsEffect, Acts}
use Rattle.session_core.proofs.StoreLaws.{Answers-refused}

-- a step whose bodies are told in other words
pub with_bodies : (step : Effect) (s : State) (bodies others : List (List ℕ)) → others ≡ bodies → IsEffect step s bodies → IsEffect step s others
with_bodies step s bodies others same is = is ∙ ap (λ z. record { state = s; bodies = z }) (sym same)

-- and its state
pub with_state : (step : Effect) (s t : State) (bodies : List (List ℕ)) → t ≡ s → IsEffect step s bodies → IsEffect step t bodies
with_state step s t bodies same is = is ∙ ap (λ z. record { state = z; bodies = bodies }) (sym same)

-- what was refused has left the state as it was
pub state_kept : (s old : State) (store : Store) (queue : List PathId) → old ≡ s → store ≡ old.store → queue ≡ old.queue → record old { store = store; queue = queue } ≡ s
state_kept s old store queue is kept same = ap (λ z. record old { store = z; queue = queue }) kept ∙ ap (λ q. record old { queue = q }) same ∙ is

-- a message at a stage that is known
pub asked_in : (stage : Stage) (s now : State) (told : Result LspIn Refusal) (bodies : List (List ℕ)) → s.stage ≡ stage → Acts (asked_at stage s told) now bodies
    → Acts (asked s told) now bodies
asked_in stage s now told bodies is step = ap (λ z. asked_at z s told) is ∙ step

-- the first request of a session, where no request of its id waits
pub first_asked : (s now : State) (id : Id) (root : Option (List ℕ)) (bodies : List (List ℕ)) → s.stage ≡ Fresh → waits s.waiting id ≡ false
    → Acts (effect s (Initialize id root)) now bodies → Acts (asked s (Ok (Initialize id root))) now bodies
first_asked s now id root bodies fresh free step =
    asked_in Fresh s now (Ok (Initialize id root)) bodies fresh
    (ap (λ b. unless_refused s (first_of (where_so b (OutOfPlace id) ∷ None ∷ None ∷ None ∷ [])) (effect s (Initialize id root))) free ∙ step)

-- ---- what the store answers

-- the store is asked the same in other words
pub opened_same : (s t : Store) (u v l m : List ℕ) (version other : ℤ) (x y : List ℕ) → t ≡ s → v ≡ u → m ≡ l → other ≡ version → y ≡ x
    → opened s u l version x ≡ opened t v m other y
opened_same s t u v l m version other x y store uri language same text =
    sym (ap (λ z. opened z v m other y) store ∙ ap (λ z. opened s z m other y) uri ∙ ap (λ z. opened s u z other y) language
    ∙ ap (λ z. opened s u l z y) same ∙ ap (opened s u l version) text)

pub changed_same : (s t : Store) (u v : List ℕ) (version other : ℤ) (edits : List Edit) → t ≡ s → v ≡ u → other ≡ version → changed s u version edits ≡ changed t v other edits
changed_same s t u v version other edits store uri same =
    sym (ap (λ z. changed z v other edits) store ∙ ap (λ z. changed s z other edits) uri ∙ ap (λ z. changed s u z edits) same)

pub closed_same : (s t : Store) (u v : List ℕ) → t ≡ s → v ≡ u → closed s u ≡ closed t v
closed_same s t u v store uri = sym (ap (λ z. closed z v) store ∙ ap (closed s) uri)

-- what the code logs of a refusal
abbrev Logs : List ℕ → StoreFault → (bodies : List (List ℕ)) → Type 0
Logs method refused bodies = (refused ≢ fault.OutOfMemory) × (bodies ≡ log_line method (refusal_of refused) ∷ [])

-- the store has refused a change
pub change_refused : (s now : State) (method : List ℕ) (wanted asked : Result Store StoreFault) (refused : StoreFault) (new : Store) (bodies : List (List ℕ))
    → wanted ≡ asked → Answers {T = Unit {0}} asked (Err refused) new → now ≡ s → Logs method refused bodies → Acts (change_asked s method wanted) now bodies
change_refused s now method wanted asked refused new bodies same answers kept logs =
    let told : wanted ≡ Err refused = same ∙ Answers-refused asked refused new answers logs.0 in
    ap (change_asked s method) told ∙ ap (λ z. answered (record { state = z; bodies = log_line method (refusal_of refused) ∷ [] })) (sym kept)
    ∙ ap (λ z. answered (record { state = now; bodies = z })) (sym logs.1)

-- the store has refused to close
pub closing_refused : (s now : State) (method : List ℕ) (n : Option PathId) (wanted asked : Result Store StoreFault) (refused : StoreFault) (new : Store) (bodies : List (List ℕ))
    → wanted ≡ asked → Answers {T = Unit {0}} asked (Err refused) new → now ≡ s → Logs method refused bodies → Acts (closing_asked s method n wanted) now bodies
closing_refused s now method n wanted asked refused new bodies same answers kept logs =
    let told : wanted ≡ Err refused = same ∙ Answers-refused asked refused new answers logs.0 in
    ap (closing_asked s method n) told ∙ ap (λ z. answered (record { state = z; bodies = log_line method (refusal_of refused) ∷ [] })) (sym kept)
    ∙ ap (λ z. answered (record { state = now; bodies = z })) (sym logs.1)

-- ---- what the store takes

-- the store has taken a change
pub change_taken : (s now : State) (method : List ℕ) (wanted : Result Store StoreFault) (new : Store) (bodies : List (List ℕ)) → wanted ≡ Ok new → now ≡ queue_all (record s { store = new }) → bodies ≡ []
    → Acts (change_asked s method wanted) now bodies
change_taken s now method wanted new bodies told is none =
    ap (change_asked s method) told ∙ ap (λ z. answered (record { state = z; bodies = [] })) (sym is) ∙ ap (λ z. answered (record { state = now; bodies = z })) (sym none)

-- every program was queued, by folders that are the library folders
pub queued_as : (s old : State) (store : Store) (queue kept : List PathId) (folders : List Folder) → old ≡ s → kept ≡ old.queue → folders ≡ libraries old
    → queue ≡ with_programs kept (programs folders store) → record old { store = store; queue = queue } ≡ queue_all (record s { store = store })
queued_as s old store queue kept folders is same are told =
    ap (λ q. record old { store = store; queue = q }) (told ∙ ap (λ k. with_programs k (programs folders store)) same ∙ ap (λ f. with_programs old.queue (programs f store)) are)
    ∙ ap (λ z. queue_all (record z { store = store })) is

-- the store has closed a document
pub closing_taken : (s now : State) (method : List ℕ) (n : Option PathId) (wanted : Result Store StoreFault) (new : Store) (bodies : List (List ℕ)) → wanted ≡ Ok new
    → now ≡ (after_leaving s n new).state → bodies ≡ farewell_at s n → Acts (closing_asked s method n wanted) now bodies
closing_taken s now method n wanted new bodies told is farewell =
    ap (closing_asked s method n) told ∙ ap (λ z. answered (record { state = z; bodies = farewell_at s n })) (sym is)
    ∙ ap (λ z. answered (record { state = now; bodies = z })) (sym farewell)

pub left_as : (s old : State) (store : Store) (queue kept : List PathId) (published : List LastList) (n : Option PathId) (folders : List Folder) → old ≡ s → kept ≡ without old.queue n
    → published ≡ published_without old.published n → folders ≡ libraries old → queue ≡ with_programs kept (programs folders store)
    → record old { store = store; queue = queue; published = published } ≡ (after_leaving s n store).state
left_as s old store queue kept published n folders is same others are told =
    ap (λ q. record old { store = store; queue = q; published = published })
    (told ∙ ap (λ k. with_programs k (programs folders store)) same ∙ ap (λ f. with_programs (without old.queue n) (programs f store)) are)
    ∙ ap (λ p. record old { store = store; queue = with_programs (without old.queue n) (programs (libraries old) store); published = p }) others
    ∙ ap (λ z. (after_leaving z n store).state) is
