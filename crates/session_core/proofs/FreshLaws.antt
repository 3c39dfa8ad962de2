-- Lists are fresh, and where an event changes the documents every program is queued.
use Rattle.std.proofs.Common.{◌≡◌, ℕ, ℤ, Bool, true, false, not, cond, ◌&&◌, ◌||◌, ◌==◌, List, [], ◌∷◌, ◌++◌, map, filter, find, length, drop, Option, Some, None, Result, Ok, Err, zero, suc, ◌⊎◌, inl, inr, slice_get, refl, sym, ap, ◌∙◌, subst}
use Rattle.std.specs.List.{list_any}
use Rattle.std.specs.Ordering.{int_eq}
use Rattle.std.proofs.lemmas.Bool.Decides.{Decides-eqb, Decides-int_eq}
use Rattle.io_edge.specs.LibraryCall.{LibraryCall}
use Rattle.hl_base.specs.declared.place.PathId.{PathId}
use Rattle.lsp_messages.specs.declared.incoming.LspIn.{LspIn}
use Rattle.lsp_messages.specs.declared.incoming.LspIn.TheVariants.{Initialize, Shutdown, Definition, References, Hover, DocumentSymbol, Initialized, Exit, DidOpen, DidChange, DidClose, DidSave, DidChangeConfiguration, DidChangeWatchedFiles, Cancel, Dap}
use Rattle.lsp_messages.specs.declared.outgoing.Diagnostic.{Diagnostic}
use Rattle.lsp_messages.specs.Same.{is_same_list}
use Rattle.lsp_messages.proofs.SameLaws.{is_same_list-Decides}
use Rattle.document_store.specs.Store.{Store, OpenDocument}
use Rattle.document_store.specs.Changes.{opened, changed, closed}
use Rattle.document_store.specs.declared.fault.StoreFault.{StoreFault}
use Rattle.library_folders.specs.declared.folders.Folder.{Folder}
use Rattle.library_reading.specs.Asked.{Asked, Came, Lacks, Differs}
use Rattle.dap_messages.specs.Requests.{request_of}
use Rattle.dap_messages.specs.declared.requests.DapIn.{DapIn}
use Rattle.dap_messages.specs.declared.requests.DapRefusal.{DapRefusal}
use Rattle.session_core.specs.Debugging.{debugged}
use Rattle.session_core.specs.declared.state.LastList.{LastList}
use Rattle.session_core.specs.declared.state.Stage.TheVariants.{Active}
use Rattle.session_core.specs.Diagnostics.{list_of}
use Rattle.session_core.specs.Laws.{is_listed, AreFresh, AllQueued, LeavesFresh, KeepsOrQueues}
use Rattle.session_core.specs.Message.{message, event, effect, concluded, after_change, after_closing, farewell_at, queue_all, root_of}
use Rattle.session_core.specs.Refusals.{is_ended}
use Rattle.session_core.specs.Replies.{initialize_reply, list_body}
use Rattle.session_core.specs.State.{State, around_of, start, libraries, number_at, number_named, is_number, is_program, is_queued, document_at, programs, with_programs, last_list, without_list, with_list, without, published_without}
use Rattle.session_core.specs.Step.{Effect, quiet, says, step_of}
use Rattle.session_core.proofs.AnswerLaws.{so_behind}
use Rattle.session_core.proofs.AskingLaws.{Whenever, whenever_event, HoldsOfQueues, whenever_begun, whenever_watched}
use Rattle.session_core.proofs.TextLaws.{found_passes}
use Rattle.session_core.specs.Turn.{is_published, publish, assemble_first, assemble_many, assemble_all, answer_waiting, turn, turn_of, turn_at, without_first}

-- ---- tests

pub or_right : (a b : Bool) → b ≡ true → (a || b) ≡ true
or_right true b is = refl
or_right false b is = is

pub or_split : (a b : Bool) → (a || b) ≡ false → (a ≡ false) × (b ≡ false)
or_split true b is = cc
or_split false b is = (refl, is)

and_true : (a b : Bool) → a ≡ true → b ≡ true → (a && b) ≡ true
and_true true b one two = two
and_true false b one two = cc

pub not_both : (b : Bool) → b ≡ true → b ≡ false → ⊥
not_both true is other = cc
not_both false is other = cc

pub any_front : {X : Type 0} (p : X → Bool) (xs ys : List X) → list_any p xs ≡ true → list_any p (xs ++ ys) ≡ true
any_front p [] ys here = cc
any_front p (x ∷ xs) ys here = by_first (p x) here (any_front p xs ys) where
  by_first : (b : Bool) → (b || list_any p xs) ≡ true → (list_any p xs ≡ true → list_any p (xs ++ ys) ≡ true) → (b || list_any p (xs ++ ys)) ≡ true
  by_first true first later = refl
  by_first false first later = later first

pub any_back : {X : Type 0} (p : X → Bool) (xs ys : List X) → list_any p ys ≡ true → list_any p (xs ++ ys) ≡ true
any_back p [] ys there = there
any_back p (x ∷ xs) ys there = or_right (p x) (list_any p (xs ++ ys)) (any_back p xs ys there)

-- ---- numbers

pub same_number : (n m : PathId) → is_number n m ≡ true → n ≡ m
same_number n m is = ap (λ (k : ℕ). record { 0 = k }) ((Decides-eqb n.0 m.0).0 is)

number_back : (n m : PathId) → is_number n m ≡ true → is_number m n ≡ true
number_back n m is = (Decides-eqb m.0 n.0).1 (sym ((Decides-eqb n.0 m.0).0 is))

pub number_itself : (n : PathId) → is_number n n ≡ true
number_itself n = (Decides-eqb n.0 n.0).1 refl

pub other_number : (a b : PathId) → is_number b a ≡ false → is_number a b ≡ false
other_number a b differs = by_test (is_number a b) refl where
  by_test : (c : Bool) → is_number a b ≡ c → c ≡ false
  by_test true same = absurd (not_both (is_number b a) (number_back a b same) differs)
  by_test false same = refl

-- ---- the queue

-- a program that is open is among the programs
among_programs : (folders : List Folder) (store : Store) (n : PathId) (documents : List OpenDocument) (document : OpenDocument)
    → find (λ d. is_number (number_at store d) n) documents ≡ Some document → is_program folders document ≡ true
    → list_any (is_number n) (map (number_at store) (filter (is_program folders) documents)) ≡ true
among_programs folders store n [] document found program = cc
among_programs folders store n (d ∷ rest) document found program =
    by_number (is_number (number_at store d) n) refl found (λ behind. among_programs folders store n rest document behind program) where
      others : List PathId
      others = map (number_at store) (filter (is_program folders) rest)

      by_program : (b : Bool) → list_any (is_number n) others ≡ true → list_any (is_number n) (map (number_at store) (cond b (d ∷ filter (is_program folders) rest) (filter (is_program folders) rest))) ≡ true
      by_program true there = or_right (is_number n (number_at store d)) (list_any (is_number n) others) there
      by_program false there = there

      by_first : is_number (number_at store d) n ≡ true → (b : Bool) → b ≡ true → list_any (is_number n) (map (number_at store) (cond b (d ∷ filter (is_program folders) rest) (filter (is_program folders) rest))) ≡ true
      by_first same true is = ap (λ c. c || list_any (is_number n) others) (number_back (number_at store d) n same)
      by_first same false is = cc

      by_number : (b : Bool) → is_number (number_at store d) n ≡ b → cond b (Some d) (find (λ e. is_number (number_at store e) n) rest) ≡ Some document
          → (find (λ e. is_number (number_at store e) n) rest ≡ Some document → list_any (is_number n) others ≡ true)
          → list_any (is_number n) (map (number_at store) (cond (is_program folders d) (d ∷ filter (is_program folders) rest) (filter (is_program folders) rest))) ≡ true
      by_number true same here later =
          let first : d ≡ document = cc in
          by_first same (is_program folders d) (ap (is_program folders) first ∙ program)
      by_number false same behind later = by_program (is_program folders d) (later behind)

-- a program that is queued too is queued
queued_too : (n : PathId) (queue others : List PathId) → list_any (is_number n) others ≡ true → is_queued (with_programs queue others) n ≡ true
queued_too n queue [] there = cc
queued_too n queue (m ∷ others) there = by_number (is_number n m) refl there (λ behind. queued_too n queue others behind) where
  wanted : List PathId
  wanted = filter (λ k. not (is_queued queue k)) others

  by_here : (b : Bool) → is_queued queue m ≡ b → is_number n m ≡ true → list_any (is_number n) (queue ++ cond (not b) (m ∷ wanted) wanted) ≡ true
  by_here true queued same = any_front (is_number n) queue wanted (ap (λ (k : PathId). is_queued queue k) (same_number n m same) ∙ queued)
  by_here false queued same = any_back (is_number n) queue (m ∷ wanted) (ap (λ c. c || list_any (is_number n) wanted) same)

  by_later : (b : Bool) → list_any (is_number n) (queue ++ wanted) ≡ true → list_any (is_number n) (queue ++ cond b (m ∷ wanted) wanted) ≡ true
  by_later false there = there
  by_later true there = more queue there where
    more : (front : List PathId) → list_any (is_number n) (front ++ wanted) ≡ true → list_any (is_number n) (front ++ m ∷ wanted) ≡ true
    more [] is = or_right (is_number n m) (list_any (is_number n) wanted) is
    more (k ∷ front) is = by_front (is_number n k) is (more front) where
      by_front : (b : Bool) → (b || list_any (is_number n) (front ++ wanted)) ≡ true
          → (list_any (is_number n) (front ++ wanted) ≡ true → list_any (is_number n) (front ++ m ∷ wanted) ≡ true) → (b || list_any (is_number n) (front ++ m ∷ wanted)) ≡ true
      by_front true first later = refl
      by_front false first later = later first

  by_number : (b : Bool) → is_number n m ≡ b → (b || list_any (is_number n) others) ≡ true → (list_any (is_number n) others ≡ true → is_queued (with_programs queue others) n ≡ true)
      → list_any (is_number n) (queue ++ cond (not (is_queued queue m)) (m ∷ wanted) wanted) ≡ true
  by_number true same here later = by_here (is_queued queue m) refl same
  by_number false same behind later = by_later (not (is_queued queue m)) (later behind)

-- where every program is queued, each is
all_queued : (s : State) → AllQueued (queue_all s)
all_queued s n document found program =
    queued_too n s.queue (programs (libraries s) s.store) (among_programs (libraries s) s.store n s.store.documents document found program)

fresh_queued : (s : State) → AllQueued s → AreFresh s
fresh_queued s all n document found program free = absurd (not_both (is_queued s.queue n) (all n document found program) free)

-- ---- the same list

list_itself : (list : List Diagnostic) → is_same_list list list ≡ true
list_itself list = (is_same_list-Decides list list).1 refl

pub published_itself : (n : PathId) (version : ℤ) (list : List Diagnostic) → is_published (Some (record { path = n; version = version; list = list })) version list ≡ true
published_itself n version list = and_true (int_eq version version) (is_same_list list list) ((Decides-int_eq version version).1 refl) (list_itself list)

-- the same list of the same version was published
pub published_same : (last : LastList) (version : ℤ) (list : List Diagnostic) → int_eq last.version version ≡ true → last.list ≡ list → is_published (Some last) version list ≡ true
published_same last version list same is =
    and_true (int_eq last.version version) (is_same_list last.list list) same
    (subst (λ l. is_same_list last.list l ≡ true) is (list_itself last.list))

-- what was last published of a number is of that number
pub listed_path : (published : List LastList) (n : PathId) (last : LastList) → last_list published n ≡ Some last → last.path ≡ n
listed_path published n last found = same_number last.path n (found_passes (λ (l : LastList). is_number l.path n) published last found)

-- ---- what was last published

pub last_other : (published : List LastList) (last : LastList) (m : PathId) → is_number last.path m ≡ false → last_list (with_list published last) m ≡ last_list published m
last_other [] last m other = ap (λ b. cond b (Some last) None) other
last_other (x ∷ published) last m other = by_kept (is_number x.path last.path) refl (last_other published last m other) where
  others : List LastList
  others = without_list published last.path

  by_kept : (b : Bool) → is_number x.path last.path ≡ b → last_list (others ++ last ∷ []) m ≡ last_list published m
      → last_list (cond (not b) (x ∷ others) others ++ last ∷ []) m ≡ cond (is_number x.path m) (Some x) (last_list published m)
  by_kept true same behind =
      let path : is_number x.path m ≡ false = ap (λ (k : PathId). is_number k m) (same_number x.path last.path same) ∙ other in
      behind ∙ ap (λ b. cond b (Some x) (last_list published m)) (sym path)
  by_kept false differs behind = ap (λ z. cond (is_number x.path m) (Some x) z) behind

pub last_newest : (published : List LastList) (last : LastList) → last_list (with_list published last) last.path ≡ Some last
last_newest [] last = ap (λ b. cond b (Some last) None) (number_itself last.path)
last_newest (x ∷ published) last = by_kept (is_number x.path last.path) refl (last_newest published last) where
  others : List LastList
  others = without_list published last.path

  by_kept : (b : Bool) → is_number x.path last.path ≡ b → last_list (others ++ last ∷ []) last.path ≡ Some last
      → last_list (cond (not b) (x ∷ others) others ++ last ∷ []) last.path ≡ Some last
  by_kept true same behind = behind
  by_kept false differs behind = ap (λ b. cond b (Some x) (last_list (others ++ last ∷ []) last.path)) differs ∙ behind

-- ---- Turns

-- the first program is listed, and the others are as they were
fresh_publish : (s : State) (n : PathId) (rest : List PathId) (document : OpenDocument) → s.queue ≡ n ∷ rest → document_at s.store n ≡ Some document → AreFresh s
    → AreFresh (publish (without_first s) n document (list_of s n document)).state
fresh_publish s n rest document queue found fresh = by_old (is_published (last_list s.published n) document.version (list_of s n document)) refl where
  list : List Diagnostic
  list = list_of s n document

  newest : LastList
  newest = record { path = n; version = document.version; list = list }

  left : drop 1 s.queue ≡ rest
  left = ap (drop 1) queue

  others : (m : PathId) → is_number m n ≡ false → is_queued (drop 1 s.queue) m ≡ false → is_queued s.queue m ≡ false
  others m differs free = ap (λ q. is_queued q m) queue ∙ ap (λ b. b || is_queued rest m) differs ∙ ap (λ q. is_queued q m) (sym left) ∙ free

  by_old : (b : Bool) → is_published (last_list s.published n) document.version list ≡ b
      → AreFresh (cond b (quiet (without_first s)) (says (record (without_first s) { published = with_list s.published newest }) (list_body document.uri (Some document.version) list))).state
  by_old true old m other at program free = by_number (is_number m n) refl where
    by_number : (b : Bool) → is_number m n ≡ b → is_listed (without_first s) m other ≡ true
    by_number true same =
        let number = same_number m n same in
        let is : Some document ≡ Some other = sym found ∙ ap (document_at s.store) (sym number) ∙ at in
        let document_is : document ≡ other = cc in
        subst (λ z. is_listed s m z ≡ true) document_is (subst (λ k. is_listed s k document ≡ true) (sym number) old)
    by_number false differs = fresh m other at program (others m differs free)
  by_old false old m other at program free = by_number (is_number m n) refl where
    by_number : (b : Bool) → is_number m n ≡ b → is_listed (record (without_first s) { published = with_list s.published newest }) m other ≡ true
    by_number true same =
        let number = same_number m n same in
        let is : Some document ≡ Some other = sym found ∙ ap (document_at s.store) (sym number) ∙ at in
        let document_is : document ≡ other = cc in
        let here : is_published (last_list (with_list s.published newest) n) document.version list ≡ true =
        ap (λ z. is_published z document.version list) (last_newest s.published newest) ∙ published_itself n document.version list in
        subst (λ z. is_listed (record s { published = with_list s.published newest }) m z ≡ true) document_is
        (subst (λ k. is_listed (record s { published = with_list s.published newest }) k document ≡ true) (sym number) here)
    by_number false differs =
        ap (λ z. is_published z other.version (list_of s m other)) (last_other s.published newest m (other_number n m differs)) ∙ fresh m other at program (others m differs free)

-- a number without a document leaves the queue
fresh_without : (s : State) (n : PathId) (rest : List PathId) → s.queue ≡ n ∷ rest → document_at s.store n ≡ None → AreFresh s → AreFresh (without_first s)
fresh_without s n rest queue none fresh m other at program free = by_number (is_number m n) refl where
  by_number : (b : Bool) → is_number m n ≡ b → is_listed s m other ≡ true
  by_number true same =
      let is : None ≡ Some other = sym none ∙ ap (document_at s.store) (sym (same_number m n same)) ∙ at in
      cc
  by_number false differs = fresh m other at program
      (ap (λ q. is_queued q m) queue ∙ ap (λ b. b || is_queued rest m) differs ∙ ap (λ q. is_queued q m) (sym (ap (drop 1) queue)) ∙ free)

fresh_turn_at : (s : State) (n : PathId) (rest : List PathId) (document : Option OpenDocument) → s.queue ≡ n ∷ rest → document_at s.store n ≡ document → AreFresh s
    → AreFresh (turn_at (without_first s) n document).state
fresh_turn_at s n rest None queue found fresh = fresh_without s n rest queue found fresh
fresh_turn_at s n rest (Some document) queue found fresh = fresh_publish s n rest document queue found fresh

fresh_first : (s : State) → AreFresh s → AreFresh (assemble_first s).state
unfolding assemble_first
fresh_first s fresh = by_queue s.queue refl where
  by_queue : (queue : List PathId) → s.queue ≡ queue → AreFresh (turn_of s (slice_get queue 0)).state
  by_queue [] e = fresh
  by_queue (n ∷ rest) e = fresh_turn_at s n rest (document_at s.store n) e refl fresh

-- answers leave lists as they are
fresh_behind : (s : State) → AreFresh s → AreFresh (answer_waiting s).state
fresh_behind s fresh = so_behind AreFresh s fresh fresh

pub fresh_turn : (s : State) → AreFresh s → AreFresh (turn s).state
fresh_turn s fresh = fresh_behind (assemble_first s).state (fresh_first s fresh)

fresh_many : (n : ℕ) (s : State) → AreFresh s → AreFresh (assemble_many n s).state
fresh_many zero s fresh = fresh
fresh_many (suc n) s fresh = fresh_many n (assemble_first s).state (fresh_first s fresh)

-- ---- messages

-- what a step leaves: lists are fresh, but behind the end
abbrev IsGood : Effect → Type 0
IsGood step = is_ended step.state.stage ≡ false → AreFresh step.state

abbrev left_behind : State → Option PathId → Store → State
left_behind s n store = record s { store = store; queue = without s.queue n; published = published_without s.published n }

-- where every program is queued
good_queues : (s : State) (bodies : List (List ℕ)) → IsGood (record { state = queue_all s; bodies = bodies })
good_queues s bodies alive = fresh_queued (queue_all s) (all_queued s)

good_change : (s : State) (asked : Result Store StoreFault) → AreFresh s → IsGood (after_change s asked)
good_change s (Ok store) fresh = good_queues (record s { store = store }) []
good_change s (Err fault) fresh = λ alive. fresh

good_closing : (s : State) (n : Option PathId) (asked : Result Store StoreFault) → AreFresh s → IsGood (after_closing s n asked)
good_closing s n (Ok store) fresh = good_queues (left_behind s n store) (farewell_at s n)
good_closing s n (Err fault) fresh = λ alive. fresh

good_files : (s : State) → AreFresh s → HoldsOfQueues IsGood s
good_files s fresh = record { stays = λ bodies alive. fresh; queues = good_queues }

good_debugged : (s : State) (number : ℕ) (read : Result DapIn DapRefusal) → AreFresh s → IsGood (debugged s number read)
unfolding debugged
good_debugged s number read fresh = λ alive. fresh

good_effect : (s : State) (message : LspIn) (calls : List LibraryCall) → AreFresh s → Whenever IsGood (effect s message calls)
good_effect s (Initialize id root) calls fresh = good_queues (record s { stage = Active; root = root_of root }) (initialize_reply id ∷ [])
good_effect s (Shutdown id) calls fresh = λ alive. fresh_behind (assemble_all s).state (fresh_many (length s.queue) s fresh)
good_effect s (Definition id uri at) calls fresh = λ alive. fresh
good_effect s (References id uri at declarations) calls fresh = λ alive. fresh
good_effect s (Hover id uri at) calls fresh = λ alive. fresh
good_effect s (DocumentSymbol id uri) calls fresh = λ alive. fresh
good_effect s Initialized calls fresh = whenever_begun IsGood s s.root calls (good_files s fresh)
good_effect s Exit calls fresh = λ alive. cc
good_effect s (DidOpen uri language version text) calls fresh = good_change s (opened s.store uri language version text) fresh
good_effect s (DidChange uri version edits) calls fresh = good_change s (changed s.store uri version edits) fresh
good_effect s (DidClose uri) calls fresh = good_closing s (number_named s.store uri) (closed s.store uri) fresh
good_effect s DidSave calls fresh = λ alive. fresh
good_effect s DidChangeConfiguration calls fresh = λ alive. fresh
good_effect s (DidChangeWatchedFiles changes) calls fresh = whenever_watched IsGood s changes calls (good_files s fresh)
good_effect s (Cancel id) calls fresh = λ alive. fresh
good_effect s (Dap session message) calls fresh = good_debugged s session (request_of message) fresh

good_behind : (first : Effect) → IsGood first → IsGood (concluded first)
good_behind first good = so_behind (λ t. is_ended t.stage ≡ false → AreFresh t) first.state good good

good_leaves : (asked : Asked Effect) → Whenever IsGood asked → LeavesFresh (step_of asked)
good_leaves (Came effect rest) good = good
good_leaves Lacks good = tt
good_leaves Differs good = tt

pub fresh_message : (s : State) (body : List ℕ) (calls : List LibraryCall) → AreFresh s → LeavesFresh (message s body calls)
fresh_message s body calls fresh =
    good_leaves (event s body calls)
    (whenever_event IsGood s body calls (record {
      nothing = λ alive. fresh;
      refused = λ line alive. fresh;
      taken = λ told more none. good_effect s told more fresh;
      behind = good_behind;
    }))

pub fresh_start : (budget : ℕ) → AreFresh (start budget)
fresh_start budget n document found program free = cc

-- ---- changes

-- the documents, the files and what surrounds every program are as they were
abbrev IsAsBefore : State → State → Type 0
IsAsBefore s t = (t.store ≡ s.store) × (around_of t ≡ around_of s)

-- or every program is queued
abbrev KeepsThemOrQueues : State → Effect → Type 0
KeepsThemOrQueues s effect = IsAsBefore s effect.state ⊎ AllQueued effect.state

keeps_change : (s : State) (asked : Result Store StoreFault) → KeepsThemOrQueues s (after_change s asked)
keeps_change s (Ok store) = inr (all_queued (record s { store = store }))
keeps_change s (Err fault) = inl (refl, refl)

keeps_closing : (s : State) (n : Option PathId) (asked : Result Store StoreFault) → KeepsThemOrQueues s (after_closing s n asked)
keeps_closing s n (Ok store) = inr (all_queued (left_behind s n store))
keeps_closing s n (Err fault) = inl (refl, refl)

kept_cond : (b : Bool) (s t : State) (body : List ℕ) → IsAsBefore s t → IsAsBefore s (cond b (quiet s) (says t body)).state
kept_cond true s t body same = (refl, refl)
kept_cond false s t body same = same

kept_turn_at : (s : State) (n : PathId) (document : Option OpenDocument) → IsAsBefore s (turn_at s n document).state
kept_turn_at s n None = (refl, refl)
kept_turn_at s n (Some document) = kept_cond (is_published (last_list s.published n) document.version (list_of s n document)) s _ _ (refl, refl)

kept_first : (s : State) → IsAsBefore s (assemble_first s).state
unfolding assemble_first
kept_first s = by_queue (slice_get s.queue 0) where
  by_queue : (first : Option PathId) → IsAsBefore s (turn_of s first).state
  by_queue None = (refl, refl)
  by_queue (Some n) = kept_turn_at (without_first s) n (document_at s.store n)

kept_many : (n : ℕ) (s : State) → IsAsBefore s (assemble_many n s).state
kept_many zero s = (refl, refl)
kept_many (suc n) s =
    let first = kept_first s in
    let others = kept_many n (assemble_first s).state in
    (others.0 ∙ first.0, others.1 ∙ first.1)

kept_behind : (s t : State) → IsAsBefore s t → IsAsBefore s (answer_waiting t).state
kept_behind s t same = so_behind (IsAsBefore s) t same same

keeps_behind : (s : State) (first : Effect) → KeepsThemOrQueues s first → KeepsThemOrQueues s (concluded first)
keeps_behind s first keeps = so_behind (λ t. IsAsBefore s t ⊎ AllQueued t) first.state keeps keeps

keeps_files : (s : State) → HoldsOfQueues (KeepsThemOrQueues s) s
keeps_files s = record { stays = λ bodies. inl (refl, refl); queues = λ t bodies. inr (all_queued t) }

keeps_debugged : (s : State) (number : ℕ) (read : Result DapIn DapRefusal) → KeepsThemOrQueues s (debugged s number read)
unfolding debugged
keeps_debugged s number read = inl (refl, refl)

keeps_effect : (s : State) (message : LspIn) (calls : List LibraryCall) → Whenever (KeepsThemOrQueues s) (effect s message calls)
keeps_effect s (Initialize id root) calls = inr (all_queued (record s { stage = Active; root = root_of root }))
keeps_effect s (Shutdown id) calls = inl (kept_behind s (assemble_all s).state (kept_many (length s.queue) s))
keeps_effect s (Definition id uri at) calls = inl (refl, refl)
keeps_effect s (References id uri at declarations) calls = inl (refl, refl)
keeps_effect s (Hover id uri at) calls = inl (refl, refl)
keeps_effect s (DocumentSymbol id uri) calls = inl (refl, refl)
keeps_effect s Initialized calls = whenever_begun (KeepsThemOrQueues s) s s.root calls (keeps_files s)
keeps_effect s Exit calls = inl (refl, refl)
keeps_effect s (DidOpen uri language version text) calls = keeps_change s (opened s.store uri language version text)
keeps_effect s (DidChange uri version edits) calls = keeps_change s (changed s.store uri version edits)
keeps_effect s (DidClose uri) calls = keeps_closing s (number_named s.store uri) (closed s.store uri)
keeps_effect s DidSave calls = inl (refl, refl)
keeps_effect s DidChangeConfiguration calls = inl (refl, refl)
keeps_effect s (DidChangeWatchedFiles changes) calls = whenever_watched (KeepsThemOrQueues s) s changes calls (keeps_files s)
keeps_effect s (Cancel id) calls = inl (refl, refl)
keeps_effect s (Dap session message) calls = keeps_debugged s session (request_of message)

keeps_leaves : (s : State) (asked : Asked Effect) → Whenever (KeepsThemOrQueues s) asked → KeepsOrQueues s (step_of asked)
keeps_leaves s (Came effect rest) keeps = keeps
keeps_leaves s Lacks keeps = tt
keeps_leaves s Differs keeps = tt

pub change_queues : (s : State) (body : List ℕ) (calls : List LibraryCall) → KeepsOrQueues s (message s body calls)
change_queues s body calls =
    keeps_leaves s (event s body calls)
    (whenever_event (KeepsThemOrQueues s) s body calls (record {
      nothing = inl (refl, refl);
      refused = λ line. inl (refl, refl);
      taken = λ told more none. keeps_effect s told more;
      behind = keeps_behind s;
    }))
