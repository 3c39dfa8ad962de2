-- What a message and a Turn do to what a session knows does not depend on its queue, on what it has published and on which
-- requests wait.
use Rattle.std.proofs.Common.{◌≡◌, ◌&&◌, ℕ, zero, suc, Bool, true, false, cond, List, [], ◌∷◌, length, Option, Some, None, Result, Ok, Err, slice_get, refl, sym, ap, ◌∙◌}
use Rattle.serde_json.specs.Data.{Data}
use Rattle.json_view.specs.Texts.{reading}
use Rattle.io_edge.specs.LibraryCall.{LibraryCall}
use Rattle.file_uri.specs.Paths.{path_of}
use Rattle.hl_base.specs.declared.place.PathId.{PathId}
use Rattle.document_store.specs.Store.{Store, OpenDocument}
use Rattle.document_store.specs.Changes.{opened, changed, closed}
use Rattle.document_store.specs.declared.fault.StoreFault.{StoreFault}
use Rattle.library_reading.specs.Asked.{Asked, Came, Lacks, Differs, Asking, answered, behind}
use Rattle.library_reading.specs.Taking.{member_read}
use Rattle.library_reading.specs.Reading.{configuration_read}
use Rattle.lsp_messages.specs.declared.incoming.Id.{Id}
use Rattle.lsp_messages.specs.declared.incoming.LspIn.{LspIn}
use Rattle.lsp_messages.specs.declared.incoming.LspIn.TheVariants.{Initialize, Shutdown, Definition, References, Hover, DocumentSymbol, Initialized, Exit, DidOpen, DidChange, DidClose, DidSave, DidChangeConfiguration, DidChangeWatchedFiles, Cancel, Dap}
use Rattle.lsp_messages.specs.declared.incoming.ChangeKind.{ChangeKind}
use Rattle.lsp_messages.specs.declared.incoming.ChangeKind.TheVariants.{Created, Changed, Deleted}
use Rattle.lsp_messages.specs.declared.incoming.FileChange.{FileChange}
use Rattle.lsp_messages.specs.declared.incoming.Refusal.{Refusal}
use Rattle.lsp_messages.specs.Messages.{is_response, message_of}
use Rattle.dap_messages.specs.Requests.{request_of}
use Rattle.dap_messages.specs.declared.requests.DapIn.{DapIn}
use Rattle.dap_messages.specs.declared.requests.DapRefusal.{DapRefusal}
use Rattle.waiting_requests.specs.Requests.{waits}
use Rattle.waiting_requests.specs.declared.request.Request.{Request}
use Rattle.session_core.specs.declared.state.Stage.{Stage}
use Rattle.session_core.specs.declared.state.Stage.TheVariants.{Fresh, Active, Closing, Ended}
use Rattle.session_core.specs.Debugging.{debugged}
use Rattle.session_core.specs.Diagnostics.{list_of}
use Rattle.session_core.specs.Message.{message, event, served, received, asked, effect, effect_of, concluded, is_passed_over, unless_refused, after_change, after_closing, Watching, taking_of, after_reading, after_member, configured, member_changed, is_configuration, is_member_file, change_told, changes_told, queue_all, after_watching, begun, unconcerned}
use Rattle.session_core.specs.Refusals.{Refused, OutOfPlace, where_so, first_of, refusal, is_fresh, is_active, is_ended}
use Rattle.session_core.specs.State.{State, is_idle, libraries, document_at, last_list, number_named}
use Rattle.session_core.specs.Step.{Effect, quiet, says, Step, Goes, Stopped, Other, step_of}
use Rattle.session_core.specs.Turn.{is_published, turn_at, turn_of, without_first, assemble_first, assemble_many, assemble_all, answer_all, answer_waiting, turn}
use Rattle.schedule_law.specs.Schedules.{known, is_held_up, is_value_held_up, is_body_held_up}
use Rattle.schedule_law.proofs.QuietLaws.{IsQuiet}

-- ---- questions, with something left out of what they come to

abbrev pub mapped : {A B : Type 0} → (A → B) → Asked A → Asked B
mapped f (Came value rest) = Came (f value) rest
mapped f Lacks = Lacks
mapped f Differs = Differs

-- what follows does not depend on what is left out
through : {A B : Type 0} (p : A → A) (q : B → B) (first : Asked A) (next : A → Asking B)
    → ((value : A) (calls : List LibraryCall) → mapped q (next value calls) ≡ mapped q (next (p value) calls))
    → mapped q (behind first next) ≡ mapped q (behind (mapped p first) next)
through p q (Came value rest) next same = same value rest
through p q Lacks next same = refl
through p q Differs next same = refl

behind_same : {A B : Type 0} (p : A → A) (q : B → B) (first also : Asked A) (next : A → Asking B) → mapped p first ≡ mapped p also
    → ((value : A) (calls : List LibraryCall) → mapped q (next value calls) ≡ mapped q (next (p value) calls))
    → mapped q (behind first next) ≡ mapped q (behind also next)
behind_same p q first also next is same =
    through p q first next same ∙ ap (λ z. mapped q (behind z next)) is ∙ sym (through p q also next same)

-- the same questions, and what follows comes to the same
next_same : {A B : Type 0} (q : B → B) (first : Asked A) (next other : A → Asking B)
    → ((value : A) (calls : List LibraryCall) → mapped q (next value calls) ≡ mapped q (other value calls))
    → mapped q (behind first next) ≡ mapped q (behind first other)
next_same q (Came value rest) next other same = same value rest
next_same q Lacks next other same = refl
next_same q Differs next other same = refl

-- in either case
cond_same : {A : Type 0} (q : A → A) (b : Bool) (one other first second : Asking A) (calls : List LibraryCall)
    → mapped q (one calls) ≡ mapped q (first calls) → mapped q (other calls) ≡ mapped q (second calls)
    → mapped q (cond b one other calls) ≡ mapped q (cond b first second calls)
cond_same q true one other first second calls so also = so
cond_same q false one other first second calls so also = also

-- ---- Turns leave what is known

known_cond : (b : Bool) (s t : State) (body : List ℕ) → known t ≡ known s → known (cond b (quiet s) (says t body)).state ≡ known s
known_cond true s t body same = refl
known_cond false s t body same = same

known_turn_at : (s : State) (n : PathId) (document : Option OpenDocument) → known (turn_at s n document).state ≡ known s
known_turn_at s n None = refl
known_turn_at s n (Some document) = known_cond (is_published (last_list s.published n) document.version (list_of s n document)) s _ _ refl

known_first : (s : State) → known (assemble_first s).state ≡ known s
unfolding assemble_first
known_first s = by_queue (slice_get s.queue 0) where
  by_queue : (first : Option PathId) → known (turn_of s first).state ≡ known s
  by_queue None = refl
  by_queue (Some n) = known_turn_at (without_first s) n (document_at s.store n)

-- so do answers to the requests that wait
known_answers : (s : State) → known (answer_waiting s).state ≡ known s
unfolding answer_waiting
known_answers s = by_idle (is_idle s.queue) where
  by_idle : (b : Bool) → known (cond b (answer_all s) (quiet s)).state ≡ known s
  by_idle true = refl
  by_idle false = refl

pub known_turn : (s : State) → known (turn s).state ≡ known s
known_turn s = known_answers (assemble_first s).state ∙ known_first s

known_many : (n : ℕ) (s : State) → known (assemble_many n s).state ≡ known s
known_many zero s = refl
known_many (suc n) s = known_many n (assemble_first s).state ∙ known_first s

known_all : (s : State) → known (assemble_all s).state ≡ known s
known_all s = known_many (length s.queue) s

-- ---- messages on files

-- a message on files as far as it has come, but for the queue, what was published and what is written
abbrev noted : Watching → Watching
noted w = record w { state = known w.state; bodies = [] }

-- an effect, but for the same
abbrev kept : Effect → Effect
kept e = record { state = known e.state; bodies = [] }

configured_same : (root : List ℕ) (w : Watching) (calls : List LibraryCall) → mapped noted (configured root w calls) ≡ mapped noted (configured root (noted w) calls)
configured_same root w calls =
    next_same noted (configuration_read root (taking_of w) calls) (λ reading. answered (after_reading w reading)) (λ reading. answered (after_reading (noted w) reading))
    (λ reading rest. refl)

read_same : (path : List ℕ) (w : Watching) (calls : List LibraryCall)
    → mapped noted (behind (member_read path (taking_of w) calls) (λ passed. answered (after_member w passed.taking)))
    ≡ mapped noted (behind (member_read path (taking_of w) calls) (λ passed. answered (after_member (noted w) passed.taking)))
read_same path w calls =
    next_same noted (member_read path (taking_of w) calls) (λ passed. answered (after_member w passed.taking)) (λ passed. answered (after_member (noted w) passed.taking))
    (λ passed rest. refl)

member_same : (path : List ℕ) (kind : ChangeKind) (w : Watching) (calls : List LibraryCall)
    → mapped noted (member_changed path kind w calls) ≡ mapped noted (member_changed path kind (noted w) calls)
member_same path Deleted w calls = refl
member_same path Created w calls = read_same path w calls
member_same path Changed w calls = read_same path w calls

change_same : (root path : Option (List ℕ)) (kind : ChangeKind) (w : Watching) (calls : List LibraryCall)
    → mapped noted (change_told root path kind w calls) ≡ mapped noted (change_told root path kind (noted w) calls)
change_same None path kind w calls = refl
change_same (Some root) None kind w calls = refl
change_same (Some root) (Some path) kind w calls =
    cond_same noted (is_configuration root path) (configured root w) _ (configured root (noted w)) _ calls (configured_same root w calls)
    (cond_same noted (is_member_file (libraries w.state) path) (member_changed path kind w) (answered w) (member_changed path kind (noted w)) (answered (noted w)) calls
    (member_same path kind w calls) refl)

changes_same : (changes : List FileChange) (w : Watching) (calls : List LibraryCall) → mapped noted (changes_told changes w calls) ≡ mapped noted (changes_told changes (noted w) calls)
changes_same [] w calls = refl
changes_same (change ∷ changes) w calls =
    behind_same noted noted (change_told w.state.root (path_of change.uri) change.kind w calls) (change_told w.state.root (path_of change.uri) change.kind (noted w) calls)
    (changes_told changes) (change_same w.state.root (path_of change.uri) change.kind w calls) (λ v rest. changes_same changes v rest)

-- behind them
after_same : (w : Watching) (calls : List LibraryCall) → mapped kept (answered (after_watching w) calls) ≡ mapped kept (answered (after_watching (noted w)) calls)
after_same w calls = by_concerned w.concerned where
  by_concerned : (b : Bool)
      → mapped kept (Came (record { state = cond b (queue_all w.state) w.state; bodies = w.bodies }) calls)
      ≡ mapped kept (Came (record { state = cond b (queue_all (known w.state)) (known w.state); bodies = [] }) calls)
  by_concerned true = refl
  by_concerned false = refl

begun_same : (root : Option (List ℕ)) (s : State) (calls : List LibraryCall) → mapped kept (begun root s calls) ≡ mapped kept (begun root (known s) calls)
begun_same None s calls = refl
begun_same (Some root) s calls =
    behind_same noted kept (configured root (unconcerned s) calls) (configured root (unconcerned (known s)) calls) (λ w. answered (after_watching w))
    (configured_same root (unconcerned s) calls) after_same

watched_same : (changes : List FileChange) (s : State) (calls : List LibraryCall)
    → mapped kept (behind (changes_told changes (unconcerned s) calls) (λ w. answered (after_watching w)))
    ≡ mapped kept (behind (changes_told changes (unconcerned (known s)) calls) (λ w. answered (after_watching w)))
watched_same changes s calls =
    behind_same noted kept (changes_told changes (unconcerned s) calls) (changes_told changes (unconcerned (known s)) calls) (λ w. answered (after_watching w))
    (changes_same changes (unconcerned s) calls) after_same

-- ---- messages

taken_same : (s : State) (asked : Result Store StoreFault) (calls : List LibraryCall)
    → mapped kept (answered (after_change s asked) calls) ≡ mapped kept (answered (after_change (known s) asked) calls)
taken_same s (Ok store) calls = refl
taken_same s (Err fault) calls = refl

closing_same : (s : State) (n : Option PathId) (asked : Result Store StoreFault) (calls : List LibraryCall)
    → mapped kept (answered (after_closing s n asked) calls) ≡ mapped kept (answered (after_closing (known s) n asked) calls)
closing_same s n (Ok store) calls = refl
closing_same s n (Err fault) calls = refl

debugged_same : (s : State) (number : ℕ) (read : Result DapIn DapRefusal) (calls : List LibraryCall)
    → mapped kept (answered (debugged s number read) calls) ≡ mapped kept (answered (debugged (known s) number read) calls)
unfolding debugged
debugged_same s number read calls = refl

-- the programs and the answers of a shutdown
shut_same : (s : State) → known (answer_waiting (assemble_all s).state).state ≡ known (answer_waiting (assemble_all (known s)).state).state
shut_same s =
    known_answers (assemble_all s).state ∙ known_all s ∙ sym (known_answers (assemble_all (known s)).state ∙ known_all (known s))

effect_same : (s : State) (message : LspIn) (calls : List LibraryCall) → mapped kept (effect s message calls) ≡ mapped kept (effect (known s) message calls)
effect_same s (Initialize id root) calls = refl
effect_same s (Shutdown id) calls = ap (λ (z : State). Came (record { state = record z { stage = Closing }; bodies = [] }) calls) (shut_same s)
effect_same s (Definition id uri at) calls = refl
effect_same s (References id uri at declarations) calls = refl
effect_same s (Hover id uri at) calls = refl
effect_same s (DocumentSymbol id uri) calls = refl
effect_same s Initialized calls = begun_same s.root s calls
effect_same s Exit calls = refl
effect_same s (DidOpen uri language version text) calls = taken_same s (opened s.store uri language version text) calls
effect_same s (DidChange uri version edits) calls = taken_same s (changed s.store uri version edits) calls
effect_same s (DidClose uri) calls = closing_same s (number_named s.store uri) (closed s.store uri) calls
effect_same s DidSave calls = refl
effect_same s DidChangeConfiguration calls = refl
effect_same s (DidChangeWatchedFiles changes) calls = watched_same changes s calls
effect_same s (Cancel id) calls = refl
effect_same s (Dap session message) calls = debugged_same s session (request_of message) calls

-- ---- refusals

-- why a message is refused, where these requests wait
abbrev why : State → List Request → LspIn → Option Refused
why s waiting message = refusal s.stage s.store waiting (Some (Ok message))

-- nothing waits where the session may begin
opening_same : (s : State) (id : Id) (root : Option (List ℕ)) → IsQuiet s → why s s.waiting (Initialize id root) ≡ why s [] (Initialize id root)
opening_same s id root so = by_stage s.stage so where
  by_stage : (stage : Stage) → (is_fresh stage ≡ true → s.waiting ≡ [])
      → refusal stage s.store s.waiting (Some (Ok (Initialize id root))) ≡ refusal stage s.store [] (Some (Ok (Initialize id root)))
  by_stage Fresh none = ap (λ (w : List Request). refusal Fresh s.store w (Some (Ok (Initialize id root)))) (none refl)
  by_stage Active none = refl
  by_stage Closing none = refl
  by_stage (Ended closed) none = refl

-- a shutdown that is not held up is refused by its stage alone
closing_why : (s : State) (id : Id) → (is_active s.stage && waits s.waiting id) ≡ false → why s s.waiting (Shutdown id) ≡ why s [] (Shutdown id)
closing_why s id free = by_stage s.stage free where
  by_stage : (stage : Stage) → (is_active stage && waits s.waiting id) ≡ false
      → refusal stage s.store s.waiting (Some (Ok (Shutdown id))) ≡ refusal stage s.store [] (Some (Ok (Shutdown id)))
  by_stage Fresh none = refl
  by_stage Active none = ap (λ (b : Bool). first_of (None ∷ None ∷ None ∷ where_so b (OutOfPlace id) ∷ None ∷ None ∷ None ∷ [])) none
  by_stage Closing none = refl
  by_stage (Ended closed) none = refl

-- a message that is taken or refused alike
unless_same : (s : State) (why also : Option Refused) (event other : Asking Effect) (calls : List LibraryCall) → why ≡ also
    → mapped kept (event calls) ≡ mapped kept (other calls) → mapped kept (unless_refused s why event calls) ≡ mapped kept (unless_refused (known s) also other calls)
unless_same s why also event other calls is same =
    ap (λ (z : Option Refused). mapped kept (unless_refused s z event calls)) is ∙ by_reason also where
      by_reason : (also : Option Refused) → mapped kept (unless_refused s also event calls) ≡ mapped kept (unless_refused (known s) also other calls)
      by_reason None = same
      by_reason (Some reason) = refl

-- what leaves what is known makes no difference, also where it is refused
aside : (s : State) (why : Option Refused) (event : Asking Effect) (calls : List LibraryCall) → mapped kept (event calls) ≡ Came (kept (quiet s)) calls
    → mapped kept (unless_refused s why event calls) ≡ Came (kept (quiet s)) calls
aside s None event calls same = same
aside s (Some reason) event calls same = refl

aside_same : (s : State) (why also : Option Refused) (event other : Asking Effect) (calls : List LibraryCall)
    → mapped kept (event calls) ≡ Came (kept (quiet s)) calls → mapped kept (other calls) ≡ Came (kept (quiet s)) calls
    → mapped kept (unless_refused s why event calls) ≡ mapped kept (unless_refused (known s) also other calls)
aside_same s why also event other calls one two = aside s why event calls one ∙ sym (aside (known s) also other calls two)

-- ---- each message

-- a message does the same to what is known, whichever requests wait
abbrev IsHeard : State → LspIn → List LibraryCall → Type 0
IsHeard s message calls =
    mapped kept (unless_refused s (why s s.waiting message) (effect s message) calls)
    ≡ mapped kept (unless_refused (known s) (why s [] message) (effect (known s) message) calls)

taken_alike : (s : State) (message : LspIn) (calls : List LibraryCall) → why s s.waiting message ≡ why s [] message
    → mapped kept (effect s message calls) ≡ mapped kept (effect (known s) message calls) → IsHeard s message calls
taken_alike s message calls is same = unless_same s (why s s.waiting message) (why s [] message) (effect s message) (effect (known s) message) calls is same

left_alone : (s : State) (message : LspIn) (calls : List LibraryCall) → mapped kept (effect s message calls) ≡ Came (kept (quiet s)) calls
    → mapped kept (effect (known s) message calls) ≡ Came (kept (quiet s)) calls → IsHeard s message calls
left_alone s message calls one two = aside_same s (why s s.waiting message) (why s [] message) (effect s message) (effect (known s) message) calls one two

message_heard : (s : State) (message : LspIn) (calls : List LibraryCall) → IsQuiet s → is_held_up s (Ok message) ≡ false → IsHeard s message calls
message_heard s (Initialize id root) calls so free = taken_alike s (Initialize id root) calls (opening_same s id root so) refl
message_heard s (Shutdown id) calls so free = taken_alike s (Shutdown id) calls (closing_why s id free) (effect_same s (Shutdown id) calls)
message_heard s (Definition id uri at) calls so free = left_alone s (Definition id uri at) calls refl refl
message_heard s (References id uri at declarations) calls so free = left_alone s (References id uri at declarations) calls refl refl
message_heard s (Hover id uri at) calls so free = left_alone s (Hover id uri at) calls refl refl
message_heard s (DocumentSymbol id uri) calls so free = left_alone s (DocumentSymbol id uri) calls refl refl
message_heard s Initialized calls so free = taken_alike s Initialized calls refl (effect_same s Initialized calls)
message_heard s Exit calls so free = taken_alike s Exit calls refl refl
message_heard s (DidOpen uri language version text) calls so free =
    taken_alike s (DidOpen uri language version text) calls refl (effect_same s (DidOpen uri language version text) calls)
message_heard s (DidChange uri version edits) calls so free =
    taken_alike s (DidChange uri version edits) calls refl (effect_same s (DidChange uri version edits) calls)
message_heard s (DidClose uri) calls so free = taken_alike s (DidClose uri) calls refl (effect_same s (DidClose uri) calls)
message_heard s DidSave calls so free = left_alone s DidSave calls refl refl
message_heard s DidChangeConfiguration calls so free = left_alone s DidChangeConfiguration calls refl refl
message_heard s (DidChangeWatchedFiles changes) calls so free =
    taken_alike s (DidChangeWatchedFiles changes) calls refl (effect_same s (DidChangeWatchedFiles changes) calls)
message_heard s (Cancel id) calls so free = left_alone s (Cancel id) calls refl refl
message_heard s (Dap session message) calls so free = taken_alike s (Dap session message) calls refl (effect_same s (Dap session message) calls)

told_heard : (s : State) (told : Result LspIn Refusal) (calls : List LibraryCall) → IsQuiet s → is_held_up s told ≡ false
    → mapped kept (unless_refused s (refusal s.stage s.store s.waiting (Some told)) (effect_of s told) calls)
    ≡ mapped kept (unless_refused (known s) (refusal s.stage s.store [] (Some told)) (effect_of (known s) told) calls)
told_heard s (Ok message) calls so free = message_heard s message calls so free
told_heard s (Err fault) calls so free =
    aside_same s (refusal s.stage s.store s.waiting (Some (Err fault))) (refusal s.stage s.store [] (Some (Err fault))) (answered (quiet s)) (answered (quiet (known s)))
    calls refl refl

asked_same : (s : State) (told : Result LspIn Refusal) (calls : List LibraryCall) → IsQuiet s → is_held_up s told ≡ false
    → mapped kept (asked s told calls) ≡ mapped kept (asked (known s) told calls)
asked_same s told calls so free =
    cond_same kept (is_passed_over s.stage told) (answered (quiet s)) _ (answered (quiet (known s))) _ calls refl (told_heard s told calls so free)

received_same : (s : State) (value : Option Data) (calls : List LibraryCall) → IsQuiet s → is_value_held_up s value ≡ false
    → mapped kept (received s value calls) ≡ mapped kept (received (known s) value calls)
received_same s None calls so free = refl
received_same s (Some value) calls so free =
    cond_same kept (is_response value) (answered (quiet s)) (asked s (message_of value)) (answered (quiet (known s))) (asked (known s) (message_of value)) calls
    refl (asked_same s (message_of value) calls so free)

-- the answers behind it leave what is known
concluded_same : (first : Effect) → kept (concluded first) ≡ kept (concluded (kept first))
concluded_same first =
    ap (λ (z : State). record { state = z; bodies = [] }) (known_answers first.state ∙ sym (known_answers (known first.state)))

served_same : (s : State) (value : Option Data) (calls : List LibraryCall) → IsQuiet s → is_value_held_up s value ≡ false
    → mapped kept (served s value calls) ≡ mapped kept (served (known s) value calls)
served_same s value calls so free =
    behind_same kept kept (received s value calls) (received (known s) value calls) (λ first. answered (concluded first)) (received_same s value calls so free)
    (λ first rest. ap (λ (z : Effect). Came z rest) (concluded_same first))

event_same : (s : State) (body : List ℕ) (calls : List LibraryCall) → IsQuiet s → is_body_held_up s body ≡ false
    → mapped kept (event s body calls) ≡ mapped kept (event (known s) body calls)
unfolding event
event_same s body calls so free =
    cond_same kept (is_ended s.stage) (answered (quiet s)) (served s (reading body)) (answered (quiet (known s))) (served (known s) (reading body)) calls
    refl (served_same s (reading body) calls so free)

-- what is known behind a step, with the calls that are left
abbrev pub known_behind : Step → Asked State
known_behind (Goes next bodies rest) = Came (known next) rest
known_behind Stopped = Lacks
known_behind Other = Differs

behind_event : (asked : Asked Effect) → known_behind (step_of asked) ≡ mapped (λ (e : Effect). e.state) (mapped kept asked)
behind_event (Came effect rest) = refl
behind_event Lacks = refl
behind_event Differs = refl

pub message_same : (s : State) (body : List ℕ) (calls : List LibraryCall) → IsQuiet s → is_body_held_up s body ≡ false
    → known_behind (message s body calls) ≡ known_behind (message (known s) body calls)
message_same s body calls so free =
    behind_event (event s body calls) ∙ ap (mapped (λ (e : Effect). e.state)) (event_same s body calls so free) ∙ sym (behind_event (event (known s) body calls))
