-- What is so of an event, whatever the library answers.
use Rattle.std.proofs.Common.{◌≡◌, ℕ, Bool, true, false, cond, List, [], ◌∷◌, Option, Some, None, Result, Ok, Err, ◌⊎◌, inl, inr, refl, sym, subst}
use Rattle.serde_json.specs.Data.{Data}
use Rattle.json_view.specs.Texts.{reading}
use Rattle.io_edge.specs.LibraryCall.{LibraryCall}
use Rattle.file_uri.specs.Paths.{path_of}
use Rattle.library_reading.specs.Asked.{Asked, Came, Lacks, Differs, Asking, answered, behind}
use Rattle.library_reading.specs.Taking.{member_read}
use Rattle.library_reading.specs.Reading.{configuration_read}
use Rattle.lsp_messages.specs.declared.incoming.LspIn.{LspIn}
use Rattle.lsp_messages.specs.declared.incoming.ChangeKind.{ChangeKind}
use Rattle.lsp_messages.specs.declared.incoming.ChangeKind.TheVariants.{Created, Changed, Deleted}
use Rattle.lsp_messages.specs.declared.incoming.FileChange.{FileChange}
use Rattle.lsp_messages.specs.declared.incoming.Refusal.{Refusal}
use Rattle.lsp_messages.specs.Messages.{is_response, message_of}
use Rattle.session_core.specs.Message.{event, served, received, asked, effect, effect_of, concluded, is_passed_over, unless_refused, Watching, taking_of, after_reading, after_member, configured, member_changed, is_configuration, is_member_file, change_told, changes_told, queue_all, after_watching, begun, unconcerned}
use Rattle.session_core.specs.Refusals.{Refused, refusal, reply, is_ended}
use Rattle.session_core.specs.State.{State, libraries}
use Rattle.session_core.specs.Step.{Effect, quiet, says}

-- where questions came to a value, this is so of it
abbrev pub Whenever : {A : Type 0} → (A → Type 0) → Asked A → Type 0
Whenever Holds (Came value rest) = Holds value
Whenever Holds Lacks = Unit {0}
Whenever Holds Differs = Unit {0}

pub whenever_any : {A : Type 0} (asked : Asked A) → Whenever (λ _. Unit {0}) asked
whenever_any (Came value rest) = tt
whenever_any Lacks = tt
whenever_any Differs = tt

-- and that of what follows
pub whenever_behind : {A B : Type 0} (Holds : A → Type 0) (Then : B → Type 0) (asked : Asked A) (next : A → Asking B) → Whenever Holds asked
    → ((value : A) (calls : List LibraryCall) → Holds value → Whenever Then (next value calls)) → Whenever Then (behind asked next)
whenever_behind Holds Then (Came value rest) next so follows = follows value rest so
whenever_behind Holds Then Lacks next so follows = tt
whenever_behind Holds Then Differs next so follows = tt

-- in either case
pub whenever_cond : {A : Type 0} (Holds : A → Type 0) (b : Bool) (one other : Asking A) (calls : List LibraryCall) → Whenever Holds (one calls) → Whenever Holds (other calls)
    → Whenever Holds (cond b one other calls)
whenever_cond Holds true one other calls so also = so
whenever_cond Holds false one other calls so also = also

-- ---- events

pub whenever_unless : (Holds : Effect → Type 0) (s : State) (why : Option Refused) (event : Asking Effect) (calls : List LibraryCall) → ((body : List ℕ) → Holds (says s body))
    → (why ≡ None → Whenever Holds (event calls)) → Whenever Holds (unless_refused s why event calls)
whenever_unless Holds s None event calls said so = so refl
whenever_unless Holds s (Some why) event calls said so = said (reply why)

-- What is so where nothing changes, whatever one body is written, and of each message that is not refused, and stays so behind
-- answers, is so of each event.
pub record HoldsOfEach (Holds : Effect → Type 0) (s : State) : Type 0 where
  pub nothing : Holds (quiet s)
  pub refused : (body : List ℕ) → Holds (says s body)
  pub taken : (message : LspIn) (calls : List LibraryCall) → refusal s.stage s.store s.waiting (Some (Ok message)) ≡ None → Whenever Holds (effect s message calls)
  pub behind : (first : Effect) → Holds first → Holds (concluded first)

whenever_told : (Holds : Effect → Type 0) (s : State) (told : Result LspIn Refusal) (calls : List LibraryCall) → HoldsOfEach Holds s
    → refusal s.stage s.store s.waiting (Some told) ≡ None → Whenever Holds (effect_of s told calls)
whenever_told Holds s (Ok message) calls each none = each.taken message calls none
whenever_told Holds s (Err refusal) calls each none = each.nothing

whenever_asked : (Holds : Effect → Type 0) (s : State) (told : Result LspIn Refusal) (calls : List LibraryCall) → HoldsOfEach Holds s → Whenever Holds (asked s told calls)
whenever_asked Holds s told calls each =
    whenever_cond Holds (is_passed_over s.stage told) (answered (quiet s)) _ calls each.nothing
    (whenever_unless Holds s (refusal s.stage s.store s.waiting (Some told)) (effect_of s told) calls each.refused (whenever_told Holds s told calls each))

whenever_received : (Holds : Effect → Type 0) (s : State) (value : Option Data) (calls : List LibraryCall) → HoldsOfEach Holds s → Whenever Holds (received s value calls)
whenever_received Holds s None calls each = each.refused _
whenever_received Holds s (Some value) calls each =
    whenever_cond Holds (is_response value) (answered (quiet s)) (asked s (message_of value)) calls each.nothing (whenever_asked Holds s (message_of value) calls each)

pub whenever_event : (Holds : Effect → Type 0) (s : State) (body : List ℕ) (calls : List LibraryCall) → HoldsOfEach Holds s → Whenever Holds (event s body calls)
unfolding event
whenever_event Holds s body calls each =
    whenever_cond Holds (is_ended s.stage) (answered (quiet s)) (served s (reading body)) calls each.nothing
    (whenever_behind Holds Holds (received s (reading body) calls) (λ first. answered (concluded first)) (whenever_received Holds s (reading body) calls each)
    (λ first rest so. each.behind first so))

-- ---- messages on files

-- a message on files has concerned some, or has left the state as it was
abbrev pub IsWatching : State → Watching → Type 0
IsWatching s w = (w.concerned ≡ true) ⊎ (w.state ≡ s)

-- the configuration was read
configured_watching : (s : State) (root : List ℕ) (w : Watching) (calls : List LibraryCall) → Whenever (IsWatching s) (configured root w calls)
configured_watching s root w calls =
    whenever_behind (λ _. Unit {0}) (IsWatching s) (configuration_read root (taking_of w) calls) (λ reading. answered (after_reading w reading))
    (whenever_any (configuration_read root (taking_of w) calls)) (λ reading rest _. inl refl)

read_watching : (s : State) (path : List ℕ) (w : Watching) (calls : List LibraryCall)
    → Whenever (IsWatching s) (behind (member_read path (taking_of w) calls) (λ passed. answered (after_member w passed.taking)))
read_watching s path w calls =
    whenever_behind (λ _. Unit {0}) (IsWatching s) (member_read path (taking_of w) calls) (λ passed. answered (after_member w passed.taking))
    (whenever_any (member_read path (taking_of w) calls)) (λ passed rest _. inl refl)

member_watching : (s : State) (path : List ℕ) (kind : ChangeKind) (w : Watching) (calls : List LibraryCall) → Whenever (IsWatching s) (member_changed path kind w calls)
member_watching s path Deleted w calls = inl refl
member_watching s path Created w calls = read_watching s path w calls
member_watching s path Changed w calls = read_watching s path w calls

change_watching : (s : State) (root path : Option (List ℕ)) (kind : ChangeKind) (w : Watching) (calls : List LibraryCall) → IsWatching s w
    → Whenever (IsWatching s) (change_told root path kind w calls)
change_watching s None path kind w calls so = so
change_watching s (Some root) None kind w calls so = so
change_watching s (Some root) (Some path) kind w calls so =
    whenever_cond (IsWatching s) (is_configuration root path) (configured root w) _ calls (configured_watching s root w calls)
    (whenever_cond (IsWatching s) (is_member_file (libraries w.state) path) (member_changed path kind w) (answered w) calls (member_watching s path kind w calls) so)

changes_watching : (s : State) (changes : List FileChange) (w : Watching) (calls : List LibraryCall) → IsWatching s w → Whenever (IsWatching s) (changes_told changes w calls)
changes_watching s [] w calls so = so
changes_watching s (change ∷ changes) w calls so =
    whenever_behind (IsWatching s) (IsWatching s) (change_told w.state.root (path_of change.uri) change.kind w calls) (changes_told changes)
    (change_watching s w.state.root (path_of change.uri) change.kind w calls so) (λ v rest still. changes_watching s changes v rest still)

-- What is so where the state stays, and where every program is queued, is so behind a message on files.
pub record HoldsOfQueues (Holds : Effect → Type 0) (s : State) : Type 0 where
  pub stays : (bodies : List (List ℕ)) → Holds (record { state = s; bodies = bodies })
  pub queues : (t : State) (bodies : List (List ℕ)) → Holds (record { state = queue_all t; bodies = bodies })

whenever_after : (Holds : Effect → Type 0) (s : State) (w : Watching) → HoldsOfQueues Holds s → IsWatching s w → Holds (after_watching w)
whenever_after Holds s w each so = by_concerned w.concerned refl so where
  by_concerned : (b : Bool) → w.concerned ≡ b → IsWatching s w → Holds (record { state = cond b (queue_all w.state) w.state; bodies = w.bodies })
  by_concerned true e so = each.queues w.state w.bodies
  by_concerned false e (inl concerned) = cc
  by_concerned false e (inr same) = subst (λ (t : State). Holds (record { state = t; bodies = w.bodies })) (sym same) (each.stays w.bodies)

pub whenever_begun : (Holds : Effect → Type 0) (s : State) (root : Option (List ℕ)) (calls : List LibraryCall) → HoldsOfQueues Holds s → Whenever Holds (begun root s calls)
whenever_begun Holds s None calls each = each.queues s []
whenever_begun Holds s (Some root) calls each =
    whenever_behind (IsWatching s) Holds (configured root (unconcerned s) calls) (λ w. answered (after_watching w)) (configured_watching s root (unconcerned s) calls)
    (λ w rest so. whenever_after Holds s w each so)

pub whenever_watched : (Holds : Effect → Type 0) (s : State) (changes : List FileChange) (calls : List LibraryCall) → HoldsOfQueues Holds s
    → Whenever Holds (behind (changes_told changes (unconcerned s) calls) (λ w. answered (after_watching w)))
whenever_watched Holds s changes calls each =
    whenever_behind (IsWatching s) Holds (changes_told changes (unconcerned s) calls) (λ w. answered (after_watching w))
    (changes_watching s changes (unconcerned s) calls (inr refl)) (λ w rest so. whenever_after Holds s w each so)
