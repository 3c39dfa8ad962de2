-- Where no call of the library is to come, no answer is of another call.
use Rattle.std.proofs.Common.{ℕ, Bool, true, false, cond, List, [], ◌∷◌, Option, Some, None, Result, Ok, Err, refl}
use Rattle.serde_json.specs.Data.{Data}
use Rattle.json_view.specs.Texts.{reading}
use Rattle.file_uri.specs.Paths.{path_of}
use Rattle.library_reading.specs.Asked.{Asked, Came, Lacks, Differs, Asking, answered, IsShort}
use Rattle.library_reading.specs.Taking.{member_read}
use Rattle.library_reading.specs.Reading.{configuration_read}
use Rattle.library_reading.proofs.AskedLaws.{AreShort, short_then}
use Rattle.library_reading.proofs.ConfigurationLaws.{configuration_read-short}
use Rattle.library_reading.proofs.MemberLaws.{member_read-short}
use Rattle.lsp_messages.specs.declared.incoming.LspIn.{LspIn}
use Rattle.lsp_messages.specs.declared.incoming.LspIn.TheVariants.{Initialize, Shutdown, Definition, References, Hover, DocumentSymbol, Initialized, Exit, DidOpen, DidChange, DidClose, DidSave, DidChangeConfiguration, DidChangeWatchedFiles, Cancel, Dap}
use Rattle.lsp_messages.specs.declared.incoming.ChangeKind.{ChangeKind}
use Rattle.lsp_messages.specs.declared.incoming.ChangeKind.TheVariants.{Created, Changed, Deleted}
use Rattle.lsp_messages.specs.declared.incoming.FileChange.{FileChange}
use Rattle.lsp_messages.specs.declared.incoming.Refusal.{Refusal}
use Rattle.lsp_messages.specs.Messages.{is_response, message_of}
use Rattle.session_core.specs.Message.{message, event, served, received, asked, effect, effect_of, concluded, is_passed_over, unless_refused, Watching, taking_of, after_reading, after_member, configured, member_changed, is_configuration, is_member_file, change_told, changes_told, after_watching, begun, unconcerned}
use Rattle.session_core.specs.Refusals.{Refused, refusal, is_ended}
use Rattle.session_core.specs.State.{State, libraries}
use Rattle.session_core.specs.Step.{Effect, quiet, MakesAll, step_of}

short_cond : {A : Type 0} (b : Bool) (one other : Asking A) → AreShort one → AreShort other → AreShort (cond b one other)
short_cond true one other short also = short
short_cond false one other short also = also

-- ---- messages on files

pub short_configured : (root : List ℕ) (w : Watching) → AreShort (configured root w)
short_configured root w = short_then (configuration_read root (taking_of w)) (λ reading. answered (after_reading w reading)) (configuration_read-short root (taking_of w)) (λ reading. tt)

short_read : (path : List ℕ) (w : Watching) → AreShort (member_changed path Changed w)
short_read path w = short_then (member_read path (taking_of w)) (λ passed. answered (after_member w passed.taking)) (member_read-short path (taking_of w)) (λ passed. tt)

short_changed : (path : List ℕ) (kind : ChangeKind) (w : Watching) → AreShort (member_changed path kind w)
short_changed path Deleted w = tt
short_changed path Created w = short_read path w
short_changed path Changed w = short_read path w

pub short_change : (root path : Option (List ℕ)) (kind : ChangeKind) (w : Watching) → AreShort (change_told root path kind w)
short_change None path kind w = tt
short_change (Some root) None kind w = tt
short_change (Some root) (Some path) kind w =
    short_cond (is_configuration root path) (configured root w) _ (short_configured root w)
    (short_cond (is_member_file (libraries w.state) path) (member_changed path kind w) (answered w) (short_changed path kind w) tt)

pub short_changes : (changes : List FileChange) (w : Watching) → AreShort (changes_told changes w)
short_changes [] w = tt
short_changes (change ∷ changes) w =
    short_then (change_told w.state.root (path_of change.uri) change.kind w) (changes_told changes) (short_change w.state.root (path_of change.uri) change.kind w)
    (λ v. short_changes changes v)

pub short_begun : (root : Option (List ℕ)) (s : State) → AreShort (begun root s)
short_begun None s = tt
short_begun (Some root) s = short_then (configured root (unconcerned s)) (λ w. answered (after_watching w)) (short_configured root (unconcerned s)) (λ w. tt)

-- ---- events

short_effect : (s : State) (message : LspIn) → AreShort (effect s message)
short_effect s (Initialize id root) = tt
short_effect s (Shutdown id) = tt
short_effect s (Definition id uri at) = tt
short_effect s (References id uri at declarations) = tt
short_effect s (Hover id uri at) = tt
short_effect s (DocumentSymbol id uri) = tt
short_effect s Initialized = short_begun s.root s
short_effect s Exit = tt
short_effect s (DidOpen uri language version text) = tt
short_effect s (DidChange uri version edits) = tt
short_effect s (DidClose uri) = tt
short_effect s DidSave = tt
short_effect s DidChangeConfiguration = tt
short_effect s (DidChangeWatchedFiles changes) = short_then (changes_told changes (unconcerned s)) (λ w. answered (after_watching w)) (short_changes changes (unconcerned s)) (λ w. tt)
short_effect s (Cancel id) = tt
short_effect s (Dap session message) = tt

short_told : (s : State) (told : Result LspIn Refusal) → AreShort (effect_of s told)
short_told s (Ok message) = short_effect s message
short_told s (Err refusal) = tt

short_unless : (s : State) (why : Option Refused) (event : Asking Effect) → AreShort event → AreShort (unless_refused s why event)
short_unless s None event short = short
short_unless s (Some why) event short = tt

pub short_asked : (s : State) (told : Result LspIn Refusal) → AreShort (asked s told)
short_asked s told =
    short_cond (is_passed_over s.stage told) (answered (quiet s)) _ tt (short_unless s (refusal s.stage s.store s.waiting (Some told)) (effect_of s told) (short_told s told))

pub short_received : (s : State) (value : Option Data) → AreShort (received s value)
short_received s None = tt
short_received s (Some value) = short_cond (is_response value) (answered (quiet s)) (asked s (message_of value)) tt (short_asked s (message_of value))

pub short_served : (s : State) (value : Option Data) → AreShort (served s value)
short_served s value = short_then (received s value) (λ first. answered (concluded first)) (short_received s value) (λ first. tt)

pub short_event : (s : State) (body : List ℕ) → AreShort (event s body)
unfolding event
short_event s body = short_cond (is_ended s.stage) (answered (quiet s)) (served s (reading body)) tt (short_served s (reading body))

makes_all : (asked : Asked Effect) → IsShort asked → MakesAll (step_of asked)
makes_all (Came effect []) short = refl
makes_all (Came effect (call ∷ calls)) short = absurd short
makes_all Lacks short = tt
makes_all Differs short = absurd short

-- where no call is to come, none is another
pub message_unanswered : (s : State) (body : List ℕ) → MakesAll (message s body [])
message_unanswered s body = makes_all (event s body []) (short_event s body)
