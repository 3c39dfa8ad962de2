-- What leaves the debug sessions, the requests that wait and the stage of a session as they were.
use Rattle.std.proofs.Common.{◌≡◌, ℕ, zero, suc, Bool, true, false, cond, List, [], ◌∷◌, length, Option, Some, None, Result, Ok, Err, refl, ◌∙◌, slice_get}
use Rattle.io_edge.specs.LibraryCall.{LibraryCall}
use Rattle.file_uri.specs.Paths.{path_of}
use Rattle.hl_base.specs.declared.place.PathId.{PathId}
use Rattle.library_reading.specs.Asked.{Asked, answered, behind}
use Rattle.library_reading.specs.Taking.{member_read}
use Rattle.library_reading.specs.Reading.{configuration_read}
use Rattle.lsp_messages.specs.declared.incoming.ChangeKind.{ChangeKind}
use Rattle.lsp_messages.specs.declared.incoming.ChangeKind.TheVariants.{Created, Changed, Deleted}
use Rattle.lsp_messages.specs.declared.incoming.FileChange.{FileChange}
use Rattle.document_store.specs.Store.{Store, OpenDocument}
use Rattle.document_store.specs.declared.fault.StoreFault.{StoreFault}
use Rattle.session_core.specs.Diagnostics.{list_of}
use Rattle.session_core.specs.Message.{Watching, taking_of, after_reading, after_member, configured, member_changed, is_configuration, is_member_file, change_told, changes_told, queue_all, after_watching, begun, unconcerned, after_change, after_closing}
use Rattle.session_core.specs.State.{State, libraries, document_at, last_list}
use Rattle.session_core.specs.Step.{Effect, quiet, says}
use Rattle.session_core.specs.Turn.{is_published, assemble_first, assemble_many, assemble_all, turn_of, turn_at, without_first}
use Rattle.session_core.proofs.AskingLaws.{Whenever, whenever_any, whenever_behind, whenever_cond}

-- they are as they were
abbrev pub IsAside : State → State → Type 0
IsAside s t = (t.debuggers ≡ s.debuggers) × ((t.waiting ≡ s.waiting) × (t.stage ≡ s.stage))

abbrev pub AreKept : State → Effect → Type 0
AreKept s effect = IsAside s effect.state

-- also on the way through a message on files
abbrev AreIn : State → Watching → Type 0
AreIn s w = IsAside s w.state

kept_cond : (b : Bool) (s t : State) (body : List ℕ) → IsAside s t → AreKept s (cond b (quiet s) (says t body))
kept_cond true s t body same = (refl, (refl, refl))
kept_cond false s t body same = same

kept_turn_at : (s : State) (n : PathId) (document : Option OpenDocument) → AreKept s (turn_at s n document)
kept_turn_at s n None = (refl, (refl, refl))
kept_turn_at s n (Some document) = kept_cond (is_published (last_list s.published n) document.version (list_of s n document)) s _ _ (refl, (refl, refl))

pub kept_first : (s : State) → AreKept s (assemble_first s)
unfolding assemble_first
kept_first s = by_queue (slice_get s.queue 0) where
  by_queue : (first : Option PathId) → AreKept s (turn_of s first)
  by_queue None = (refl, (refl, refl))
  by_queue (Some n) = kept_turn_at (without_first s) n (document_at s.store n)

kept_many : (n : ℕ) (s : State) → AreKept s (assemble_many n s)
kept_many zero s = (refl, (refl, refl))
kept_many (suc n) s =
    let first = kept_first s in
    let others = kept_many n (assemble_first s).state in
    (others.0 ∙ first.0, (others.1.0 ∙ first.1.0, others.1.1 ∙ first.1.1))

pub kept_all : (s : State) → AreKept s (assemble_all s)
kept_all s = kept_many (length s.queue) s

pub kept_change : (s : State) (asked : Result Store StoreFault) → AreKept s (after_change s asked)
kept_change s (Ok store) = (refl, (refl, refl))
kept_change s (Err fault) = (refl, (refl, refl))

pub kept_closing : (s : State) (n : Option PathId) (asked : Result Store StoreFault) → AreKept s (after_closing s n asked)
kept_closing s n (Ok store) = (refl, (refl, refl))
kept_closing s n (Err fault) = (refl, (refl, refl))

-- ---- messages on files

in_configured : (s : State) (root : List ℕ) (w : Watching) (calls : List LibraryCall) → AreIn s w → Whenever (AreIn s) (configured root w calls)
in_configured s root w calls same =
    whenever_behind (λ _. Unit {0}) (AreIn s) (configuration_read root (taking_of w) calls) (λ reading. answered (after_reading w reading))
    (whenever_any (configuration_read root (taking_of w) calls)) (λ reading rest _. same)

in_read : (s : State) (path : List ℕ) (w : Watching) (calls : List LibraryCall) → AreIn s w
    → Whenever (AreIn s) (behind (member_read path (taking_of w) calls) (λ passed. answered (after_member w passed.taking)))
in_read s path w calls same =
    whenever_behind (λ _. Unit {0}) (AreIn s) (member_read path (taking_of w) calls) (λ passed. answered (after_member w passed.taking))
    (whenever_any (member_read path (taking_of w) calls)) (λ passed rest _. same)

in_member : (s : State) (path : List ℕ) (kind : ChangeKind) (w : Watching) (calls : List LibraryCall) → AreIn s w → Whenever (AreIn s) (member_changed path kind w calls)
in_member s path Deleted w calls same = same
in_member s path Created w calls same = in_read s path w calls same
in_member s path Changed w calls same = in_read s path w calls same

in_change : (s : State) (root path : Option (List ℕ)) (kind : ChangeKind) (w : Watching) (calls : List LibraryCall) → AreIn s w
    → Whenever (AreIn s) (change_told root path kind w calls)
in_change s None path kind w calls same = same
in_change s (Some root) None kind w calls same = same
in_change s (Some root) (Some path) kind w calls same =
    whenever_cond (AreIn s) (is_configuration root path) (configured root w) _ calls (in_configured s root w calls same)
    (whenever_cond (AreIn s) (is_member_file (libraries w.state) path) (member_changed path kind w) (answered w) calls (in_member s path kind w calls same) same)

in_changes : (s : State) (changes : List FileChange) (w : Watching) (calls : List LibraryCall) → AreIn s w → Whenever (AreIn s) (changes_told changes w calls)
in_changes s [] w calls same = same
in_changes s (change ∷ changes) w calls same =
    whenever_behind (AreIn s) (AreIn s) (change_told w.state.root (path_of change.uri) change.kind w calls) (changes_told changes)
    (in_change s w.state.root (path_of change.uri) change.kind w calls same) (λ v rest still. in_changes s changes v rest still)

kept_after : (s : State) (w : Watching) → AreIn s w → AreKept s (after_watching w)
kept_after s w same = by_concerned w.concerned where
  by_concerned : (b : Bool) → AreKept s (record { state = cond b (queue_all w.state) w.state; bodies = w.bodies })
  by_concerned true = same
  by_concerned false = same

pub kept_begun : (s : State) (root : Option (List ℕ)) (calls : List LibraryCall) → Whenever (AreKept s) (begun root s calls)
kept_begun s None calls = (refl, (refl, refl))
kept_begun s (Some root) calls =
    whenever_behind (AreIn s) (AreKept s) (configured root (unconcerned s) calls) (λ w. answered (after_watching w)) (in_configured s root (unconcerned s) calls (refl, (refl, refl)))
    (λ w rest same. kept_after s w same)

pub kept_watched : (s : State) (changes : List FileChange) (calls : List LibraryCall)
    → Whenever (AreKept s) (behind (changes_told changes (unconcerned s) calls) (λ w. answered (after_watching w)))
kept_watched s changes calls =
    whenever_behind (AreIn s) (AreKept s) (changes_told changes (unconcerned s) calls) (λ w. answered (after_watching w))
    (in_changes s changes (unconcerned s) calls (refl, (refl, refl))) (λ w rest same. kept_after s w same)
