-- A Turn: the first queued program leaves the queue, and its list is published, of its text as it is now; then, with an empty
-- queue, the requests that wait are answered (this project). Nothing is kept of earlier lists but what was last published, and
-- answers are of the texts as they are now.
use Rattle.std.specs.Prelude.{ℕ, ℤ, zero, suc, Bool, false, ◌&&◌, List, [], Option, Some, None, length, drop, slice_get, if◌then◌else◌}
use Rattle.std.specs.Ordering.{int_eq}
use Rattle.hl_base.specs.declared.place.PathId.{PathId}
use Rattle.document_store.specs.Store.{OpenDocument}
use Rattle.lsp_messages.specs.declared.outgoing.Diagnostic.{Diagnostic}
use Rattle.lsp_messages.specs.Same.{is_same_list}
use Rattle.session_core.specs.declared.state.LastList.{LastList}
use Rattle.session_core.specs.Diagnostics.{list_of}
use Rattle.waiting_requests.specs.Bodies.{replies_to}
use Rattle.session_core.specs.Names.{program_names}
use Rattle.session_core.specs.State.{State, is_idle, document_at, last_list, with_list}
use Rattle.session_core.specs.Step.{Effect, quiet, says, and_then}
use Rattle.session_core.specs.Replies.{list_body}

-- this version and this list were the last to be published; before the first list of a program none was
abbrev pub is_published : Option LastList → ℤ → List Diagnostic → Bool
is_published None version list = false
is_published (Some last) version list = int_eq last.version version && is_same_list last.list list

-- a program's list is published, unless it was already
abbrev pub publish : State → PathId → OpenDocument → List Diagnostic → Effect
publish s n document list =
    if is_published (last_list s.published n) document.version list then quiet s
    else says
    (record s { published = with_list s.published (record { path = n; version = document.version; list = list }) })
    (list_body document.uri (Some document.version) list)

-- the list of the document of a number
abbrev pub turn_at : State → PathId → Option OpenDocument → Effect
turn_at s n None = quiet s
turn_at s n (Some document) = publish s n document (list_of s n document)

-- the state without the first queued program
abbrev pub without_first : State → State
without_first s = record s { queue = drop 1 s.queue }

abbrev pub turn_of : State → Option PathId → Effect
turn_of s None = quiet s
turn_of s (Some n) = turn_at (without_first s) n (document_at s.store n)

-- the first queued program leaves the queue, and its list is published; where no program is queued, nothing
unfoldable pub assemble_first : State → Effect
assemble_first s = turn_of s (slice_get s.queue 0)

-- so many programs, one after another
abbrev pub assemble_many : ℕ → State → Effect
assemble_many zero s = quiet s
assemble_many (suc n) s = and_then (assemble_first s) (assemble_many n)

-- all queued programs; the requests that wait are not answered between them
abbrev pub assemble_all : State → Effect
assemble_all s = assemble_many (length s.queue) s

-- the requests that wait are answered, in the order of arrival; then none waits
abbrev pub answer_all : State → Effect
answer_all s = record { state = record s { waiting = [] }; bodies = replies_to s.store (program_names s) s.waiting }

-- so it is where no program is queued; where one is, they go on waiting
unfoldable pub answer_waiting : State → Effect
answer_waiting s = if is_idle s.queue then answer_all s else quiet s

-- one Turn
abbrev pub turn : State → Effect
turn s = and_then (assemble_first s) answer_waiting
