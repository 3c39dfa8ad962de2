-- One message (JSON-RPC 2.0; LSP 3.17, "Base Protocol", "Lifecycle Messages", "Text Document Synchronization",
-- "DidChangeWatchedFiles Notification"): the state behind it and what is written for it, for every body, from every state,
-- and over the calls of the library that are to come.
use Rattle.std.specs.Prelude.{ℕ, Bool, true, false, not, ◌&&◌, ◌||◌, List, [], ◌∷◌, ◌++◌, codes, take, map, filter, Option, Some}
use Rattle.std.specs.Prelude.{None, option_map, option_and_then, is_some, Result, Ok, Err, encode_utf8_all, if◌then◌else◌}
use Rattle.std.specs.List.{list_any, flat_map}
use Rattle.std.specs.Str.{bytes_eq}
use Rattle.serde_json.specs.Data.{Data}
use Rattle.json_view.specs.Texts.{reading}
use Rattle.io_edge.specs.LibraryCall.{LibraryCall}
use Rattle.file_uri.specs.Paths.{path_of}
use Rattle.member_paths.specs.Paths.{file_name_of, member_name, without_slash}
use Rattle.library_folders.specs.declared.folders.Folder.{Folder}
use Rattle.library_folders.specs.Folders.{is_member}
use Rattle.library_reading.specs.Asked.{Asking, answered, ◌>>=◌}
use Rattle.library_reading.specs.Log.{Log, empty_log, without_lines}
use Rattle.library_reading.specs.Rows.{groups_path, programs_path}
use Rattle.library_reading.specs.Taking.{Taking, path_dropped, member_read}
use Rattle.library_reading.specs.Reading.{Reading, configuration_read}
use Rattle.hl_base.specs.declared.place.PathId.{PathId}
use Rattle.lsp_messages.specs.declared.incoming.Id.{Id}
use Rattle.lsp_messages.specs.declared.incoming.LspIn.{LspIn}
use Rattle.lsp_messages.specs.declared.incoming.LspIn.TheVariants.{Initialize, Shutdown, Definition, References, Hover, DocumentSymbol}
use Rattle.lsp_messages.specs.declared.incoming.LspIn.TheVariants.{Initialized, Exit, DidOpen, DidChange, DidClose, DidSave}
use Rattle.lsp_messages.specs.declared.incoming.LspIn.TheVariants.{DidChangeConfiguration, DidChangeWatchedFiles, Cancel, Dap}
use Rattle.lsp_messages.specs.declared.incoming.ChangeKind.{ChangeKind}
use Rattle.lsp_messages.specs.declared.incoming.ChangeKind.TheVariants.{Created, Changed, Deleted}
use Rattle.lsp_messages.specs.declared.incoming.FileChange.{FileChange}
use Rattle.lsp_messages.specs.declared.incoming.Refusal.{Refusal}
use Rattle.lsp_messages.specs.declared.incoming.Refusal.TheVariants.{NotRequest, UnknownMethod, BadParams, OutOfMemory}
use Rattle.lsp_messages.specs.Messages.{is_response, message_of}
use Rattle.dap_messages.specs.Requests.{request_of}
use Rattle.waiting_requests.specs.Bodies.{cancel_reply}
use Rattle.waiting_requests.specs.Requests as requests
use Rattle.waiting_requests.specs.declared.request.Question.{Question}
use Rattle.waiting_requests.specs.declared.request.Question.TheVariants as asks
use Rattle.document_store.specs.Store.{Store, OpenDocument}
use Rattle.document_store.specs.Changes.{opened, changed, closed}
use Rattle.document_store.specs.declared.fault.StoreFault.{StoreFault}
use Rattle.session_core.specs.declared.state.LastList.{LastList}
use Rattle.session_core.specs.declared.state.Stage.{Stage}
use Rattle.session_core.specs.declared.state.Stage.TheVariants.{Active, Closing, Ended}
use Rattle.session_core.specs.Refusals.{Kind, Opens, Asks, Ends, Tells, Neither, kind_of, Refused}
use Rattle.session_core.specs.Refusals.{reply, refusal, is_active, is_closing, is_ended}
use Rattle.session_core.specs.Debugging.{debugged}
use Rattle.session_core.specs.Replies.{initialize_reply, shutdown_reply, list_body, logged_line}
use Rattle.session_core.specs.State.{State, libraries, is_number, number_at, is_program, document_at, number_named}
use Rattle.session_core.specs.State.{programs, with_programs, without, last_list, published_without, is_empty}
use Rattle.session_core.specs.Step.{Effect, quiet, says, and_then, Step, step_of}
use Rattle.session_core.specs.Turn.{assemble_all, answer_waiting}

-- ---- programs

-- every open program is queued, in order of opening
abbrev pub queue_all : State → State
queue_all s = record s { queue = with_programs s.queue (programs (libraries s) s.store) }

-- the documents have changed; where they refuse, nothing more is done
abbrev pub after_change : State → Result Store StoreFault → Effect
after_change s (Ok store) = quiet (queue_all (record s { store = store }))
after_change s (Err fault) = quiet s

-- a program that leaves has an empty list, of no version, if its last was not empty
abbrev pub farewell : Option OpenDocument → Option LastList → List (List ℕ)
farewell (Some document) (Some last) = if is_empty last.list then [] else list_body document.uri None [] ∷ []
farewell None last = []
farewell document None = []

-- what is written where the document of a number leaves
abbrev pub farewell_at : State → Option PathId → List (List ℕ)
farewell_at s None = []
farewell_at s (Some n) = farewell (document_at s.store n) (last_list s.published n)

-- the document of a number has left
abbrev pub after_leaving : State → Option PathId → Store → Effect
after_leaving s n store = record {
  state = queue_all (record s { store = store; queue = without s.queue n; published = published_without s.published n });
  bodies = farewell_at s n;
}

-- a document was closed; where there is none, nothing more is done
abbrev pub after_closing : State → Option PathId → Result Store StoreFault → Effect
after_closing s n (Ok store) = after_leaving s n store
after_closing s n (Err fault) = quiet s

-- ---- the library

-- the number of an open program
abbrev pub is_program_at : State → PathId → Bool
is_program_at s n = list_any (is_number n) (programs (libraries s) s.store)

-- what is written for each document that is no program, in order of opening, where a list of it was published
abbrev pub farewells : State → List (List ℕ)
farewells s =
    flat_map (λ document. farewell (Some document) (last_list s.published (number_at s.store document)))
    (filter (λ document. not (is_program (libraries s) document)) s.store.documents)

-- documents that are no programs any more leave the queue, and nothing is published of them
abbrev pub settled : State → Effect
settled s = record {
  state = record s {
    queue = filter (is_program_at s) s.queue;
    published = filter (λ (last : LastList). is_program_at s last.path) s.published;
  };
  bodies = farewells s;
}

-- A message on files, as far as it has come: the state, what is written so far, what was said of the library, and whether
-- it concerned the configuration or a member.
pub record Watching : Type 0 where
  pub state : State
  pub bodies : List (List ℕ)
  pub log : Log
  pub concerned : Bool

-- before anything is looked at
abbrev pub unconcerned : State → Watching
unconcerned s = record { state = s; bodies = []; log = empty_log; concerned = false }

-- this was said of the library, and then this came of the state
abbrev pub concerned_by : Watching → Effect → Log → Watching
concerned_by w effect log = record {
  state = effect.state;
  bodies = w.bodies ++ (map logged_line log.lines ++ effect.bodies);
  log = without_lines log;
  concerned = true;
}

-- what the session has where questions to the library begin
abbrev pub taking_of : Watching → Taking
taking_of w = record { store = w.state.store; log = w.log }

-- the configuration was read: it stands in place of the one before, with its files
abbrev pub after_reading : Watching → Reading → Watching
after_reading w reading =
    concerned_by w (settled (record w.state { configuration = reading.configuration; store = reading.taking.store })) reading.taking.log

-- the configuration is read
abbrev pub configured : (root : List ℕ) → Watching → Asking Watching
configured root w = configuration_read root (taking_of w) >>= (λ reading. answered (after_reading w reading))

-- a member was read, or dropped
abbrev pub after_member : Watching → Taking → Watching
after_member w taking = concerned_by w (quiet (record w.state { store = taking.store })) taking.log

-- a file of a library folder is read again, or dropped where it was deleted
abbrev pub member_changed : (path : List ℕ) → ChangeKind → Watching → Asking Watching
member_changed path Deleted w = answered (after_member w (record (taking_of w) { store = path_dropped w.state.store path }))
member_changed path Created w = member_read path (taking_of w) >>= (λ passed. answered (after_member w passed.taking))
member_changed path Changed w = member_read path (taking_of w) >>= (λ passed. answered (after_member w passed.taking))

-- a path is that of a configuration file
abbrev pub is_configuration : (root path : List ℕ) → Bool
is_configuration root path = bytes_eq path (groups_path root) || bytes_eq path (programs_path root)

-- a path is that of a file of a library folder whose name spells a symbol
abbrev pub is_member_file : List Folder → (path : List ℕ) → Bool
is_member_file folders path = is_member folders path && is_some (member_name (file_name_of path))

-- a file has changed, where the session has a root
abbrev pub file_changed : (root path : List ℕ) → ChangeKind → Watching → Asking Watching
file_changed root path kind w =
    if is_configuration root path then configured root w
    else (if is_member_file (libraries w.state) path then member_changed path kind w else answered w)

-- a change is of nothing where there is no root, or its URI names no file
abbrev pub change_told : Option (List ℕ) → Option (List ℕ) → ChangeKind → Watching → Asking Watching
change_told None path kind w = answered w
change_told (Some root) None kind w = answered w
change_told (Some root) (Some path) kind w = file_changed root path kind w

-- the changes of a message, in turn
abbrev pub changes_told : List FileChange → Watching → Asking Watching
changes_told [] w = answered w
changes_told (change ∷ changes) w = change_told w.state.root (path_of change.uri) change.kind w >>= changes_told changes

-- behind a message on files: where it concerned any, every open program is queued
abbrev pub after_watching : Watching → Effect
after_watching w = record { state = if w.concerned then queue_all w.state else w.state; bodies = w.bodies }

-- the client is ready: the configuration is read, where there is a root, and every open program is queued
abbrev pub begun : Option (List ℕ) → State → Asking Effect
begun None s = answered (quiet (queue_all s))
begun (Some root) s = configured root (unconcerned s) >>= (λ w. answered (after_watching w))

-- ---- what an accepted message does

-- the lists of all queued programs, then the answers to the requests that wait, and then the reply
abbrev pub shut : State → Id → Effect
shut s id = and_then (and_then (assemble_all s) answer_waiting) (λ t. says (record t { stage = Closing }) (shutdown_reply id))

-- the session is at its end, after shutdown was answered, or before: no program is queued, and no request waits any more
abbrev pub ended : State → State
ended s = record s { stage = Ended (is_closing s.stage); queue = []; waiting = [] }

-- the path of the root that a URI names, without the slash at its end
abbrev pub root_of : Option (List ℕ) → Option (List ℕ)
root_of uri = option_map without_slash (option_and_then path_of uri)

-- the session begins in a folder, if the client names one
abbrev pub opened_in : State → Option (List ℕ) → State
opened_in s root = queue_all (record s { stage = Active; root = root_of root })

-- a request on symbols waits behind the others
abbrev pub asks_later : State → Id → (uri : List ℕ) → Question → Effect
asks_later s id uri question = quiet (record s { waiting = s.waiting ++ record { id = id; uri = uri; question = question } ∷ [] })

-- one body or none
abbrev pub body_in : Option (List ℕ) → List (List ℕ)
body_in None = []
body_in (Some body) = body ∷ []

-- the client cancels a request: where one of that id waits, it waits no more, and is answered by that
abbrev pub cancels : State → Id → Effect
cancels s id = record { state = record s { waiting = requests.without s.waiting id }; bodies = body_in (cancel_reply s.waiting id) }

-- each message has its line
abbrev pub effect : State → LspIn → Asking Effect
effect s (Initialize id root) = answered (says (opened_in s root) (initialize_reply id))
effect s (Shutdown id) = answered (shut s id)
effect s (Definition id uri at) = answered (asks_later s id uri (asks.Definition at))
effect s (References id uri at declarations) = answered (asks_later s id uri (asks.References at declarations))
effect s (Hover id uri at) = answered (asks_later s id uri (asks.Hover at))
effect s (DocumentSymbol id uri) = answered (asks_later s id uri asks.Symbols)
effect s Initialized = begun s.root s
effect s Exit = answered (quiet (ended s))
effect s (DidOpen uri language version text) = answered (after_change s (opened s.store uri language version text))
effect s (DidChange uri version edits) = answered (after_change s (changed s.store uri version edits))
effect s (DidClose uri) = answered (after_closing s (number_named s.store uri) (closed s.store uri))
effect s DidSave = answered (quiet s)
effect s DidChangeConfiguration = answered (quiet s)
effect s (DidChangeWatchedFiles changes) = changes_told changes (unconcerned s) >>= (λ w. answered (after_watching w))
effect s (Cancel id) = answered (cancels s id)
effect s (Dap session message) = answered (debugged s session (request_of message))

-- what was read in place of a message does nothing
abbrev pub effect_of : State → Result LspIn Refusal → Asking Effect
effect_of s (Ok message) = effect s message
effect_of s (Err refusal) = answered (quiet s)

-- ---- what is passed over

-- a notification other than exit
abbrev pub is_notice : Kind → Bool
is_notice (Opens id) = false
is_notice (Asks id) = false
is_notice Ends = false
is_notice Tells = true
is_notice Neither = false

-- a method that a server may pass over
abbrev pub is_optional : (method : List ℕ) → Bool
is_optional method = bytes_eq (codes "$/") (take 2 (encode_utf8_all method))

-- a method that is not known, and may be passed over
abbrev pub is_unknown_optional : Result LspIn Refusal → Bool
is_unknown_optional (Ok message) = false
is_unknown_optional (Err NotRequest) = false
is_unknown_optional (Err (UnknownMethod head)) = is_optional head.method
is_unknown_optional (Err (BadParams head name)) = false
is_unknown_optional (Err OutOfMemory) = false

-- notifications are passed over before the session began and after shutdown, and where they are not known and optional
abbrev pub is_passed_over : Stage → Result LspIn Refusal → Bool
is_passed_over stage told = is_notice (kind_of told) && (not (is_active stage) || is_unknown_optional told)

-- ---- messages

-- what is refused is answered by that alone, and the state stays
abbrev pub unless_refused : State → Option Refused → Asking Effect → Asking Effect
unless_refused s (Some why) event = answered (says s (reply why))
unless_refused s None event = event

-- a message at a stage: its refusal, or its effect
abbrev pub asked_at : Stage → State → Result LspIn Refusal → Asking Effect
asked_at stage s told =
    if is_passed_over stage told then answered (quiet s)
    else unless_refused s (refusal stage s.store s.waiting (Some told)) (effect_of s told)

abbrev pub asked : State → Result LspIn Refusal → Asking Effect
asked s told = asked_at s.stage s told

-- a value: the answers of a client are passed over, since nothing was asked of it
abbrev pub heard : State → Data → Asking Effect
heard s value = if is_response value then answered (quiet s) else asked s (message_of value)

-- a body: its refusal where it is no JSON, or that of the message that it is
abbrev pub received : State → Option Data → Asking Effect
received s None = unless_refused s (refusal s.stage s.store s.waiting None) (answered (quiet s))
received s (Some value) = heard s value

-- behind what a message does, the requests that wait are answered, where no program is queued
abbrev pub concluded : Effect → Effect
concluded first = and_then first answer_waiting

abbrev pub served : State → Option Data → Asking Effect
served s value = received s value >>= (λ first. answered (concluded first))

-- what a message does; behind the end nothing changes
unfoldable pub event : State → List ℕ → Asking Effect
event s body = if is_ended s.stage then answered (quiet s) else served s (reading body)

-- One message, where these are the calls of the library to come.
abbrev pub message : State → List ℕ → List LibraryCall → Step
message s body calls = step_of (event s body calls)
