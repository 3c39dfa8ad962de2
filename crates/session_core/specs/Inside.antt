-- Words of contracts that no public clause cites (this project).
use Rattle.std.specs.Prelude.{◌≡◌, ℕ, ◌<◌, ◌≤◌, true, not, ◌++◌, ◌&&◌, List, [], ◌∷◌, length, map, filter}
use Rattle.std.specs.Prelude.{Option, Some, None, IfSome, Result, Ok, Err, if◌then◌else◌}
use Rattle.hl_base.specs.declared.place.PathId.{PathId}
use Rattle.hl_base.specs.declared.memory.OutOfMemory.{OutOfMemory}
use Rattle.io_edge.specs.LibraryCall.{LibraryCall}
use Rattle.io_edge.specs.Told.{Gains}
use Rattle.lsp_messages.specs.declared.incoming.Id.{Id}
use Rattle.lsp_messages.specs.declared.incoming.Refusal.TheVariants.{UnknownMethod, BadParams}
use Rattle.lsp_messages.specs.declared.outgoing.Diagnostic.{Diagnostic}
use Rattle.lsp_messages.specs.declared.outgoing.LspOut.{LspOut}
use Rattle.lsp_messages.specs.declared.outgoing.LspOut.TheVariants.{Reply, Fault, Log, Published, Dap}
use Rattle.library_folders.specs.declared.configuration.Configuration.{Configuration}
use Rattle.library_folders.specs.declared.folders.Folder.{Folder}
use Rattle.library_reading.specs.Asked.{Asking, Came, IsShort, answered}
use Rattle.group_members.specs.Members.{Indexes}
use Rattle.group_members.specs.declared.index.MemberIndex.{MemberIndex}
use Rattle.trace_values.specs.declared.item.TraceItem.{TraceItem}
use Rattle.trace_arena.specs.Points.{Point}
use Rattle.document_store.specs.Store.{Store, OpenDocument, number_of}
use Rattle.document_store.specs.Shown.{Shows}
use Rattle.document_store.specs.declared.document.Document.{Document}
use Rattle.document_store.specs.declared.limits.TheConstants.{MOST_DOCUMENTS}
use Rattle.document_store.specs.declared.fault.StoreFault.{StoreFault}
use Rattle.waiting_requests.specs.Names.{Names}
use Rattle.waiting_requests.specs.declared.request.Question.{Question}
use Rattle.session_core.specs.declared.state.LastList.{LastList}
use Rattle.session_core.specs.declared.watching.Watch.{Watch}
use Rattle.session_core.specs.Debugging.{trace_of}
use Rattle.session_core.specs.Diagnostics.{diagnostics_of}
use Rattle.session_core.specs.SessionView.{SessionView}
use Rattle.session_core.specs.Message.{after_change, after_closing, asked, asks_later, farewell, unless_refused, Watching, configured}
use Rattle.session_core.specs.Names.{names_of, names_over_all}
use Rattle.session_core.specs.Refusals.{Asks, too_early, out_of_place, repeats, first_of, log_fault}
use Rattle.session_core.specs.State.{State, Around, libraries, libraries_of, is_program, is_queued, number_at, document_at, last_list}
use Rattle.session_core.specs.Step.{Effect, written}
use Rattle.session_core.specs.Turn.{is_published}

-- the number of a document, if it is a program that is not queued
abbrev pub wanted_of : List Folder → List PathId → OpenDocument → PathId → List PathId
wanted_of folders queue document n = if is_program folders document && not (is_queued queue n) then n ∷ [] else []

-- the numbers of those of these documents that are programs and not queued
abbrev pub wanted_from : List Folder → List PathId → Store → List OpenDocument → List PathId
wanted_from folders queue store documents =
    filter (λ n. not (is_queued queue n)) (map (number_at store) (filter (is_program folders) documents))

-- the list of a message that publishes one
abbrev pub list_told : LspOut → Option (List Diagnostic)
list_told (Published uri version list) = Some list
list_told (Reply id result) = None
list_told (Fault id code message) = None
list_told (Log message) = None
list_told (Dap session message) = None

-- a change of the documents that this message asks for: its line of the log, or its effect
abbrev pub change_asked : State → (method : List ℕ) → Result Store StoreFault → Asking Effect
change_asked s method asked = unless_refused s (first_of (log_fault method asked ∷ [])) (answered (after_change s asked))

-- a document that is to be closed: the line of the log, or the effect
abbrev pub closing_asked : State → (method : List ℕ) → Option PathId → Result Store StoreFault → Asking Effect
closing_asked s method n asked = unless_refused s (first_of (log_fault method asked ∷ [])) (answered (after_closing s n asked))

-- a message of no known method
abbrev pub unknown_asked : State → Option Id → (method : List ℕ) → Asking Effect
unknown_asked s id method = asked s (Err (UnknownMethod (record { id = id; method = method })))

-- a message with a parameter that is missing or of a wrong kind
abbrev pub wrong_asked : State → Option Id → (method name : List ℕ) → Asking Effect
wrong_asked s id method name = asked s (Err (BadParams (record { id = id; method = method }) name))

-- a request on symbols: why it is refused, or it waits
abbrev pub symbols_asked : State → Id → (uri : List ℕ) → Question → Asking Effect
symbols_asked s id uri question =
    unless_refused s
    (first_of (too_early (Asks id) s.stage ∷ out_of_place (Asks id) s.stage ∷ repeats (Asks id) s.waiting ∷ None ∷ None ∷ None ∷ []))
    (answered (asks_later s id uri question))

-- ---- which lists are of the documents as they are

-- the path of each of these documents has a number
abbrev pub AreNumbered : (paths : List (List ℕ)) → List OpenDocument → Type 0
AreNumbered paths [] = Unit {0}
AreNumbered paths (document ∷ others) = ((n : ℕ) × (number_of paths document.path ≡ Some n)) × AreNumbered paths others

-- the list of a program among these documents and files
abbrev pub list_in : Around → Store → PathId → OpenDocument → List Diagnostic
list_in around store n document = diagnostics_of around.root around.configuration store around.budget n document

-- the library folders
abbrev pub libraries_in : Around → List Folder
libraries_in around = libraries_of around.root around.configuration

-- what the open programs among these documents and files tell of names
abbrev pub names_among : Around → Store → List Names
names_among around store = names_over_all around.root around.configuration store around.budget

-- what was last published of each of these programs is its list, of its version and its text as they are, with the members
-- as they are
abbrev pub AreListed : (listed : List PathId) → Around → Store → List LastList → Type 0
AreListed listed around store published = (n : PathId) (document : OpenDocument)
    → is_queued listed n ≡ true → document_at store n ≡ Some document
    → is_published (last_list published n) document.version (list_in around store n document) ≡ true

-- what is true of the documents of a session and of the programs whose lists are of what is there
pub record IsSound (listed : List PathId) (around : Around) (store : Store) (published : List LastList) : Type 0 where
  pub few : length store.documents ≤ MOST_DOCUMENTS
  pub numbered : AreNumbered store.paths store.documents
  pub given : (n : PathId) → is_queued listed n ≡ true → n.0 < length store.paths
  pub are_listed : AreListed listed around store published

-- what is true of the parts of a session: that, and that the library folders, the index of members and what the programs tell of
-- names, where these are kept, are those that they should be
pub record IsWhole (listed : List PathId) (folders : List Folder) (index : Option MemberIndex) (names : Option (List Names))
    (around : Around) (store : Store) (published : List LastList) : Type 0 where
  pub sound : IsSound listed around store published
  pub folders_are : folders ≡ libraries_in around
  pub index_is : IfSome index (Indexes store)
  pub names_are : IfSome names (λ told. told ≡ names_among around store)

-- ---- messages on files

-- what is written for a document of this number, unless it is a program
abbrev pub farewell_unless : State → OpenDocument → PathId → List (List ℕ)
farewell_unless s document n = if is_program (libraries s) document then [] else farewell (Some document) (last_list s.published n)

-- a message on files as the code has it, beside the state
abbrev pub watched_so_far : State → Watch → Watching
watched_so_far s watch = record { state = s; bodies = watch.bodies; log = watch.logs; concerned = watch.concerned }

-- the configuration is read where there is a root
abbrev pub configured_where : Option (List ℕ) → Watching → Asking Watching
configured_where None w = answered w
configured_where (Some root) w = configured root w

-- ---- names

-- this is what the program of the document of a number tells of names
abbrev pub TellsNames : State → PathId → (shown : Document) → Names → Type 0
TellsNames s n shown names = (document : OpenDocument) → document_at s.store n ≡ Some document → Shows s.store.paths document shown
    → names ≡ names_of s.root s.configuration s.store s.budget n document

-- ---- launches

-- this is the trace of the document of a number, as it is shown
abbrev pub TellsTrace : State → PathId → (shown : Document) → List (Point TraceItem) → Type 0
TellsTrace s n shown trace = (document : OpenDocument) → document_at s.store n ≡ Some document → Shows s.store.paths document shown
    → trace ≡ trace_of s n document

-- ---- a session

-- a session has gone to this state and added these bodies, with memory or without it
abbrev pub Adds : Effect → (before now : SessionView) → Type 0
Adds effect before now = now ≡ record { state = effect.state; output = before.output ++ written effect.bodies; spent = before.spent }

-- nothing was added to the output
abbrev pub KeepsOutput : (before now : SessionView) → Type 0
KeepsOutput before now = (now.output ≡ before.output) × (now.spent ≡ before.spent)

-- A message came over the calls that were made to the state that the session has now, and its bodies were added to the output;
-- or memory ran out behind them, and nothing was added.
abbrev pub HearsBy : {T : Type 0} → Asking Effect → Result T OutOfMemory → (calls : List LibraryCall) → (before now : SessionView) → Type 0
HearsBy event (Ok _) calls before now =
    (bodies : List (List ℕ))
    × ((more : List LibraryCall) → event (calls ++ more) ≡ Came (record { state = now.state; bodies = bodies }) more)
    × (now.output ≡ before.output ++ written bodies) × (now.spent ≡ before.spent)
HearsBy event (Err _) calls before now = IsShort (event calls) × KeepsOutput before now

-- some calls were made, and the library tells that it gained them
pub record HearsOver {T : Type 0} (event : Asking Effect) (result : Result T OutOfMemory)
    (calls_before calls_now : Option (List LibraryCall)) (before now : SessionView) : Type 0 where
  pub calls : List LibraryCall
  pub made : Gains calls_before calls calls_now
  pub heard : HearsBy event result calls before now
