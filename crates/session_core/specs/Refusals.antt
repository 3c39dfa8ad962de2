-- Why a message is refused (JSON-RPC 2.0, "Error object"; LSP 3.17, "Base Protocol", `ErrorCodes`): one table, a line for
-- each reason, in the order in which they are tried.
use Rattle.std.specs.Prelude.{ℕ, Bool, true, false, not, List, [], ◌∷◌, codes, Option, Some}
use Rattle.std.specs.Prelude.{None, option_map, Result, Ok, Err, encode_utf8_all}
use Rattle.std.specs.Str.{bytes_eq}
use Rattle.lsp_messages.specs.declared.incoming.Id.{Id}
use Rattle.lsp_messages.specs.declared.incoming.LspIn.{LspIn}
use Rattle.lsp_messages.specs.declared.incoming.LspIn.TheVariants.{Initialize, Shutdown, Definition, References, Hover, DocumentSymbol}
use Rattle.lsp_messages.specs.declared.incoming.LspIn.TheVariants.{Initialized, Exit, DidOpen, DidChange, DidClose, DidSave}
use Rattle.lsp_messages.specs.declared.incoming.LspIn.TheVariants.{DidChangeConfiguration, DidChangeWatchedFiles, Cancel, Dap}
use Rattle.lsp_messages.specs.declared.incoming.Refusal.{Refusal}
use Rattle.lsp_messages.specs.declared.incoming.Refusal.TheVariants.{NotRequest, UnknownMethod, BadParams, OutOfMemory}
use Rattle.document_store.specs.Store.{Store}
use Rattle.document_store.specs.Changes.{opened, changed, closed}
use Rattle.document_store.specs.declared.fault.StoreFault.{StoreFault}
use Rattle.waiting_requests.specs.Requests.{waits}
use Rattle.waiting_requests.specs.declared.request.Request.{Request}
use Rattle.session_core.specs.declared.state.Stage.{Stage}
use Rattle.session_core.specs.declared.state.Stage.TheVariants.{Fresh, Active, Closing, Ended}
use Rattle.session_core.specs.Replies.{parse_error, invalid_request, not_initialized, unknown_method}
use Rattle.session_core.specs.Replies.{bad_parameter, log_line, bad_params, refusal_of}

-- ---- how far the session has come

-- nothing was answered yet
abbrev pub is_fresh : Stage → Bool
is_fresh Fresh = true
is_fresh Active = false
is_fresh Closing = false
is_fresh (Ended closed) = false

-- initialize was answered, and shutdown was not
abbrev pub is_active : Stage → Bool
is_active Fresh = false
is_active Active = true
is_active Closing = false
is_active (Ended closed) = false

-- shutdown was answered
abbrev pub is_closing : Stage → Bool
is_closing Fresh = false
is_closing Active = false
is_closing Closing = true
is_closing (Ended closed) = false

-- exit came
abbrev pub is_ended : Stage → Bool
is_ended Fresh = false
is_ended Active = false
is_ended Closing = false
is_ended (Ended closed) = true

-- no request is taken any more
abbrev pub is_closed : Stage → Bool
is_closed Fresh = false
is_closed Active = false
is_closed Closing = true
is_closed (Ended closed) = true

-- ---- what a message is

-- the first request of a session, another request, the end, another notification, or none of these
pub data Kind : Type 0 where
  Opens : (id : Id) → Kind
  Asks : (id : Id) → Kind
  Ends : Kind
  Tells : Kind
  Neither : Kind

abbrev pub kind_of_message : LspIn → Kind
kind_of_message (Initialize id root) = Opens id
kind_of_message (Shutdown id) = Asks id
kind_of_message (Definition id uri at) = Asks id
kind_of_message (References id uri at declarations) = Asks id
kind_of_message (Hover id uri at) = Asks id
kind_of_message (DocumentSymbol id uri) = Asks id
kind_of_message Initialized = Tells
kind_of_message Exit = Ends
kind_of_message (DidOpen uri language version text) = Tells
kind_of_message (DidChange uri version edits) = Tells
kind_of_message (DidClose uri) = Tells
kind_of_message DidSave = Tells
kind_of_message DidChangeConfiguration = Tells
kind_of_message (DidChangeWatchedFiles changes) = Tells
kind_of_message (Cancel id) = Tells
kind_of_message (Dap session message) = Tells

-- of what is known by its head alone
abbrev pub kind_of_head : Option Id → (opens : Bool) → Kind
kind_of_head None opens = Tells
kind_of_head (Some id) true = Opens id
kind_of_head (Some id) false = Asks id

-- the method of the first request
abbrev pub is_initialize : (method : List ℕ) → Bool
is_initialize method = bytes_eq (encode_utf8_all method) (codes "initialize")

-- want of memory is no message: `message_of` never gives it
abbrev pub kind_of : Result LspIn Refusal → Kind
kind_of (Ok message) = kind_of_message message
kind_of (Err NotRequest) = Neither
kind_of (Err (UnknownMethod head)) = kind_of_head head.id false
kind_of (Err (BadParams head name)) = kind_of_head head.id (is_initialize head.method)
kind_of (Err OutOfMemory) = Neither

-- ---- the reasons

pub data Refused : Type 0 where
  NoJson : Refused
  NoRequest : Refused
  TooEarly : (id : Id) → Refused
  OutOfPlace : (id : Id) → Refused
  NotKnown : (id : Id) → Refused
  BadParameter : (id : Id) (name : List ℕ) → Refused
  Logged : (method why : List ℕ) → Refused

-- what is written for it: the one reply, or the one line of the log
abbrev pub reply : Refused → List ℕ
reply NoJson = parse_error
reply NoRequest = invalid_request None
reply (TooEarly id) = not_initialized id
reply (OutOfPlace id) = invalid_request (Some id)
reply (NotKnown id) = unknown_method id
reply (BadParameter id name) = bad_parameter id name
reply (Logged method why) = log_line method why

-- this reason, where that holds
abbrev pub where_so : Bool → Refused → Option Refused
where_so true why = Some why
where_so false why = None

-- no message of JSON-RPC 2.0
abbrev pub no_request : Result LspIn Refusal → Option Refused
no_request (Ok message) = None
no_request (Err NotRequest) = Some NoRequest
no_request (Err (UnknownMethod head)) = None
no_request (Err (BadParams head name)) = None
no_request (Err OutOfMemory) = None

-- a request before the first
abbrev pub too_early : Kind → Stage → Option Refused
too_early (Opens id) stage = None
too_early (Asks id) stage = where_so (is_fresh stage) (TooEarly id)
too_early Ends stage = None
too_early Tells stage = None
too_early Neither stage = None

-- the first request once more, or any request after shutdown was answered
abbrev pub out_of_place : Kind → Stage → Option Refused
out_of_place (Opens id) stage = where_so (not (is_fresh stage)) (OutOfPlace id)
out_of_place (Asks id) stage = where_so (is_closed stage) (OutOfPlace id)
out_of_place Ends stage = None
out_of_place Tells stage = None
out_of_place Neither stage = None

-- a request with the id of one that waits
abbrev pub repeats : Kind → List Request → Option Refused
repeats (Opens id) waiting = where_so (waits waiting id) (OutOfPlace id)
repeats (Asks id) waiting = where_so (waits waiting id) (OutOfPlace id)
repeats Ends waiting = None
repeats Tells waiting = None
repeats Neither waiting = None

-- a request of no known method
abbrev pub not_known : Result LspIn Refusal → Option Refused
not_known (Ok message) = None
not_known (Err NotRequest) = None
not_known (Err (UnknownMethod head)) = option_map NotKnown head.id
not_known (Err (BadParams head name)) = None
not_known (Err OutOfMemory) = None

-- a parameter of a request is missing or of a wrong kind
abbrev pub wrong_parameter : Result LspIn Refusal → Option Refused
wrong_parameter (Ok message) = None
wrong_parameter (Err NotRequest) = None
wrong_parameter (Err (UnknownMethod head)) = None
wrong_parameter (Err (BadParams head name)) = option_map (λ id. BadParameter id name) head.id
wrong_parameter (Err OutOfMemory) = None

-- the documents stay as they are
abbrev pub log_fault : (method : List ℕ) → Result Store StoreFault → Option Refused
log_fault method (Ok store) = None
log_fault method (Err fault) = Some (Logged method (refusal_of fault))

-- a message that the documents refuse
abbrev pub refused_by_store : Store → LspIn → Option Refused
refused_by_store store (Initialize id root) = None
refused_by_store store (Shutdown id) = None
refused_by_store store (Definition id uri at) = None
refused_by_store store (References id uri at declarations) = None
refused_by_store store (Hover id uri at) = None
refused_by_store store (DocumentSymbol id uri) = None
refused_by_store store Initialized = None
refused_by_store store Exit = None
refused_by_store store (DidOpen uri language version text) =
    log_fault (codes "textDocument/didOpen") (opened store uri language version text)
refused_by_store store (DidChange uri version edits) = log_fault (codes "textDocument/didChange") (changed store uri version edits)
refused_by_store store (DidClose uri) = log_fault (codes "textDocument/didClose") (closed store uri)
refused_by_store store DidSave = None
refused_by_store store DidChangeConfiguration = None
refused_by_store store (DidChangeWatchedFiles changes) = None
refused_by_store store (Cancel id) = None
refused_by_store store (Dap session message) = None

-- a notification of no known method, with a wrong parameter, or that the documents refuse
abbrev pub logged : Store → Result LspIn Refusal → Option Refused
logged store (Ok message) = refused_by_store store message
logged store (Err NotRequest) = None
logged store (Err (UnknownMethod head)) = Some (Logged (encode_utf8_all head.method) (codes "UnknownMethod"))
logged store (Err (BadParams head name)) = Some (Logged (encode_utf8_all head.method) (bad_params name))
logged store (Err OutOfMemory) = None

-- ---- the table

-- the first reason that there is
abbrev pub first_of : List (Option Refused) → Option Refused
first_of [] = None
first_of (None ∷ others) = first_of others
first_of (Some why ∷ others) = Some why

-- why a message is refused, if it is, where these requests wait; a body that is no JSON is none
abbrev pub refusal : Stage → Store → List Request → Option (Result LspIn Refusal) → Option Refused
refusal stage store waiting None = Some NoJson
refusal stage store waiting (Some told) = first_of (
    no_request told
    ∷ too_early (kind_of told) stage
    ∷ out_of_place (kind_of told) stage
    ∷ repeats (kind_of told) waiting
    ∷ not_known told
    ∷ wrong_parameter told
    ∷ logged store told
    ∷ [])
