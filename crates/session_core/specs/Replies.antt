-- The bodies that a session writes (JSON-RPC 2.0, "Response object"; LSP 3.17, `ErrorCodes`, `LogMessageParams`).
use Rattle.std.specs.Prelude.{ℕ, ℤ, pos, neg_ℤ, List, ◌++◌, codes, Option, Some, None, encode_utf8_all}
use Rattle.std.specs.Fmt.{decimal}
use Rattle.std.specs.Str.{chars}
use Rattle.serde_json.specs.Data.{null}
use Rattle.serde_json.specs.Written.{compact_text}
use Rattle.lsp_messages.specs.declared.incoming.Id.{Id}
use Rattle.lsp_messages.specs.declared.outgoing.Diagnostic.{Diagnostic}
use Rattle.lsp_messages.specs.declared.outgoing.LspOut.TheVariants.{Fault, Log, Published}
use Rattle.lsp_messages.specs.Written.{reply_value, text_of, initialize_result_value}
use Rattle.document_store.specs.declared.fault.StoreFault.{StoreFault}
use Rattle.document_store.specs.declared.fault.StoreFault.TheVariants.{BadUri, AlreadyOpen, TooMany, TextTooLong, NotOpen}
use Rattle.document_store.specs.declared.fault.StoreFault.TheVariants.{BadRange, LibraryTooLarge, OutOfMemory}

-- ---- answers

-- what the server offers
abbrev pub initialize_reply : Id → List ℕ
initialize_reply id = compact_text (reply_value id initialize_result_value)

-- the session will end
abbrev pub shutdown_reply : Id → List ℕ
shutdown_reply id = compact_text (reply_value id null)

-- ---- refusals

abbrev pub refusal : Option Id → (code : ℤ) → (text : List ℕ) → List ℕ
refusal id code text = text_of (Fault id code (chars text))

-- the body is no JSON
abbrev pub parse_error : List ℕ
parse_error = refusal None (neg_ℤ (pos 32700)) (codes "parse error")

-- no message, or one that may not stand here
abbrev pub invalid_request : Option Id → List ℕ
invalid_request id = refusal id (neg_ℤ (pos 32600)) (codes "invalid request")

-- a request before the session began
abbrev pub not_initialized : Id → List ℕ
not_initialized id = refusal (Some id) (neg_ℤ (pos 32002)) (codes "not initialized")

-- no such request
abbrev pub unknown_method : Id → List ℕ
unknown_method id = refusal (Some id) (neg_ℤ (pos 32601)) (codes "unknown method")

-- a parameter is missing or of a wrong kind
abbrev pub bad_parameter : Id → (name : List ℕ) → List ℕ
bad_parameter id name = refusal (Some id) (neg_ℤ (pos 32602)) (codes "bad parameter: " ++ encode_utf8_all name)

-- ---- the log

-- a line of the log: the method of a notification, and why it was refused
abbrev pub log_line : (method why : List ℕ) → List ℕ
log_line method why = text_of (Log (chars (method ++ (codes ": " ++ why))))

-- a line that is written as it is
abbrev pub logged_line : (line : List ℕ) → List ℕ
logged_line line = text_of (Log line)

-- a notification's parameter is missing or of a wrong kind
abbrev pub bad_params : (name : List ℕ) → List ℕ
bad_params name = codes "BadParams(" ++ (encode_utf8_all name ++ codes ")")

-- why the documents stay as they are
abbrev pub refusal_of : StoreFault → List ℕ
refusal_of BadUri = codes "BadUri"
refusal_of AlreadyOpen = codes "AlreadyOpen"
refusal_of TooMany = codes "TooMany"
refusal_of TextTooLong = codes "TextTooLong"
refusal_of NotOpen = codes "NotOpen"
refusal_of (BadRange number) = codes "BadRange(" ++ (decimal number ++ codes ")")
refusal_of LibraryTooLarge = codes "LibraryTooLarge"
refusal_of OutOfMemory = codes "OutOfMemory"

-- ---- lists

-- the list of a document: of this version of it, or of one that left
abbrev pub list_body : (uri : List ℕ) → Option ℤ → List Diagnostic → List ℕ
list_body uri version list = text_of (Published uri version list)
