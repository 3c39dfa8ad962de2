-- The message that a JSON value is, or why it is none (JSON-RPC 2.0, "Request object"; LSP 3.17, "Base Protocol").
use Rattle.std.specs.Prelude.{ℕ, List, Bool, false, ◌&&◌, ◌||◌, codes, is_none, is_some, unwrap_or, if◌then◌else◌, Option, Some, None, option_map, option_and_then, Result, Ok, Err, chars}
use Rattle.std.specs.Str.{bytes_eq}
use Rattle.serde_json.specs.Data.{Data}
use Rattle.serde_json.specs.Find.{get, as_str}
use Rattle.json_view.specs.Members.{member_of, unless_missing}
use Rattle.lsp_messages.specs.declared.incoming.Head.{Head}
use Rattle.lsp_messages.specs.declared.incoming.Id.{Id}
use Rattle.lsp_messages.specs.declared.incoming.LspIn.{LspIn}
use Rattle.lsp_messages.specs.declared.incoming.LspIn.TheVariants.{Initialize, Shutdown, Definition, References, Hover, DocumentSymbol, Initialized, Exit, DidSave, DidChangeConfiguration}
use Rattle.lsp_messages.specs.declared.incoming.Refusal.{Refusal}
use Rattle.lsp_messages.specs.declared.incoming.Refusal.TheVariants.{NotRequest, UnknownMethod, BadParams, OutOfMemory}
use Rattle.lsp_messages.specs.declared.parameters.Parameter.{Parameter}
use Rattle.lsp_messages.specs.declared.parameters.ParameterFault.{ParameterFault}
use Rattle.lsp_messages.specs.declared.parameters.ParameterFault.TheVariants.{Bad, OutOfMemory as no_room}
use Rattle.lsp_messages.specs.declared.shapes.AskedPlace.{AskedPlace}
use Rattle.lsp_messages.specs.declared.shapes.AskedReferences.{AskedReferences}
use Rattle.lsp_messages.specs.Parameters.{name_of, as_id, ◌>>=◌}
use Rattle.lsp_messages.specs.Shapes.{root_of, place_asked, references_asked, document_asked, opened, changed, closed, watched, cancelled, debugged}

-- ---- what a message says of itself

-- an answer to a request of ours: it has a result or an error, and no method
abbrev pub is_response : Data → Bool
is_response value =
    is_none (get (codes "method") value)
    && (is_some (get (codes "result") value) || is_some (get (codes "error") value))

-- the version that a message must name
abbrev pub is_version_2 : Data → Bool
is_version_2 value = unwrap_or (option_map (bytes_eq (codes "2.0")) (option_and_then as_str (get (codes "jsonrpc") value))) false

-- what there is, or no request
abbrev pub or_no_request : {A F : Type 0} → Result A F → Result A Refusal
or_no_request (Ok value) = Ok value
or_no_request (Err fault) = Err NotRequest

-- the method, a text
abbrev pub method_of : Data → Result (List ℕ) Refusal
method_of message = or_no_request (member_of as_str (codes "method") message)

-- the id, which may be missing, but not null
abbrev pub id_of : Data → Result (Option Id) Refusal
id_of message = or_no_request (unless_missing (member_of as_id (codes "id") message))

-- the message's head, of this method and id
abbrev pub head_with : List ℕ → Option Id → Head
head_with method id = record { id = id; method = chars method }

-- ---- messages

-- a message, or the parameter that is missing or wrong
abbrev pub unless_bad : Head → Result LspIn Parameter → Result LspIn Refusal
unless_bad head (Ok message) = Ok message
unless_bad head (Err parameter) = Err (BadParams head (chars (name_of parameter)))

-- the refusal that a fault of the parameters is
abbrev pub refusal_for : Head → ParameterFault → Refusal
refusal_for head (Bad parameter) = BadParams head (chars (name_of parameter))
refusal_for head no_room = OutOfMemory

-- initialize, with the root
abbrev pub initialized_at : Id → Result (Option (List ℕ)) Parameter → Result LspIn Parameter
initialized_at id (Ok root) = Ok (Initialize id root)
initialized_at id (Err parameter) = Err parameter

-- textDocument/definition, of the place
abbrev pub definition_at : Id → Result AskedPlace Parameter → Result LspIn Parameter
definition_at id (Ok asked) = Ok (Definition id asked.uri asked.at)
definition_at id (Err parameter) = Err parameter

-- textDocument/references, of the place and whether the definition counts too
abbrev pub references_at : Id → Result AskedReferences Parameter → Result LspIn Parameter
references_at id (Ok asked) = Ok (References id asked.uri asked.at asked.declarations)
references_at id (Err parameter) = Err parameter

-- textDocument/hover, of the place
abbrev pub hover_at : Id → Result AskedPlace Parameter → Result LspIn Parameter
hover_at id (Ok asked) = Ok (Hover id asked.uri asked.at)
hover_at id (Err parameter) = Err parameter

-- textDocument/documentSymbol, of the document
abbrev pub symbols_of : Id → Result (List ℕ) Parameter → Result LspIn Parameter
symbols_of id (Ok uri) = Ok (DocumentSymbol id uri)
symbols_of id (Err parameter) = Err parameter

-- the request of this method
abbrev pub request_of : List ℕ → Id → Data → Result LspIn Refusal
request_of method id message =
    if bytes_eq method (codes "initialize") then unless_bad (head_with method (Some id)) (initialized_at id (root_of message)) else
    (if bytes_eq method (codes "shutdown") then Ok (Shutdown id) else
    (if bytes_eq method (codes "textDocument/definition") then unless_bad (head_with method (Some id)) (definition_at id (place_asked message)) else
    (if bytes_eq method (codes "textDocument/references") then unless_bad (head_with method (Some id)) (references_at id (references_asked message)) else
    (if bytes_eq method (codes "textDocument/hover") then unless_bad (head_with method (Some id)) (hover_at id (place_asked message)) else
    (if bytes_eq method (codes "textDocument/documentSymbol") then unless_bad (head_with method (Some id)) (symbols_of id (document_asked message)) else
    Err (UnknownMethod (head_with method (Some id))))))))

-- the notification of this method
abbrev pub notification_of : List ℕ → Data → Result LspIn Refusal
notification_of method message =
    if bytes_eq method (codes "initialized") then Ok Initialized else
    (if bytes_eq method (codes "exit") then Ok Exit else
    (if bytes_eq method (codes "textDocument/didOpen") then unless_bad (head_with method None) (opened message) else
    (if bytes_eq method (codes "textDocument/didChange") then unless_bad (head_with method None) (changed message) else
    (if bytes_eq method (codes "textDocument/didClose") then unless_bad (head_with method None) (closed message) else
    (if bytes_eq method (codes "textDocument/didSave") then Ok DidSave else
    (if bytes_eq method (codes "workspace/didChangeConfiguration") then Ok DidChangeConfiguration else
    (if bytes_eq method (codes "workspace/didChangeWatchedFiles") then unless_bad (head_with method None) (watched message) else
    (if bytes_eq method (codes "$/cancelRequest") then unless_bad (head_with method None) (cancelled message) else
    (if bytes_eq method (codes "hlasm/dap") then unless_bad (head_with method None) (debugged message) else
    Err (UnknownMethod (head_with method None)))))))))))

-- the message of this method: a request where it has an id, else a notification
abbrev pub message_named : List ℕ → Option Id → Data → Result LspIn Refusal
message_named method (Some id) message = request_of method id message
message_named method None message = notification_of method message

-- the message that an object of that version is
abbrev pub message_told : Data → Result LspIn Refusal
message_told message = do
  method ← method_of message
  id ← id_of message
  message_named method id message

-- the message that a value is, or the first refusal
unfoldable pub message_of : Data → Result LspIn Refusal
message_of value = if is_version_2 value then message_told value else Err NotRequest

-- what a refusal says of a message, which want of memory does not
abbrev pub said_by : Refusal → Option Refusal
said_by OutOfMemory = None
said_by refusal = Some refusal
