-- What is written, as JSON values and their texts (JSON-RPC 2.0, "Response object"; LSP 3.17, `InitializeResult`,
-- `PublishDiagnosticsParams`, `LogMessageParams`, `Location`, `Hover`, `DocumentSymbol`). Members stand in the order of the
-- bytes of their names.
use Rattle.std.specs.Prelude.{ℕ, ℤ, List, [], ◌∷◌, Bool, true, false, codes, map, encode_utf8_all, Option, Some, None}
use Rattle.serde_json.specs.Data.{Data, Members, null, boolean, number, unsigned, string, array, object, member, no_members}
use Rattle.serde_json.specs.Find.{of_integer}
use Rattle.serde_json.specs.View.{view, items_of}
use Rattle.serde_json.specs.Written.{compact_text, has_float}
use Rattle.hl_base.specs.declared.edit.Position.{Position}
use Rattle.lsp_messages.specs.declared.incoming.Id.{Id}
use Rattle.lsp_messages.specs.declared.incoming.Id.TheVariants.{Number, Words}
use Rattle.lsp_messages.specs.declared.outgoing.Span.{Span}
use Rattle.lsp_messages.specs.declared.outgoing.Relation.{Relation}
use Rattle.lsp_messages.specs.declared.outgoing.Diagnostic.{Diagnostic}
use Rattle.lsp_messages.specs.declared.outgoing.Location.{Location}
use Rattle.lsp_messages.specs.declared.outgoing.SymbolKind.{SymbolKind}
use Rattle.lsp_messages.specs.declared.outgoing.SymbolKind.TheVariants.{Variable, Constant}
use Rattle.lsp_messages.specs.declared.outgoing.DocumentSymbol.{DocumentSymbol}
use Rattle.lsp_messages.specs.declared.outgoing.SymbolAnswer.{SymbolAnswer}
use Rattle.lsp_messages.specs.declared.outgoing.SymbolAnswer.TheVariants.{Nothing, Place, Places, Hover, Symbols}
use Rattle.lsp_messages.specs.declared.outgoing.LspOut.{LspOut}
use Rattle.lsp_messages.specs.declared.outgoing.LspOut.TheVariants.{Reply, Fault, Log, Published, Dap}

-- a text as JSON has it
abbrev pub text_value : List ℕ → Data
text_value text = string (encode_utf8_all text)

-- ---- answers

-- an id
abbrev pub id_value : Id → Data
id_value (Number n) = number (of_integer n)
id_value (Words text) = text_value text

-- the id that is answered, null where none could be read
abbrev pub answered_value : Option Id → Data
answered_value None = null
answered_value (Some id) = id_value id

-- an answer with this result
abbrev pub reply_value : Id → Data → Data
reply_value id result =
    object (member (codes "id") (id_value id)
    (member (codes "jsonrpc") (string (codes "2.0"))
    (member (codes "result") result no_members)))

-- a code and what it means
abbrev pub error_value : ℤ → List ℕ → Data
error_value code message =
    object (member (codes "code") (number (of_integer code))
    (member (codes "message") (text_value message) no_members))

-- a refusal
abbrev pub fault_value : Option Id → ℤ → List ℕ → Data
fault_value id code message =
    object (member (codes "error") (error_value code message)
    (member (codes "id") (answered_value id)
    (member (codes "jsonrpc") (string (codes "2.0")) no_members)))

-- ---- notifications

-- a notification with these parameters
abbrev pub notification_value : List ℕ → Data → Data
notification_value method params =
    object (member (codes "jsonrpc") (string (codes "2.0"))
    (member (codes "method") (string method)
    (member (codes "params") params no_members)))

-- a line for the log, as a warning
abbrev pub log_params : List ℕ → Data
log_params message =
    object (member (codes "message") (text_value message)
    (member (codes "type") (number (unsigned 2)) no_members))

-- a place, by its line and its UTF-16 units, both from 0
abbrev pub position_value : Position → Data
position_value position =
    object (member (codes "character") (number (unsigned position.character))
    (member (codes "line") (number (unsigned position.line)) no_members))

-- from a place to another
abbrev pub span_value : Span → Data
span_value span =
    object (member (codes "end") (position_value span.end)
    (member (codes "start") (position_value span.start) no_members))

-- a place in a document
abbrev pub location_value : List ℕ → Span → Data
location_value uri range =
    object (member (codes "range") (span_value range)
    (member (codes "uri") (text_value uri) no_members))

-- another place that a report speaks of
abbrev pub relation_value : Relation → Data
relation_value relation =
    object (member (codes "location") (location_value relation.uri relation.range)
    (member (codes "message") (text_value relation.message) no_members))

-- a report's members up to its range, and these behind
abbrev pub report_with : Diagnostic → Members → Data
report_with diagnostic behind =
    object (member (codes "code") (text_value diagnostic.code)
    (member (codes "message") (text_value diagnostic.message)
    (member (codes "range") (span_value diagnostic.range)
    behind)))

-- a report's last members
abbrev pub last_members : Diagnostic → Members
last_members diagnostic =
    member (codes "severity") (number (unsigned diagnostic.severity))
    (member (codes "source") (string (codes "hlasm_ls")) no_members)

-- a report that has this of other places
abbrev pub placed_value : Diagnostic → Data → Data
placed_value diagnostic places =
    report_with diagnostic (member (codes "relatedInformation") places (last_members diagnostic))

-- a report that speaks of these other places; a member of them only where there are some
abbrev pub report_value : Diagnostic → List Relation → Data
report_value diagnostic [] = report_with diagnostic (last_members diagnostic)
report_value diagnostic (first ∷ others) =
    placed_value diagnostic (array (items_of (map relation_value (first ∷ others))))

-- one report
abbrev pub diagnostic_value : Diagnostic → Data
diagnostic_value diagnostic = report_value diagnostic diagnostic.related

-- a version, if there is one
abbrev pub version_member : Option ℤ → Members
version_member None = no_members
version_member (Some version) = member (codes "version") (number (of_integer version)) no_members

-- the reports of a document, of this version of it or of one that left
abbrev pub published_params : List ℕ → Option ℤ → List Diagnostic → Data
published_params uri version diagnostics =
    object (member (codes "diagnostics") (array (items_of (map diagnostic_value diagnostics)))
    (member (codes "uri") (text_value uri)
    (version_member version)))

-- a message of a debug session for its client
abbrev pub dap_params : (session : ℕ) → Data → Data
dap_params session message =
    object (member (codes "message") message
    (member (codes "session") (number (unsigned session)) no_members))

-- ---- answers to requests on symbols

-- a place
abbrev pub place_value : Location → Data
place_value place = location_value place.uri place.range

-- a text that is shown where the pointer is
abbrev pub hover_value : List ℕ → Data
hover_value text =
    object (member (codes "contents")
    (object (member (codes "kind") (string (codes "plaintext"))
    (member (codes "value") (text_value text) no_members)))
    no_members)

-- what a symbol is to an editor, by its number
abbrev pub kind_number : SymbolKind → ℕ
kind_number Variable = 13
kind_number Constant = 14

-- a symbol of a document; what is selected is the statement that defines it
abbrev pub symbol_value : DocumentSymbol → Data
symbol_value symbol =
    object (member (codes "kind") (number (unsigned (kind_number symbol.kind)))
    (member (codes "name") (text_value symbol.name)
    (member (codes "range") (span_value symbol.range)
    (member (codes "selectionRange") (span_value symbol.range) no_members))))

-- the result of a request on symbols
abbrev pub answer_value : SymbolAnswer → Data
answer_value Nothing = null
answer_value (Place place) = place_value place
answer_value (Places places) = array (items_of (map place_value places))
answer_value (Hover text) = hover_value text
answer_value (Symbols symbols) = array (items_of (map symbol_value symbols))

-- ---- messages

-- a message as a JSON value
unfoldable pub value_of : LspOut → Data
value_of (Reply id result) = reply_value id (view result)
value_of (Fault id code message) = fault_value id code message
value_of (Log message) = notification_value (codes "window/logMessage") (log_params message)
value_of (Published uri version diagnostics) =
    notification_value (codes "textDocument/publishDiagnostics") (published_params uri version diagnostics)
value_of (Dap session message) = notification_value (codes "hlasm/dap") (dap_params session (view message))

-- the body of a message: its value without blanks
unfoldable pub text_of : LspOut → List ℕ
text_of message = compact_text (value_of message)

-- whether a message has a number with a point or an exponent, which only the result of a reply and a debug message can have
abbrev pub has_fraction : LspOut → Bool
has_fraction (Reply id result) = has_float (view result)
has_fraction (Fault id code message) = false
has_fraction (Log message) = false
has_fraction (Published uri version diagnostics) = false
has_fraction (Dap session message) = has_float (view message)

-- ---- the result of initialize

-- texts are told whole when they are opened and closed, and by ranges when they change
abbrev pub sync_value : Data
sync_value =
    object (member (codes "change") (number (unsigned 2))
    (member (codes "openClose") (boolean true) no_members))

-- what the server offers
abbrev pub capabilities_value : Data
capabilities_value =
    object (member (codes "definitionProvider") (boolean true)
    (member (codes "documentSymbolProvider") (boolean true)
    (member (codes "hoverProvider") (boolean true)
    (member (codes "positionEncoding") (string (codes "utf-16"))
    (member (codes "referencesProvider") (boolean true)
    (member (codes "textDocumentSync") sync_value no_members))))))

-- the server's name and version
abbrev pub server_value : Data
server_value =
    object (member (codes "name") (string (codes "hlasm_ls"))
    (member (codes "version") (string (codes "1")) no_members))

-- the result of initialize: what the server offers, and who it is
abbrev pub initialize_result_value : Data
initialize_result_value =
    object (member (codes "capabilities") capabilities_value
    (member (codes "serverInfo") server_value no_members))
