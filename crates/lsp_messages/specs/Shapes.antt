-- The parameters of each message (LSP 3.17): members in the order in which they are tried. This project chooses the
-- order; every member that is not named here is ignored.
use Rattle.std.specs.Prelude.{ℕ, List, [], ◌∷◌, Bool, is_some, if◌then◌else◌, Option, Some, None, option_and_then, unwrap_or, Result, Ok, Err, chars, ⊤}
use Rattle.serde_json.specs.Data.{Data, no_items, object, no_members}
use Rattle.serde_json.specs.Find.{get, as_null, as_str, as_array, as_bool}
use Rattle.json_view.specs.Members.{as_object_value, as_i32, list_of}
use Rattle.hl_base.specs.declared.edit.Position.{Position}
use Rattle.hl_base.specs.declared.edit.Edit.{Edit}
use Rattle.lsp_messages.specs.declared.incoming.FileChange.{FileChange}
use Rattle.lsp_messages.specs.declared.incoming.LspIn.{LspIn}
use Rattle.lsp_messages.specs.declared.incoming.LspIn.TheVariants.{DidOpen, DidChange, DidClose, DidChangeWatchedFiles, Cancel, Dap}
use Rattle.lsp_messages.specs.declared.parameters.Parameter.{Parameter}
use Rattle.lsp_messages.specs.declared.parameters.Parameter.TheVariants.{Params, RootUri, WorkspaceFolders, TextDocument, Uri, LanguageId, Version, Text, ContentChanges, Range, Start, End, Line, Character, Changes, ChangeType, Place, Context, IncludeDeclaration, Request, Session, Message}
use Rattle.lsp_messages.specs.declared.shapes.AskedPlace.{AskedPlace}
use Rattle.lsp_messages.specs.declared.shapes.AskedReferences.{AskedReferences}
use Rattle.lsp_messages.specs.Parameters.{name_of, needed, optional, object_in, coordinate, session_number, as_id, as_change_kind, ◌>>=◌, each, all}
use Rattle.file_uri.specs.Paths.{path_of}

-- the parameters of a message; where there are none, an object without members
abbrev pub params_of : Data → Result Data Parameter
params_of message = do
  given ← optional as_object_value Params message
  Ok (unwrap_or given (object no_members))

-- the object of a message's parameters that names a document
abbrev pub document_in : Data → Result Data Parameter
document_in message = do
  params ← params_of message
  needed as_object_value TextDocument params

-- ---- initialize (`InitializeParams`)

-- whether a member is there and null
abbrev pub is_null_at : Parameter → Data → Bool
is_null_at parameter value = is_some (option_and_then as_null (get (name_of parameter) value))

-- a parameter that may be missing or null
abbrev pub given : {A : Type 0} → (Data → Option A) → Parameter → Data → Result (Option A) Parameter
given kind parameter value = if is_null_at parameter value then Ok None else optional kind parameter value

-- a URI must have the path of a file
abbrev pub checked_uri : Parameter → List ℕ → Result ⊤ Parameter
checked_uri parameter uri = if is_some (path_of (chars uri)) then Ok tt else Err parameter

-- a folder of the workspace, by its URI
abbrev pub folder_in : Data → Result (List ℕ) Parameter
folder_in element = do
  folder ← object_in WorkspaceFolders element
  needed as_str Uri folder

-- the folder of the workspace that is the root: the first, which must have the path of a file
abbrev pub first_folder : List Data → Result (Option (List ℕ)) Parameter
first_folder [] = Ok None
first_folder (first ∷ others) = do
  uri ← folder_in first
  is_file ← checked_uri Uri uri
  are_folders ← all folder_in others
  Ok (Some (chars uri))

-- the root: the client's own, else the first folder; the folders must be well formed in either case
abbrev pub root_among : Option (List ℕ) → List Data → Result (Option (List ℕ)) Parameter
root_among None folders = first_folder folders
root_among (Some uri) folders = do
  are_folders ← all folder_in folders
  Ok (Some (chars uri))

-- a root that is given must have the path of a file
abbrev pub checked_root : Option (List ℕ) → Result (Option (List ℕ)) Parameter
checked_root None = Ok None
checked_root (Some uri) = do
  is_file ← checked_uri RootUri uri
  Ok (Some uri)

-- the client's own root, which must have the path of a file
abbrev pub own_root : Data → Result (Option (List ℕ)) Parameter
own_root params = do
  uri ← given as_str RootUri params
  checked_root uri

-- the folders of the workspace; none where they are missing or null
abbrev pub folders_in : Data → Result (List Data) Parameter
folders_in params = do
  folders ← given as_array WorkspaceFolders params
  Ok (list_of (unwrap_or folders no_items))

-- the URI of the folder that the client works in
unfoldable pub root_of : Data → Result (Option (List ℕ)) Parameter
root_of message = do
  params ← params_of message
  own ← own_root params
  folders ← folders_in params
  root_among own folders

-- ---- textDocument/didOpen (`DidOpenTextDocumentParams`)

unfoldable pub opened : Data → Result LspIn Parameter
opened message = do
  document ← document_in message
  uri ← needed as_str Uri document
  language ← needed as_str LanguageId document
  version ← needed as_i32 Version document
  text ← needed as_str Text document
  Ok (DidOpen (chars uri) (chars language) version (chars text))

-- ---- textDocument/didChange (`DidChangeTextDocumentParams`)

-- a place in a text
abbrev pub place_in : Data → Result Position Parameter
place_in place = do
  line ← needed coordinate Line place
  character ← needed coordinate Character place
  Ok (record { line = line; character = character })

-- the place under a name
abbrev pub place_at : Parameter → Data → Result Position Parameter
place_at parameter range = do
  place ← needed as_object_value parameter range
  place_in place

-- an edit of this text: of the whole document, or of a range
abbrev pub edit_within : List ℕ → Option Data → Result Edit Parameter
edit_within text None = Ok (record { from = None; to = None; text = chars text })
edit_within text (Some range) = do
  from ← place_at Start range
  to ← place_at End range
  Ok (record { from = Some from; to = Some to; text = chars text })

-- one edit
abbrev pub edit_in : Data → Result Edit Parameter
edit_in element = do
  change ← object_in ContentChanges element
  text ← needed as_str Text change
  range ← optional as_object_value Range change
  edit_within text range

-- the edits in their order
abbrev pub edits_in : Data → Result (List Edit) Parameter
edits_in params = do
  changes ← needed as_array ContentChanges params
  each edit_in (list_of changes)

unfoldable pub changed : Data → Result LspIn Parameter
changed message = do
  params ← params_of message
  document ← needed as_object_value TextDocument params
  uri ← needed as_str Uri document
  version ← needed as_i32 Version document
  edits ← edits_in params
  Ok (DidChange (chars uri) version edits)

-- ---- textDocument/didClose (`DidCloseTextDocumentParams`)

unfoldable pub closed : Data → Result LspIn Parameter
closed message = do
  document ← document_in message
  uri ← needed as_str Uri document
  Ok (DidClose (chars uri))

-- ---- workspace/didChangeWatchedFiles (`DidChangeWatchedFilesParams`)

-- one change of a file; its URI may be any text
abbrev pub file_change_in : Data → Result FileChange Parameter
file_change_in element = do
  change ← object_in Changes element
  uri ← needed as_str Uri change
  kind ← needed as_change_kind ChangeType change
  Ok (record { uri = chars uri; kind = kind })

-- the changes of files in their order
abbrev pub file_changes_in : Data → Result (List FileChange) Parameter
file_changes_in params = do
  changes ← needed as_array Changes params
  each file_change_in (list_of changes)

unfoldable pub watched : Data → Result LspIn Parameter
watched message = do
  params ← params_of message
  changes ← file_changes_in params
  Ok (DidChangeWatchedFiles changes)

-- ---- requests on a document (`TextDocumentPositionParams`, `ReferenceParams`, `DocumentSymbolParams`)

-- the URI of the document that is asked for, which must have the path of a file
abbrev pub asked_uri : Data → Result (List ℕ) Parameter
asked_uri params = do
  document ← needed as_object_value TextDocument params
  uri ← needed as_str Uri document
  is_file ← checked_uri Uri uri
  Ok (chars uri)

-- textDocument/definition and textDocument/hover
unfoldable pub place_asked : Data → Result AskedPlace Parameter
place_asked message = do
  params ← params_of message
  uri ← asked_uri params
  at ← place_at Place params
  Ok (record { uri = uri; at = at })

-- textDocument/references
unfoldable pub references_asked : Data → Result AskedReferences Parameter
references_asked message = do
  params ← params_of message
  uri ← asked_uri params
  at ← place_at Place params
  context ← needed as_object_value Context params
  declarations ← needed as_bool IncludeDeclaration context
  Ok (record { uri = uri; at = at; declarations = declarations })

-- textDocument/documentSymbol
unfoldable pub document_asked : Data → Result (List ℕ) Parameter
document_asked message = do
  params ← params_of message
  asked_uri params

-- ---- $/cancelRequest (`CancelParams`)

unfoldable pub cancelled : Data → Result LspIn Parameter
cancelled message = do
  params ← params_of message
  id ← needed as_id Request params
  Ok (Cancel id)

-- ---- hlasm/dap (this project): a message of the Debug Adapter Protocol for one of the debug sessions

unfoldable pub debugged : Data → Result LspIn Parameter
debugged message = do
  params ← params_of message
  session ← needed session_number Session params
  request ← needed as_object_value Message params
  Ok (Dap session request)
