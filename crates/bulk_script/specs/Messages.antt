-- The messages of a session from a number (Language Server Protocol 3.17), as JSON values.
use Rattle.std.specs.Prelude.{ℕ, List, codes}
use Rattle.serde_json.specs.Data.{Data, number, unsigned, string, array, object, member, item, no_members, no_items}
use Rattle.bulk_script.specs.declared.texts.Place.{Place}

-- the URI of the folder that the client works in, and that of the program
abbrev pub root_uri : List ℕ
root_uri = codes "file:///bulk"

abbrev pub program_uri : List ℕ
program_uri = codes "file:///bulk/BULK.hlasm"

-- a notification with these parameters
abbrev pub notification_value : (method : List ℕ) → (params : Data) → Data
notification_value method params =
    object (member (codes "jsonrpc") (string (codes "2.0"))
    (member (codes "method") (string method)
    (member (codes "params") params no_members)))

-- a request of the number 1 with these parameters
abbrev pub first_request : (method : List ℕ) → (params : Data) → Data
first_request method params =
    object (member (codes "id") (number (unsigned 1))
    (member (codes "jsonrpc") (string (codes "2.0"))
    (member (codes "method") (string method)
    (member (codes "params") params no_members))))

-- the client begins in its folder, and is ready
abbrev pub initialize_params : Data
initialize_params = object (member (codes "rootUri") (string root_uri) no_members)

abbrev pub initialize_value : Data
initialize_value = first_request (codes "initialize") initialize_params

abbrev pub initialized_value : Data
initialized_value = notification_value (codes "initialized") (object no_members)

-- the program is opened with a text
abbrev pub opened_document : (text : List ℕ) → Data
opened_document text =
    object (member (codes "languageId") (string (codes "hlasm"))
    (member (codes "text") (string text)
    (member (codes "uri") (string program_uri)
    (member (codes "version") (number (unsigned 1)) no_members))))

abbrev pub opened_value : (text : List ℕ) → Data
opened_value text =
    notification_value (codes "textDocument/didOpen") (object (member (codes "textDocument") (opened_document text) no_members))

-- a place of a text, and the range from one to another on a line
abbrev pub position_value : (line column : ℕ) → Data
position_value line column =
    object (member (codes "character") (number (unsigned column))
    (member (codes "line") (number (unsigned line)) no_members))

abbrev pub range_value : Place → Data
range_value place =
    object (member (codes "end") (position_value place.line place.end)
    (member (codes "start") (position_value place.line place.first) no_members))

-- the text of a place becomes another
abbrev pub change_value : Place → (text : List ℕ) → Data
change_value place text =
    object (member (codes "range") (range_value place)
    (member (codes "text") (string text) no_members))

-- the program in the version of a number
abbrev pub versioned_document : (version : ℕ) → Data
versioned_document version =
    object (member (codes "uri") (string program_uri)
    (member (codes "version") (number (unsigned version)) no_members))

abbrev pub changed_params : (version : ℕ) → Place → (text : List ℕ) → Data
changed_params version place text =
    object (member (codes "contentChanges") (array (item (change_value place text) no_items))
    (member (codes "textDocument") (versioned_document version) no_members))

abbrev pub changed_value : (version : ℕ) → Place → (text : List ℕ) → Data
changed_value version place text = notification_value (codes "textDocument/didChange") (changed_params version place text)
