-- The members of the parameters of messages (LSP 3.17), by name and kind. A member that is missing or of another kind
-- is what a refusal names.
use Rattle.std.specs.Prelude.{ℕ, ◌^◌, ◌&&◌, List, [], ◌∷◌, nat_eq, nat_lt, codes, if◌then◌else◌, Option, Some, None, option_map, option_and_then, ok_or, Result, Ok, Err, chars, ⊤}
use Rattle.std.specs.Option.{option_or}
use Rattle.serde_json.specs.Data.{Data}
use Rattle.serde_json.specs.Find.{as_str}
use Rattle.json_view.specs.Members.{member_of, unless_missing, kept_if, as_object_value, as_u32, as_i32}
use Rattle.lsp_messages.specs.declared.incoming.ChangeKind.{ChangeKind}
use Rattle.lsp_messages.specs.declared.incoming.ChangeKind.TheVariants.{Created, Changed, Deleted}
use Rattle.lsp_messages.specs.declared.incoming.Id.{Id}
use Rattle.lsp_messages.specs.declared.incoming.Id.TheVariants.{Number, Words}
use Rattle.lsp_messages.specs.declared.parameters.Parameter.{Parameter}
use Rattle.lsp_messages.specs.declared.parameters.Parameter.TheVariants.{Params, RootUri, WorkspaceFolders, TextDocument, Uri, LanguageId, Version, Text, ContentChanges, Range, Start, End, Line, Character, Changes, ChangeType, Place, Context, IncludeDeclaration, Request, Session, Message}
use Rattle.lsp_messages.specs.declared.parameters.ParameterFault.{ParameterFault}
use Rattle.lsp_messages.specs.declared.parameters.ParameterFault.TheVariants.{Bad, OutOfMemory}

-- the name of a parameter
abbrev pub name_of : Parameter → List ℕ
name_of Params = codes "params"
name_of RootUri = codes "rootUri"
name_of WorkspaceFolders = codes "workspaceFolders"
name_of TextDocument = codes "textDocument"
name_of Uri = codes "uri"
name_of LanguageId = codes "languageId"
name_of Version = codes "version"
name_of Text = codes "text"
name_of ContentChanges = codes "contentChanges"
name_of Range = codes "range"
name_of Start = codes "start"
name_of End = codes "end"
name_of Line = codes "line"
name_of Character = codes "character"
name_of Changes = codes "changes"
name_of ChangeType = codes "type"
name_of Place = codes "position"
name_of Context = codes "context"
name_of IncludeDeclaration = codes "includeDeclaration"
name_of Request = codes "id"
name_of Session = codes "session"
name_of Message = codes "message"

-- what there is, or the parameter that there is not
abbrev pub or_names : {A F : Type 0} → Parameter → Result A F → Result A Parameter
or_names parameter (Ok value) = Ok value
or_names parameter (Err fault) = Err parameter

-- a parameter that must be there
abbrev pub needed : {A : Type 0} → (Data → Option A) → Parameter → Data → Result A Parameter
needed kind parameter value = or_names parameter (member_of kind (name_of parameter) value)

-- a parameter that may be missing
abbrev pub optional : {A : Type 0} → (Data → Option A) → Parameter → Data → Result (Option A) Parameter
optional kind parameter value = or_names parameter (unless_missing (member_of kind (name_of parameter) value))

-- an element of a list of objects; one that is no object is a fault of the list
abbrev pub object_in : Parameter → Data → Result Data Parameter
object_in list value = ok_or (as_object_value value) list

-- a line or a character: a whole number from 0 to 2^31 - 1
abbrev pub coordinate : Data → Option ℕ
coordinate value = option_and_then (kept_if (λ n. nat_lt n (2 ^ 31))) (as_u32 value)

-- the number of a debug session: a whole number from 1 to 2^31 - 1
abbrev pub session_number : Data → Option ℕ
session_number value = option_and_then (kept_if (λ n. nat_lt 0 n && nat_lt n (2 ^ 31))) (as_u32 value)

-- an id is a text or a whole number of 32 bits
abbrev pub as_id : Data → Option Id
as_id value = option_or (option_map (λ text. Words (chars text)) (as_str value)) (option_map Number (as_i32 value))

-- what happened to a file, by its number
abbrev pub kind_numbered : ℕ → Option ChangeKind
kind_numbered number =
    if nat_eq number 1 then Some Created else
    (if nat_eq number 2 then Some Changed else
    (if nat_eq number 3 then Some Deleted else
    None))

-- what happened to a file: a whole number from 1 to 3
abbrev pub as_change_kind : Data → Option ChangeKind
as_change_kind value = option_and_then kind_numbered (as_u32 value)

-- what is read after something else was, or why that was not
infixl 10 ◌>>=◌
abbrev pub ◌>>=◌ : {A B E : Type 0} → Result A E → (A → Result B E) → Result B E
Ok value >>= next = next value
Err fault >>= next = Err fault

-- nothing, where every element can be read, or what the first that cannot names
abbrev pub all : {A B : Type 0} → (A → Result B Parameter) → List A → Result ⊤ Parameter
all read [] = Ok tt
all read (x ∷ xs) = read x >>= (λ y. all read xs)

-- every element read, from the first on, or what the first that cannot be read names
abbrev pub each : {A B : Type 0} → (A → Result B Parameter) → List A → Result (List B) Parameter
each read [] = Ok []
each read (x ∷ xs) = read x >>= (λ y. each read xs >>= (λ ys. Ok (y ∷ ys)))

-- the parameter that a fault names, which want of memory does not
abbrev pub named_by : ParameterFault → Option Parameter
named_by (Bad parameter) = Some parameter
named_by OutOfMemory = None
