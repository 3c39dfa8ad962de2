-- Calls as trees, and as they are read back from their trees. This project.
use Rattle.std.specs.Prelude.{◌≡◌, ◌==◌, ℕ, List, [], ◌∷◌, map, if◌then◌else◌}
use Rattle.std.specs.Rc.{rc_str_bytes}
use Rattle.std.specs.Str.{chars}
use Rattle.kept_values.specs.Trees.{Tree, Leaf, Fork, mixed, tree_number}
use Rattle.kept_values.specs.Lists.{list_tree}
use Rattle.macro_library.specs.Contents.{Content, content_of}
use Rattle.macro_library.specs.Trees.{content_tree, content_in, definition_number, left_in, right_in, number_in, list_in, row_tree, row_in}
use Rattle.call_sites.specs.declared.call_site.MacroCall.{MacroCall}
use Rattle.call_sites.specs.declared.call_site.CallSite.{CallSite}
use Rattle.call_sites.specs.declared.call_site.CallSite.TheVariants as site

-- what is called: the open code of a program, the path and the characters of its text; or a macro, what its definition says,
-- and what the name entry and the operands of the call come to
pub data Call : Type 0 where
  open_code : (path : ℕ) (text : List ℕ) → Call
  macro_call : (content : Content) (name_entry : List ℕ) (operands : List (List ℕ)) → Call

-- a call of code as what it calls
abbrev pub macro_called : MacroCall → Call
macro_called call = macro_call (content_of call.definition.definition.value) call.name_entry call.operands

abbrev pub called : CallSite → Call
called (site.OpenCode path text) = open_code path.0 (chars (rc_str_bytes text))
called (site.Macro call) = macro_called call.value

-- a call as a tree: which kind it is, and then what it names
abbrev pub open_code_tree : (path : ℕ) (text : List ℕ) → Tree
open_code_tree path text = Fork (Leaf 0) (Fork (Leaf path) (list_tree text))

abbrev pub macro_tree : Content → (name_entry : List ℕ) (operands : List (List ℕ)) → Tree
macro_tree content name_entry operands =
    Fork (Leaf 1) (Fork (content_tree content) (Fork (list_tree name_entry) (row_tree (map list_tree operands))))

abbrev pub tree_of : Call → Tree
tree_of (open_code path text) = open_code_tree path text
tree_of (macro_call content name_entry operands) = macro_tree content name_entry operands

abbrev pub call_tree : CallSite → Tree
call_tree site = tree_of (called site)

-- the text that a tree is: its numbers in order
abbrev pub text_in : Tree → List ℕ
text_in (Leaf n) = []
text_in (Fork (Leaf x) rest) = x ∷ text_in rest
text_in (Fork (Fork a b) rest) = []

-- the call that a tree is; a tree that no call has is read as some call, too
abbrev pub open_code_in : Tree → Call
open_code_in (Leaf n) = open_code 0 []
open_code_in (Fork (Leaf path) text) = open_code path (text_in text)
open_code_in (Fork (Fork a b) text) = open_code 0 []

abbrev pub macro_in : Tree → Call
macro_in named =
    let entries = right_in named in macro_call (content_in (left_in named)) (list_in (left_in entries)) (map list_in (row_in (right_in entries)))

abbrev pub call_of_kind : (kind : ℕ) → Tree → Call
call_of_kind kind named = if kind == 1 then macro_in named else open_code_in named

abbrev pub call_of : Tree → Call
call_of (Leaf n) = open_code 0 []
call_of (Fork kind named) = call_of_kind (number_in kind) named

-- the number of open code is its path: a text may be long; that of a macro's call is of what its definition says, and of its
-- entries
abbrev pub path_in : Tree → ℕ
path_in (Leaf n) = 0
path_in (Fork (Leaf path) text) = path
path_in (Fork (Fork a b) text) = 0

abbrev pub operands_number : (start : ℕ) → Tree → ℕ
operands_number start (Leaf n) = start
operands_number start (Fork operand rest) = operands_number (mixed start (tree_number operand)) rest

abbrev pub macro_number : Tree → ℕ
macro_number named =
    let entries = right_in named in
    operands_number (mixed (definition_number (left_in named)) (tree_number (left_in entries))) (right_in entries)

abbrev pub number_of_kind : (kind : ℕ) → Tree → ℕ
number_of_kind kind named = if kind == 1 then macro_number named else path_in named

abbrev pub call_number : Tree → ℕ
call_number (Leaf n) = 0
call_number (Fork kind named) = number_of_kind (number_in kind) named

-- reading the tree of a call gives the call
abbrev pub CallsAreReadBack : Type 0
CallsAreReadBack = (site : CallSite) → call_of (call_tree site) ≡ called site
