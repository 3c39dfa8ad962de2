-- What is written has no float but in the result of a reply and in a debug message, so its text is known byte for byte.
use Rattle.std.proofs.Common.{◌≡◌, ℤ, pos, negsuc, List, [], ◌∷◌, false, Option, Some, None, map, refl}
use Rattle.serde_json.specs.Find.{is_float, of_integer}
use Rattle.serde_json.specs.View.{items_of}
use Rattle.serde_json.specs.Written.{has_float, items_have_float, members_have_float}
use Rattle.lsp_messages.specs.declared.incoming.Id.{Id}
use Rattle.lsp_messages.specs.declared.incoming.Id.TheVariants.{Number, Words}
use Rattle.lsp_messages.specs.declared.outgoing.Relation.{Relation}
use Rattle.lsp_messages.specs.declared.outgoing.Diagnostic.{Diagnostic}
use Rattle.lsp_messages.specs.declared.outgoing.LspOut.{LspOut}
use Rattle.lsp_messages.specs.declared.outgoing.LspOut.TheVariants.{Reply, Fault, Log, Published, Dap}
use Rattle.lsp_messages.specs.Written.{id_value, answered_value, relation_value, report_value, diagnostic_value, version_member, value_of, has_fraction}

pub is_float-of_integer : (z : ℤ) → is_float (of_integer z) ≡ false
is_float-of_integer (pos n) = refl
is_float-of_integer (negsuc n) = refl

pub has_float-id_value : (id : Id) → has_float (id_value id) ≡ false
has_float-id_value (Number n) = is_float-of_integer n
has_float-id_value (Words text) = refl

pub has_float-answered_value : (id : Option Id) → has_float (answered_value id) ≡ false
has_float-answered_value None = refl
has_float-answered_value (Some id) = has_float-id_value id

pub items_have_float-relations : (rs : List Relation) → items_have_float (items_of (map relation_value rs)) ≡ false
items_have_float-relations [] = refl
items_have_float-relations (r ∷ rs) = items_have_float-relations rs

pub has_float-report_value : (d : Diagnostic) (rs : List Relation) → has_float (report_value d rs) ≡ false
has_float-report_value d [] = refl
has_float-report_value d (r ∷ rs) = rw (items_have_float-relations rs) refl

pub items_have_float-diagnostics : (ds : List Diagnostic) → items_have_float (items_of (map diagnostic_value ds)) ≡ false
items_have_float-diagnostics [] = refl
items_have_float-diagnostics (d ∷ ds) = rw (has_float-report_value d d.related) (items_have_float-diagnostics ds)

pub members_have_float-version_member : (version : Option ℤ) → members_have_float (version_member version) ≡ false
members_have_float-version_member None = refl
members_have_float-version_member (Some version) = rw (is_float-of_integer version) refl

-- no message has a float but for one in the result of a reply or in a debug message
pub has_float-value_of : (message : LspOut) → has_fraction message ≡ false → has_float (value_of message) ≡ false
unfolding value_of
has_float-value_of (Reply id result) is_whole = rw (has_float-id_value id, is_whole) refl
has_float-value_of (Fault id code message) is_whole = rw (is_float-of_integer code, has_float-answered_value id) refl
has_float-value_of (Log message) is_whole = refl
has_float-value_of (Published uri version diagnostics) is_whole =
    rw (items_have_float-diagnostics diagnostics, members_have_float-version_member version) refl
has_float-value_of (Dap session message) is_whole = rw is_whole refl
