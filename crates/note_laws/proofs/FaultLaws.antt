-- The note of a variable symbol that stands for nothing, by the code of its fault.
use Rattle.std.proofs.Common.{◌≡◌, refl, ℕ, Bool, true, false, cond, List, []}
use Rattle.std.specs.Prelude.{◌==◌}
use Rattle.std.specs.Str.{chars}
use Rattle.cond_expr.specs.Troubles.{bad_subscript, no_value, fault}
use Rattle.note_rows.specs.Table.{noted}
use Rattle.note_rows.specs.declared.row.Row.TheVariants as row

by-code : (is_subscript : Bool) (name : List ℕ) →
    cond is_subscript (bad_subscript name) (no_value name) ≡ noted (cond is_subscript (row.BadSubscript name) (row.NoValue name)) []
unfolding chars
by-code true name = refl
by-code false name = refl

pub fault-noted : (code : ℕ) (name : List ℕ) → fault code name ≡ noted (cond (code == 22) (row.BadSubscript name) (row.NoValue name)) []
fault-noted code name = by-code (code == 22) name
