-- What a statement does with SET symbols, and what is said of it (HLASM Language Reference SC26-4940, "SETA instruction",
-- "LCLA, LCLB, and LCLC instructions", "GBLA, GBLB, and GBLC instructions", "ACTR instruction", "AGO instruction").
use Rattle.std.specs.Prelude.{ℕ, ◌==◌, ◌||◌, ℤ, Bool, List, [], ◌∷◌, ◌++◌, Option, Some, None, map, if◌then◌else◌}
use Rattle.std.specs.List.{list_any}
use Rattle.std.specs.Str.{bytes_eq}
use Rattle.hl_base.specs.declared.note.Note.{Note}
use Rattle.hl_base.specs.declared.set.Answer.{Answer}
use Rattle.hl_base.specs.declared.set.Answer.TheVariants as answer
use Rattle.hl_base.specs.declared.set.Declaration.{Declaration}
use Rattle.hl_base.specs.declared.set.Key.TheVariants as key
use Rattle.hl_base.specs.declared.set.SetValue.{SetValue}
use Rattle.hl_base.specs.declared.set.SetValue.TheVariants as set
use Rattle.note_rows.specs.Table.{noted}
use Rattle.note_rows.specs.declared.row.Row.{Row}
use Rattle.note_rows.specs.declared.row.Row.TheVariants.{OtherType, BadSubscript, DeclaredTwice}
use Rattle.trace_values.specs.declared.variable.Setting.{Setting}
use Rattle.set_symbols.specs.Table.{Table, Symbol, kind_of}
use Rattle.cond_expr.specs.Characters.{not_below_0}
use Rattle.call_knowledge.specs.Knowledge.{Knowledge, is_known}
use Rattle.call_knowledge.specs.Changes.{aim}
use Rattle.call_knowledge.specs.declared.aim.Aim.{Aim}
use Rattle.call_knowledge.specs.declared.aim.Aim.TheVariants as aims
use Rattle.call_knowledge.specs.declared.change.Change.{Change}
use Rattle.call_knowledge.specs.declared.change.Change.TheVariants.{Nothing, Hold, Declare, Limit, Branch}
use Rattle.call_knowledge.specs.declared.deed.Deed.{Deed}

-- only this changes, and nothing is said
abbrev pub only : Change → Deed
only change = record { change = change; put = None; locals = []; globals = []; declared = []; notes = [] }

-- nothing changes, and this is said
abbrev pub refused : Row → Deed
refused row = record (only Nothing) { notes = noted row [] ∷ [] }

-- a value as an answer
abbrev pub answer_of : SetValue → Answer
answer_of (set.A n) = answer.Number n
answer_of (set.B bit) = answer.Bit bit
answer_of (set.C text) = answer.Chars text

abbrev pub setting_at : (name : List ℕ) (at : ℕ) → SetValue → Setting
setting_at name at held = record { name = name; element = at; value = held }

-- a local SET symbol, or an element of one, gets a value
abbrev pub set_local : (name : List ℕ) (element : Option ℕ) → SetValue → (at : ℕ) → Deed
set_local name element held at = record (only (Hold name element held)) { locals = setting_at name at held ∷ [] }

-- a global SET symbol, or an element of one, gets a value, which is put
abbrev pub set_global : (name : List ℕ) → SetValue → (at : ℕ) → Deed
set_global name held at = record (only Nothing) {
  put = Some (record { key = key.Global (kind_of held) name at; answer = answer_of held });
  globals = setting_at name at held ∷ [];
}

-- SETx, by what it aims at: nothing is set where it has another type or no place
abbrev pub set_by : Aim → (name : List ℕ) (element : Option ℕ) → SetValue → Deed
set_by aims.OtherType name element held = refused (OtherType name)
set_by aims.NoPlace name element held = refused (BadSubscript name)
set_by (aims.Local at) name element held = set_local name element held at
set_by (aims.Global at) name element held = set_global name held at

abbrev pub setting : Knowledge → (name : List ℕ) (element : Option ℕ) → SetValue → Deed
setting k name element held = set_by (aim k name element (kind_of held)) name element held

-- whether a name is taken: it means something, or is one of these
abbrev pub is_taken : Knowledge → (earlier : List (List ℕ)) → List ℕ → Bool
is_taken k earlier name = is_known k name || list_any (bytes_eq name) earlier

-- Of declarations behind those of these names, those of names that are not taken, and the notes of those that are.
abbrev pub new_ones : Knowledge → (earlier : List (List ℕ)) → List Declaration → List Declaration
new_ones k earlier [] = []
new_ones k earlier (d ∷ ds) =
    if is_taken k earlier d.name then new_ones k earlier ds else d ∷ new_ones k (earlier ++ d.name ∷ []) ds

abbrev pub repeated : Knowledge → (earlier : List (List ℕ)) → List Declaration → List Note
repeated k earlier [] = []
repeated k earlier (d ∷ ds) =
    if is_taken k earlier d.name then noted (DeclaredTwice d.name) [] ∷ repeated k earlier ds
    else repeated k (earlier ++ d.name ∷ []) ds

-- the names of the symbols of a table
abbrev pub names_of : Table → List (List ℕ)
names_of table = map (λ (s : Symbol). s.name) table

-- a declaration of SET symbols: each name once, and none that means something
abbrev pub declaring : Knowledge → List Declaration → Deed
declaring k list =
    record (only (Declare (new_ones k [] list))) { declared = new_ones k [] list; notes = repeated k [] list }

-- ACTR: so many branches are left
abbrev pub counting : ℤ → Deed
counting n = only (Limit (not_below_0 n))

-- a branch is taken, if one is left
abbrev pub branching : Knowledge → Option Change
branching k = if k.branches == 0 then None else Some Branch
