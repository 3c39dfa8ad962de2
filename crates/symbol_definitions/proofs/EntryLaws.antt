-- Symbols whose names are new, and those whose names are taken.
use Rattle.std.proofs.Common.{◌≡◌, ℕ, List, [], ◌∷◌, ◌++◌, Option, Some, None, refl, if◌then◌else◌}
use Rattle.std.specs.Prelude.{IsSome}
use Rattle.std.specs.Option.{is_none}
use Rattle.std.proofs.lemmas.Bool.{false≢true}
use Rattle.note_rows.specs.declared.row.Row.TheVariants.{DefinedTwice}
use Rattle.ordinary_symbols.specs.Table.{Table, Entry, IsDefined, name_of, place_of}
use Rattle.symbol_definitions.specs.Definitions.{with_entry, said_of_name}

-- one thing where there is no place, and another where there is one
abbrev chosen : {X : Type 0} → Option ℕ → X → X → X
chosen place new taken = if is_none place then new else taken

chosen_new : {X : Type 0} (place : Option ℕ) (new taken : X) → (IsSome place → ⊥) → chosen place new taken ≡ new
chosen_new None new taken none = refl
chosen_new (Some at) new taken none = absurd (none refl)

chosen_taken : {X : Type 0} (place : Option ℕ) (new taken : X) → IsSome place → chosen place new taken ≡ taken
chosen_taken None new taken some = absurd (false≢true some)
chosen_taken (Some at) new taken some = refl

pub entry_new : (entry : Entry) (table : Table) → (IsDefined table (name_of entry) → ⊥) → with_entry entry table ≡ table ++ entry ∷ []
entry_new entry table none = chosen_new (place_of table (name_of entry)) (table ++ entry ∷ []) table none

pub entry_taken : (entry : Entry) (table : Table) → IsDefined table (name_of entry) → with_entry entry table ≡ table
entry_taken entry table some = chosen_taken (place_of table (name_of entry)) (table ++ entry ∷ []) table some

pub name_new : (table : Table) (name : List ℕ) → (IsDefined table name → ⊥) → said_of_name table name ≡ []
name_new table name none = chosen_new (place_of table name) [] (DefinedTwice name ∷ []) none

pub name_taken : (table : Table) (name : List ℕ) → IsDefined table name → said_of_name table name ≡ DefinedTwice name ∷ []
name_taken table name some = chosen_taken (place_of table name) [] (DefinedTwice name ∷ []) some
