-- Which declarations are new, one after the other.
use Rattle.std.proofs.Common.{◌≡◌, ◌∙◌, ◌++◌, ℕ, Bool, true, false, cond, List, [], ◌∷◌, Some, find, refl, sym, ap}
use Rattle.std.specs.Prelude.{◌||◌}
use Rattle.std.specs.List.{list_any}
use Rattle.std.specs.Option.{option_map, is_some}
use Rattle.std.specs.Str.{bytes_eq}
use Rattle.hl_base.specs.declared.set.Declaration.{Declaration}
use Rattle.note_rows.specs.Table.{noted}
use Rattle.note_rows.specs.declared.row.Row.TheVariants.{DeclaredTwice}
use Rattle.set_symbols.specs.Table.{Table, Symbol, declared_of}
use Rattle.call_knowledge.specs.Knowledge.{Knowledge}
use Rattle.call_knowledge.specs.Deeds.{is_taken, names_of, new_ones, repeated}

declared-step : (name : List ℕ) (s : Symbol) (rest : Table) (b : Bool) → bytes_eq name s.name ≡ b →
    list_any (bytes_eq name) (names_of rest) ≡ is_some (declared_of rest name) →
    list_any (bytes_eq name) (names_of (s ∷ rest)) ≡ is_some (declared_of (s ∷ rest) name)
declared-step name s rest true is others =
    ap (λ b. b || list_any (bytes_eq name) (names_of rest)) is
    ∙ ap (λ b. is_some (option_map (λ (t : Symbol). t.declared) (cond b (Some s) (find (λ t. bytes_eq name t.name) rest)))) (sym is)
declared-step name s rest false is others =
    ap (λ b. b || list_any (bytes_eq name) (names_of rest)) is
    ∙ others
    ∙ ap (λ b. is_some (option_map (λ (t : Symbol). t.declared) (cond b (Some s) (find (λ t. bytes_eq name t.name) rest)))) (sym is)

-- a name is among those of a table where the table has its symbol
pub names-declared : (name : List ℕ) (table : Table) → list_any (bytes_eq name) (names_of table) ≡ is_some (declared_of table name)
names-declared name [] = refl
names-declared name (s ∷ rest) = declared-step name s rest (bytes_eq name s.name) refl (names-declared name rest)

-- one declaration of a name that is taken
pub new_ones-taken : (k : Knowledge) (earlier : List (List ℕ)) (d : Declaration) (ds : List Declaration) → is_taken k earlier d.name ≡ true →
    new_ones k earlier (d ∷ ds) ≡ new_ones k earlier ds
new_ones-taken k earlier d ds is = ap (λ b. cond b (new_ones k earlier ds) (d ∷ new_ones k (earlier ++ d.name ∷ []) ds)) is

pub repeated-taken : (k : Knowledge) (earlier : List (List ℕ)) (d : Declaration) (ds : List Declaration) → is_taken k earlier d.name ≡ true →
    repeated k earlier (d ∷ ds) ≡ noted (DeclaredTwice d.name) [] ∷ repeated k earlier ds
repeated-taken k earlier d ds is =
    ap (λ b. cond b (noted (DeclaredTwice d.name) [] ∷ repeated k earlier ds) (repeated k (earlier ++ d.name ∷ []) ds)) is

-- one of a name that is not
pub new_ones-new : (k : Knowledge) (earlier : List (List ℕ)) (d : Declaration) (ds : List Declaration) → is_taken k earlier d.name ≡ false →
    new_ones k earlier (d ∷ ds) ≡ d ∷ new_ones k (earlier ++ d.name ∷ []) ds
new_ones-new k earlier d ds is = ap (λ b. cond b (new_ones k earlier ds) (d ∷ new_ones k (earlier ++ d.name ∷ []) ds)) is

pub repeated-new : (k : Knowledge) (earlier : List (List ℕ)) (d : Declaration) (ds : List Declaration) → is_taken k earlier d.name ≡ false →
    repeated k earlier (d ∷ ds) ≡ repeated k (earlier ++ d.name ∷ []) ds
repeated-new k earlier d ds is =
    ap (λ b. cond b (noted (DeclaredTwice d.name) [] ∷ repeated k earlier ds) (repeated k (earlier ++ d.name ∷ []) ds)) is
