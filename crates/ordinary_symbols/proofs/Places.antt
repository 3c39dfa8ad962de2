-- Where a name stands among the keys, and names that go last.
use Rattle.std.proofs.Common.{◌≡◌, ℕ, ◌+◌, ◌≤◌, Bool, true, false, cond, not, ◌||◌, List, [], ◌∷◌, ◌++◌, length, map, Option, Some, None, refl, sym, ap, subst, ◌∙◌, position, nat_lt, arith}
use Rattle.std.specs.Prelude.{IsSome}
use Rattle.std.specs.List.{prefix_len, list_any, position_or_len}
use Rattle.std.specs.Str.{bytes_eq}
use Rattle.std.proofs.lemmas.Bool.{ltb-false}
use Rattle.std.proofs.lemmas.List.{map-append}
use Rattle.std.proofs.lemmas.List.Folds.{list_any_at}
use Rattle.std.proofs.lemmas.List.Quantifiers.{position-Some}
use Rattle.indexmap.specs.IndexSet.{insert_key}
use Rattle.ordinary_symbols.specs.declared.held.Held.{Held}
use Rattle.ordinary_symbols.specs.Table.{IsDefined, place_of, name_of}
use Rattle.ordinary_symbols.specs.Views.{entry_of, names_of}

names_seen : (rows : List Held) → names_of rows ≡ map name_of (map entry_of rows)
names_seen [] = refl
names_seen (row ∷ rows) = ap (λ names. row.row.name ∷ names) (names_seen rows)

-- the place of a name among the keys is that of its symbol
pub place_named : (keys : List (List ℕ)) (rows : List Held) (name : List ℕ) → keys ≡ names_of rows → position (bytes_eq name) keys ≡ place_of (map entry_of rows) name
place_named keys rows name named = ap (position (bytes_eq name)) (named ∙ names_seen rows)

past_any : {X : Type 0} (p : X → Bool) (xs : List X) → length xs ≤ prefix_len (λ x. not (p x)) xs → list_any p xs ≡ false
past_any p [] past = refl
past_any p (x ∷ xs) past = by (p x) refl (λ further. past_any p xs further)
  where
    by : (b : Bool) → p x ≡ b → (length xs ≤ prefix_len (λ y. not (p y)) xs → list_any p xs ≡ false) → list_any p (x ∷ xs) ≡ false
    by true is others =
        let none : prefix_len (λ y. not (p y)) (x ∷ xs) ≡ 0 = ap (λ b. cond (not b) (1 + prefix_len (λ y. not (p y)) xs) 0) is in
        absurd (omega arith)
    by false is others =
        let more : prefix_len (λ y. not (p y)) (x ∷ xs) ≡ 1 + prefix_len (λ y. not (p y)) xs =
        ap (λ b. cond (not b) (1 + prefix_len (λ y. not (p y)) xs) 0) is in
        ap (λ b. b || list_any p xs) is ∙ others (omega arith)

no_position : {X : Type 0} (p : X → Bool) (xs : List X) → position p xs ≡ None → list_any p xs ≡ false
no_position p xs none = by (nat_lt (position_or_len p xs) (length xs)) refl
  where
    by : (b : Bool) → nat_lt (position_or_len p xs) (length xs) ≡ b → list_any p xs ≡ false
    by true is =
        let some : Some (position_or_len p xs) ≡ None = sym (ap (λ b. cond b (Some (position_or_len p xs)) None) is) ∙ none in absurd cc
    by false is = past_any p xs (ltb-false _ _ is)

names-append : (rows : List Held) (row : Held) → names_of (rows ++ row ∷ []) ≡ names_of rows ++ row.row.name ∷ []
names-append rows row = map-append (λ (held : Held). held.row.name) rows (row ∷ [])

-- a key of a new name goes last, as its symbol does
pub insert_named : (keys : List (List ℕ)) (rows : List Held) (row : Held) → keys ≡ names_of rows → list_any (bytes_eq row.row.name) keys ≡ false →
    insert_key bytes_eq keys row.row.name ≡ names_of (rows ++ row ∷ [])
insert_named keys rows row named absent =
    ap (λ b. cond b keys (keys ++ row.row.name ∷ [])) absent
    ∙ ap (λ names. names ++ row.row.name ∷ []) named
    ∙ sym (names-append rows row)

-- a key of a name that is there changes nothing
pub insert_again : (keys : List (List ℕ)) (rows : List Held) (name : List ℕ) → keys ≡ names_of rows → list_any (bytes_eq name) keys ≡ true →
    insert_key bytes_eq keys name ≡ names_of rows
insert_again keys rows name named present = ap (λ b. cond b keys (keys ++ name ∷ [])) present ∙ named

-- a name that is no key is no symbol's
pub undefined_by : (keys : List (List ℕ)) (rows : List Held) (name : List ℕ) → keys ≡ names_of rows → list_any (bytes_eq name) keys ≡ false →
    place_of (map entry_of rows) name ≡ None
undefined_by keys rows name named absent = sym (place_named keys rows name named) ∙ by (position (bytes_eq name) keys) refl
  where
    by : (found : Option ℕ) → position (bytes_eq name) keys ≡ found → position (bytes_eq name) keys ≡ None
    by None is = is
    by (Some i) is =
        let at = position-Some (bytes_eq name) keys i [] is in
        absurd (let both : true ≡ false = sym (list_any_at (bytes_eq name) keys i [] at.0 at.1) ∙ absent in cc)

-- a name that is a key is a symbol's
pub defined_by : (keys : List (List ℕ)) (rows : List Held) (name : List ℕ) → keys ≡ names_of rows → list_any (bytes_eq name) keys ≡ true →
    IsDefined (map entry_of rows) name
defined_by keys rows name named present = by (place_of (map entry_of rows) name) refl
  where
    by : (found : Option ℕ) → place_of (map entry_of rows) name ≡ found → IsSome (place_of (map entry_of rows) name)
    by None is =
        let none = no_position (bytes_eq name) keys (place_named keys rows name named ∙ is) in
        absurd (let both : true ≡ false = sym present ∙ none in cc)
    by (Some i) is = subst IsSome (sym is) refl

pub entries-append : (rows : List Held) (row : Held) → map entry_of (rows ++ row ∷ []) ≡ map entry_of rows ++ entry_of row ∷ []
entries-append rows row = map-append entry_of rows (row ∷ [])
