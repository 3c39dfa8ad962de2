-- Sections by their names.
use Rattle.std.proofs.Common.{◌≡◌, ℕ, ◌+◌, ◌≤◌, Bool, true, false, cond, not, ◌||◌, List, [], ◌∷◌, ◌++◌, length, map, Some, None, refl, sym, ap, ◌∙◌, position, string_bytes, nat_lt, arith}
use Rattle.std.specs.List.{prefix_len, list_any, position_or_len}
use Rattle.std.specs.Str.{bytes_eq}
use Rattle.std.specs.String.{string_eq}
use Rattle.std.specs.declared.string.String.{String}
use Rattle.std.specs.declared.alloc.Global.{Global}
use Rattle.std.proofs.lemmas.Bool.{ltb-false}
use Rattle.std.proofs.lemmas.List.{map-append, length-map}
use Rattle.indexmap.specs.IndexSet.{insert_key}
use Rattle.section_table.specs.Views.{spelled}

prefix_len-map : {X Y : Type 0} (f : X → Y) (p : Y → Bool) (xs : List X) → prefix_len (λ x. p (f x)) xs ≡ prefix_len p (map f xs)
prefix_len-map f p [] = refl
prefix_len-map f p (x ∷ xs) = ap (λ n. cond (p (f x)) (1 + n) 0) (prefix_len-map f p xs)

-- the place of what is mapped
pub position_map : {X Y : Type 0} (f : X → Y) (p : Y → Bool) (xs : List X) → position (λ x. p (f x)) xs ≡ position p (map f xs)
position_map f p xs =
    ap (λ n. cond (nat_lt n (length xs)) (Some n) None) (prefix_len-map f (λ y. not (p y)) xs)
    ∙ ap (λ m. cond (nat_lt (position_or_len p (map f xs)) m) (Some (position_or_len p (map f xs))) None) (sym (length-map xs f))

past_any : {X : Type 0} (p : X → Bool) (xs : List X) → length xs ≤ prefix_len (λ x. not (p x)) xs → list_any p xs ≡ false
past_any p [] past = refl
past_any p (x ∷ xs) past = by (p x) refl (λ further. past_any p xs further)
  where
    by : (b : Bool) → p x ≡ b → (length xs ≤ prefix_len (λ y. not (p y)) xs → list_any p xs ≡ false) → list_any p (x ∷ xs) ≡ false
    by true is others =
        let none : prefix_len (λ y. not (p y)) (x ∷ xs) ≡ 0 = ap (λ b. cond (not b) (1 + prefix_len (λ y. not (p y)) xs) 0) is in
        absurd (omega arith)
    by false is others =
        let more : prefix_len (λ y. not (p y)) (x ∷ xs) ≡ 1 + prefix_len (λ y. not (p y)) xs =
        ap (λ b. cond (not b) (1 + prefix_len (λ y. not (p y)) xs) 0) is in
        ap (λ b. b || list_any p xs) is ∙ others (omega arith)

no_position : {X : Type 0} (p : X → Bool) (xs : List X) → position p xs ≡ None → list_any p xs ≡ false
no_position p xs none = by (nat_lt (position_or_len p xs) (length xs)) refl
  where
    by : (b : Bool) → nat_lt (position_or_len p xs) (length xs) ≡ b → list_any p xs ≡ false
    by true is =
        let some : Some (position_or_len p xs) ≡ None = sym (ap (λ b. cond b (Some (position_or_len p xs)) None) is) ∙ none in absurd cc
    by false is = past_any p xs (ltb-false _ _ is)

-- a key of a new name goes last
pub insert_new : (keys : List (String Global)) (key : String Global) (name : List ℕ) →
    position (bytes_eq name) (spelled keys) ≡ None → string_bytes key ≡ name → insert_key string_eq keys key ≡ keys ++ key ∷ []
insert_new keys key name none spells =
    ap (λ b. cond b keys (keys ++ key ∷ []))
    (no_position (string_eq key) keys (ap (λ t. position (λ k. bytes_eq t (string_bytes k)) keys) spells ∙ position_map string_bytes (bytes_eq name) keys ∙ none))

pub spelled-append : (keys : List (String Global)) (key : String Global) → spelled (keys ++ key ∷ []) ≡ spelled keys ++ string_bytes key ∷ []
spelled-append keys key = map-append string_bytes keys (key ∷ [])
