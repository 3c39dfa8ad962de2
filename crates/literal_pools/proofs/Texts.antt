-- Literals by their texts and lengths.
use Rattle.std.proofs.Common.{◌≡◌, ℕ, suc, ◌+◌, ◌≤◌, Bool, true, false, cond, not, ◌||◌, List, [], ◌∷◌, ◌++◌, length, map, Some, None, refl, sym, ap, ◌∙◌, position, string_bytes, nat_lt, arith}
use Rattle.std.specs.List.{prefix_len, list_any, position_or_len}
use Rattle.std.specs.Str.{bytes_eq}
use Rattle.std.specs.String.{string_eq}
use Rattle.std.specs.declared.string.String.{String}
use Rattle.std.specs.declared.alloc.Global.{Global}
use Rattle.std.proofs.lemmas.Bool.{ltb-false}
use Rattle.std.proofs.lemmas.List.{map-append, length-map}
use Rattle.indexmap.specs.IndexSet.{insert_key}
use Rattle.literal_pools.specs.Pools.{place_of, text_of, lengths}
use Rattle.literal_pools.specs.Views.{joined, spelled}

pub texts_joined : (texts : List (List ℕ)) (ns : List ℕ) → length texts ≡ length ns → map text_of (joined texts ns) ≡ texts
texts_joined [] ns alike = refl
texts_joined (text ∷ texts) [] alike = absurd (omega arith)
texts_joined (text ∷ texts) (n ∷ ns) alike = ap (λ rest. text ∷ rest) (texts_joined texts ns (omega arith))

pub lengths_joined : (texts : List (List ℕ)) (ns : List ℕ) → length texts ≡ length ns → lengths (joined texts ns) ≡ ns
lengths_joined [] [] alike = refl
lengths_joined [] (n ∷ ns) alike = absurd (omega arith)
lengths_joined (text ∷ texts) [] alike = absurd (omega arith)
lengths_joined (text ∷ texts) (n ∷ ns) alike = ap (λ rest. n ∷ rest) (lengths_joined texts ns (omega arith))

pub length_joined : (texts : List (List ℕ)) (ns : List ℕ) → length texts ≡ length ns → length (joined texts ns) ≡ length ns
length_joined [] [] alike = refl
length_joined [] (n ∷ ns) alike = absurd (omega arith)
length_joined (text ∷ texts) [] alike = absurd (omega arith)
length_joined (text ∷ texts) (n ∷ ns) alike = ap suc (length_joined texts ns (omega arith))

pub joined-append : (texts : List (List ℕ)) (ns : List ℕ) (text : List ℕ) (n : ℕ) → length texts ≡ length ns →
    joined (texts ++ text ∷ []) (ns ++ n ∷ []) ≡ joined texts ns ++ record { text = text; length = n } ∷ []
joined-append [] [] text n alike = refl
joined-append [] (m ∷ ns) text n alike = absurd (omega arith)
joined-append (other ∷ texts) [] text n alike = absurd (omega arith)
joined-append (other ∷ texts) (m ∷ ns) text n alike =
    ap (λ rest. record { text = other; length = m } ∷ rest) (joined-append texts ns text n (omega arith))

prefix_len-map : {X Y : Type 0} (f : X → Y) (p : Y → Bool) (xs : List X) → prefix_len (λ x. p (f x)) xs ≡ prefix_len p (map f xs)
prefix_len-map f p [] = refl
prefix_len-map f p (x ∷ xs) = ap (λ n. cond (p (f x)) (1 + n) 0) (prefix_len-map f p xs)

position_map : {X Y : Type 0} (f : X → Y) (p : Y → Bool) (xs : List X) → position (λ x. p (f x)) xs ≡ position p (map f xs)
position_map f p xs =
    ap (λ n. cond (nat_lt n (length xs)) (Some n) None) (prefix_len-map f (λ y. not (p y)) xs)
    ∙ ap (λ m. cond (nat_lt (position_or_len p (map f xs)) m) (Some (position_or_len p (map f xs))) None) (sym (length-map xs f))

pub length-spelled : (keys : List (String Global)) → length (spelled keys) ≡ length keys
length-spelled keys = length-map keys string_bytes

-- the place of a text among the keys is that of its literal
pub place_spelled : (keys : List (String Global)) (ns : List ℕ) (text : List ℕ) → length keys ≡ length ns →
    position (λ key. bytes_eq text (string_bytes key)) keys ≡ place_of (joined (spelled keys) ns) text
place_spelled keys ns text alike =
    position_map string_bytes (bytes_eq text) keys
    ∙ ap (position (bytes_eq text)) (sym (texts_joined (spelled keys) ns (length-spelled keys ∙ alike)))

past_any : {X : Type 0} (p : X → Bool) (xs : List X) → length xs ≤ prefix_len (λ x. not (p x)) xs → list_any p xs ≡ false
past_any p [] past = refl
past_any p (x ∷ xs) past = by (p x) refl (λ further. past_any p xs further)
  where
    by : (b : Bool) → p x ≡ b → (length xs ≤ prefix_len (λ y. not (p y)) xs → list_any p xs ≡ false) → list_any p (x ∷ xs) ≡ false
    by true is others =
        let none : prefix_len (λ y. not (p y)) (x ∷ xs) ≡ 0 = ap (λ b. cond (not b) (1 + prefix_len (λ y. not (p y)) xs) 0) is in
        absurd (omega arith)
    by false is others =
        let more : prefix_len (λ y. not (p y)) (x ∷ xs) ≡ 1 + prefix_len (λ y. not (p y)) xs =
        ap (λ b. cond (not b) (1 + prefix_len (λ y. not (p y)) xs) 0) is in
        ap (λ b. b || list_any p xs) is ∙ others (omega arith)

no_position : {X : Type 0} (p : X → Bool) (xs : List X) → position p xs ≡ None → list_any p xs ≡ false
no_position p xs none = by (nat_lt (position_or_len p xs) (length xs)) refl
  where
    by : (b : Bool) → nat_lt (position_or_len p xs) (length xs) ≡ b → list_any p xs ≡ false
    by true is =
        let some : Some (position_or_len p xs) ≡ None = sym (ap (λ b. cond b (Some (position_or_len p xs)) None) is) ∙ none in absurd cc
    by false is = past_any p xs (ltb-false _ _ is)

-- a key of a new text goes last
pub insert_new : (keys : List (String Global)) (key : String Global) (ns : List ℕ) (text : List ℕ) → length keys ≡ length ns →
    place_of (joined (spelled keys) ns) text ≡ None → string_bytes key ≡ text → insert_key string_eq keys key ≡ keys ++ key ∷ []
insert_new keys key ns text alike none spells =
    ap (λ b. cond b keys (keys ++ key ∷ []))
    (no_position (string_eq key) keys (ap (λ t. position (λ k. bytes_eq t (string_bytes k)) keys) spells ∙ place_spelled keys ns text alike ∙ none))

pub spelled-append : (keys : List (String Global)) (key : String Global) → spelled (keys ++ key ∷ []) ≡ spelled keys ++ string_bytes key ∷ []
spelled-append keys key = map-append string_bytes keys (key ∷ [])
