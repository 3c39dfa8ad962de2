-- The documents of a store by their paths, and the numbers of paths.
use Rattle.std.proofs.Common.{◌≡◌, ◌∙◌, ℕ, zero, suc, ◌+◌, ◌<◌, ◌≤◌, Bool, true, false, not, cond, List, [], ◌∷◌, ◌++◌, length, take, drop, get_or, set, map, refl, sym, inl, inr, ap, arith, Some, None, Option, length-append, add-zero}
use Rattle.std.specs.Prelude.{◌||◌, is_some, count_by, filter, find, position, slice_get, nat_lt, chars, IsUtf8, encode_utf8_all}
use Rattle.std.specs.List.{position_or_len, prefix_len, list_any}
use Rattle.std.specs.Str.{bytes_eq}
use Rattle.std.proofs.lemmas.Bool.{cases_Bool, true≢false, ltb-false, lt-ltb, le-ltb, eq-eqb}
use Rattle.std.proofs.lemmas.List.{length-map, length_push}
use Rattle.std.proofs.lemmas.List.Folds.{find_at, position_or_len_push}
use Rattle.std.proofs.lemmas.List.Quantifiers.{position-Some}
use Rattle.std.proofs.lemmas.Map.Keys.{any_passes_from_place}
use Rattle.std.proofs.lemmas.List.Sums.{prefix_len-le-length, sum_by-cons, sum_by-append, position_or_len_is}
use Rattle.std.proofs.lemmas.Option.{slice_get-get_or, slice_get_past, slice_get_cases}
use Rattle.std.proofs.lemmas.Slice.Eq.{bytes_eq-Decides}
use Rattle.std.proofs.lemmas.Str.{encodes-chars}
use Rattle.document_store.specs.Store.{number_of}
use Rattle.document_store.specs.Changes.{with_path, beside_path}

-- ---- the first that passes

-- the first place of elements that pass alike
pub prefix_alike : {X Y : Type 0} (p : X → Bool) (q : Y → Bool) (f : X → Y) → ((x : X) → q (f x) ≡ p x) → (xs : List X) →
    prefix_len (λ y. not (q y)) (map f xs) ≡ prefix_len (λ x. not (p x)) xs
prefix_alike p q f same [] = refl
prefix_alike p q f same (x ∷ xs) =
    ap (λ b. cond (not b) (1 + prefix_len (λ y. not (q y)) (map f xs)) 0) (same x)
    ∙ ap (λ n. cond (not (p x)) (1 + n) 0) (prefix_alike p q f same xs)

pub position_alike : {X Y : Type 0} (p : X → Bool) (q : Y → Bool) (f : X → Y) → ((x : X) → q (f x) ≡ p x) → (xs : List X) →
    position q (map f xs) ≡ position p xs
position_alike p q f same xs =
    ap (λ n. cond (nat_lt n (length (map f xs))) (Some n) None) (prefix_alike p q f same xs)
    ∙ ap (λ n. cond (nat_lt (position_or_len p xs) n) (Some (position_or_len p xs)) None) (length-map xs f)

-- a place that was found is the first
pub position-first : {X : Type 0} (p : X → Bool) (xs : List X) (i : ℕ) (d : X) → position p xs ≡ Some i → position_or_len p xs ≡ i
position-first p xs i d found =
    let at = position-Some p xs i d found in
    position_or_len_is p xs i d (omega (arith, at.0)) at.2 (λ _. at.1)

-- what is found stands at the first place
pub find-Some : {X : Type 0} (p : X → Bool) (xs : List X) (i : ℕ) (d : X) → position p xs ≡ Some i → find p xs ≡ Some (get_or xs i d)
find-Some p xs i d found =
    find_at p xs ∙ ap (slice_get xs) (position-first p xs i d found) ∙ slice_get-get_or xs i d (position-Some p xs i d found).0

none_past : {X : Type 0} (xs : List X) (n : ℕ) (b : Bool) → nat_lt n (length xs) ≡ b → cond b (Some n) None ≡ None → length xs ≤ n
none_past xs n true is none = absurd (cc)
none_past xs n false is none = ltb-false n (length xs) is

-- where no place is found, nothing is
pub find-None : {X : Type 0} (p : X → Bool) (xs : List X) → position p xs ≡ None → find p xs ≡ None
find-None p xs none =
    find_at p xs ∙ slice_get_past xs (position_or_len p xs) (none_past xs _ _ refl none)

count_none-step : {X : Type 0} (b : Bool) (x : X) (n : ℕ) (rest : Option X) → cond b (Some x) rest ≡ None → (rest ≡ None → n ≡ 0) → cond b 1 0 + n ≡ 0
count_none-step true x n rest none further = absurd (cc)
count_none-step false x n rest none further = let zero_rest : n ≡ 0 = further none in omega arith

-- where nothing is found, none passes
pub count-none : {X : Type 0} (p : X → Bool) (xs : List X) → find p xs ≡ None → count_by p xs ≡ 0
count-none p [] none = refl
count-none p (x ∷ xs) none =
    sum_by-cons (λ y. cond (p y) 1 0) x xs ∙ count_none-step (p x) x (count_by p xs) (find p xs) none (count-none p xs)

-- ---- none that passes

zero_first : (b : Bool) (n : ℕ) → cond b 1 0 + n ≡ 0 → b ≡ false
zero_first true n none = absurd (omega arith)
zero_first false n none = refl

zero_rest : (b : Bool) (n : ℕ) → cond b 1 0 + n ≡ 0 → n ≡ 0
zero_rest true n none = omega arith
zero_rest false n none = omega arith

module _ {X : Type 0} (p : X → Bool) (x : X) (xs : List X) (none : count_by p (x ∷ xs) ≡ 0) where
  first_fails : p x ≡ false
  first_fails = zero_first (p x) (count_by p xs) (sym (sum_by-cons (λ y. cond (p y) 1 0) x xs) ∙ none)

  rest_fails : count_by p xs ≡ 0
  rest_fails = zero_rest (p x) (count_by p xs) (sym (sum_by-cons (λ y. cond (p y) 1 0) x xs) ∙ none)

-- where none passes, all that does not is all
pub filter-none : {X Y : Type 0} (p : X → Bool) (q : Y → Bool) (f : X → Y) → ((x : X) → q (f x) ≡ p x) → (xs : List X) → count_by p xs ≡ 0 →
    filter (λ y. not (q y)) (map f xs) ≡ map f xs
filter-none p q f same [] none = refl
filter-none p q f same (x ∷ xs) none =
    ap (λ b. cond (not b) (f x ∷ filter (λ y. not (q y)) (map f xs)) (filter (λ y. not (q y)) (map f xs))) (same x ∙ first_fails p x xs none)
    ∙ ap (λ ys. f x ∷ ys) (filter-none p q f same xs (rest_fails p x xs none))

-- where none passes, what is written of those that pass changes nothing
pub map-none : {X Y : Type 0} (p : X → Bool) (q : Y → Bool) (f : X → Y) (g : Y → Y) → ((x : X) → q (f x) ≡ p x) → (xs : List X) → count_by p xs ≡ 0 →
    map (λ y. cond (q y) (g y) y) (map f xs) ≡ map f xs
map-none p q f g same [] none = refl
map-none p q f g same (x ∷ xs) none =
    ap (λ b. cond b (g (f x)) (f x) ∷ map (λ y. cond (q y) (g y) y) (map f xs)) (same x ∙ first_fails p x xs none)
    ∙ ap (λ ys. f x ∷ ys) (map-none p q f g same xs (rest_fails p x xs none))

-- ---- a list cut at a place

pub cut_at : {X : Type 0} (xs : List X) (i : ℕ) (d : X) → i < length xs → xs ≡ take i xs ++ (get_or xs i d ∷ drop (suc i) xs)
cut_at [] i d within = absurd (omega arith)
cut_at (x ∷ xs) zero d within = refl
cut_at (x ∷ xs) (suc i) d within = ap (λ ys. x ∷ ys) (cut_at xs i d (omega arith))

pub set_at : {X : Type 0} (xs : List X) (i : ℕ) (y : X) → i < length xs → set xs i y ≡ take i xs ++ (y ∷ drop (suc i) xs)
set_at [] i y within = absurd (omega arith)
set_at (x ∷ xs) zero y within = refl
set_at (x ∷ xs) (suc i) y within = ap (λ ys. x ∷ ys) (set_at xs i y (omega arith))

-- one where a test passes
abbrev pub bit : Bool → ℕ
bit b = cond b 1 0

-- where one passes at most, none before and none behind it does
pub parts-none : {X : Type 0} (p : X → Bool) (xs front back : List X) (x : X) → xs ≡ front ++ (x ∷ back) → count_by p xs ≤ 1 → p x ≡ true →
    (count_by p front ≡ 0) × (count_by p back ≡ 0)
parts-none p xs front back x cut once passes =
    let whole : count_by p xs ≡ count_by p front + count_by p (x ∷ back) = ap (count_by p) cut ∙ sum_by-append (λ y. cond (p y) 1 0) front (x ∷ back) in
    let here : count_by p (x ∷ back) ≡ bit (p x) + count_by p back = sum_by-cons (λ y. cond (p y) 1 0) x back in
    let one : bit (p x) ≡ 1 = ap bit passes in
    (omega arith, omega arith)

-- ---- numbers of paths

-- the place of a path where another is put behind
prefix-push-step : (b : Bool) (n m l : ℕ) → (n < l → m ≡ n) → cond b (1 + n) 0 < suc l → cond b (1 + m) 0 ≡ cond b (1 + n) 0
prefix-push-step true n m l further short = ap (λ k. 1 + k) (further (omega arith))
prefix-push-step false n m l further short = refl

prefix-push : {X : Type 0} (p : X → Bool) (xs ys : List X) → prefix_len p xs < length xs → prefix_len p (xs ++ ys) ≡ prefix_len p xs
prefix-push p [] ys short = absurd (omega arith)
prefix-push p (x ∷ xs) ys short = prefix-push-step (p x) (prefix_len p xs) (prefix_len p (xs ++ ys)) (length xs) (prefix-push p xs ys) short

pub position-at : {X : Type 0} (p : X → Bool) (xs : List X) (i : ℕ) → position_or_len p xs ≡ i → i < length xs → position p xs ≡ Some i
position-at p xs i first within =
    let before : nat_lt i (length xs) ≡ true = lt-ltb i (length xs) within in
    ap (λ n. cond (nat_lt n (length xs)) (Some n) None) first ∙ ap (λ b. cond b (Some i) None) before

-- a path keeps its number where others come behind
pub number_of-behind : (paths more : List (List ℕ)) (path : List ℕ) (n : ℕ) → number_of paths path ≡ Some n → number_of (paths ++ more) path ≡ Some n
number_of-behind paths more path n found =
    let within : n < length paths = (position-Some (bytes_eq path) paths n [] found).0 in
    let first : position_or_len (bytes_eq path) paths ≡ n = position-first (bytes_eq path) paths n [] found in
    let long : length (paths ++ more) ≡ length paths + length more = length-append paths more in
    let short : position_or_len (bytes_eq path) paths < length paths = omega arith in
    position-at (bytes_eq path) (paths ++ more) n (prefix-push (λ p. not (bytes_eq path p)) paths more short ∙ first) (omega arith)

-- ---- texts

-- texts of the same characters are the same bytes
pub bytes_eq-chars : (xs ys : List ℕ) → IsUtf8 xs → IsUtf8 ys → bytes_eq (chars xs) (chars ys) ≡ bytes_eq xs ys
bytes_eq-chars xs ys u v = elim (cases_Bool (bytes_eq xs ys)) [
  | inl same ↦ let e : xs ≡ ys = (bytes_eq-Decides xs ys).0 same in (bytes_eq-Decides (chars xs) (chars ys)).1 (ap chars e) ∙ sym same
  | inr other ↦ elim (cases_Bool (bytes_eq (chars xs) (chars ys))) [
    | inl same ↦
        let e : chars xs ≡ chars ys = (bytes_eq-Decides (chars xs) (chars ys)).0 same in
        let bytes : xs ≡ ys = sym (encodes-chars xs u) ∙ ap encode_utf8_all e ∙ encodes-chars ys v in
        absurd (true≢false (sym ((bytes_eq-Decides xs ys).1 bytes) ∙ other))
    | inr apart ↦ apart ∙ sym other
  ]
]

-- the order of two texts does not tell whether they are the same
pub bytes_eq-swap : (xs ys : List ℕ) → bytes_eq xs ys ≡ bytes_eq ys xs
bytes_eq-swap xs ys = elim (cases_Bool (bytes_eq xs ys)) [
  | inl same ↦ same ∙ sym ((bytes_eq-Decides ys xs).1 (sym ((bytes_eq-Decides xs ys).0 same)))
  | inr other ↦ elim (cases_Bool (bytes_eq ys xs)) [
    | inl same ↦ absurd (true≢false (sym ((bytes_eq-Decides xs ys).1 (sym ((bytes_eq-Decides ys xs).0 same))) ∙ other))
    | inr apart ↦ other ∙ sym apart
  ]
]

-- ---- what is found, and what is not

pub position-past : {X : Type 0} (p : X → Bool) (xs : List X) → length xs ≤ position_or_len p xs → position p xs ≡ None
position-past p xs past = ap (λ b. cond b (Some (position_or_len p xs)) None) (le-ltb (position_or_len p xs) (length xs) past)

-- a place is found exactly where something is
pub is_some-find : {X : Type 0} (p : X → Bool) (xs : List X) (found : Option ℕ) → found ≡ position p xs → is_some (find p xs) ≡ is_some found
is_some-find p xs found is =
    elim (slice_get_cases xs (position_or_len p xs)).1 [
      | inl at ↦
          let one : find p xs ≡ Some at.0 = find_at p xs ∙ at.2 in
          let place : found ≡ Some (position_or_len p xs) = is ∙ position-at p xs (position_or_len p xs) refl at.1 in
          ap is_some one ∙ sym (ap is_some place)
      | inr past ↦
          let one : find p xs ≡ None = find_at p xs ∙ past.1 in
          let place : found ≡ None = is ∙ position-past p xs past.0 in
          ap is_some one ∙ sym (ap is_some place)
    ]

any_none-step : {X : Type 0} (b : Bool) (x : X) (any : Bool) (rest : Option X) → cond b (Some x) rest ≡ None → (rest ≡ None → any ≡ false) → (b || any) ≡ false
any_none-step true x any rest none further = absurd (cc)
any_none-step false x any rest none further = further none

any-none : {X : Type 0} (p : X → Bool) (xs : List X) → find p xs ≡ None → list_any p xs ≡ false
any-none p [] none = refl
any-none p (x ∷ xs) none = any_none-step (p x) x (list_any p xs) (find p xs) none (any-none p xs)

-- a path with a number enters nothing
pub with_path-known : (paths : List (List ℕ)) (path : List ℕ) (n : ℕ) → number_of paths path ≡ Some n → with_path paths path ≡ paths
with_path-known paths path n found =
    let at = position-Some (bytes_eq path) paths n [] found in
    let any : list_any (bytes_eq path) paths ≡ true = any_passes_from_place (bytes_eq path) paths n (get_or paths n []) (slice_get-get_or paths n [] at.0) at.1 in
    ap (λ b. cond b paths (paths ++ path ∷ [])) any

-- a path without one goes last
pub with_path-new : (paths : List (List ℕ)) (path : List ℕ) → number_of paths path ≡ None → with_path paths path ≡ paths ++ path ∷ []
with_path-new paths path none =
    ap (λ b. cond b paths (paths ++ path ∷ [])) (any-none (bytes_eq path) paths (find-None (bytes_eq path) paths none))

-- what stands beside it goes last too
pub beside_path-new : {X : Type 0} (paths : List (List ℕ)) (path : List ℕ) → number_of paths path ≡ None → (xs : List X) (x : X) →
    beside_path paths path xs x ≡ xs ++ x ∷ []
beside_path-new paths path none xs x =
    ap (λ b. cond b xs (xs ++ x ∷ [])) (any-none (bytes_eq path) paths (find-None (bytes_eq path) paths none))

-- and has the number after theirs
pub number_of-last : (paths : List (List ℕ)) (path : List ℕ) → number_of paths path ≡ None → number_of (paths ++ path ∷ []) path ≡ Some (length paths)
number_of-last paths path none =
    let past : length paths ≤ position_or_len (bytes_eq path) paths = none_past paths _ _ refl none in
    let below : position_or_len (bytes_eq path) paths ≤ length paths = prefix_len-le-length (λ p. not (bytes_eq path p)) paths in
    let end : position_or_len (bytes_eq path) paths ≡ length paths = omega arith in
    let itself : bytes_eq path path ≡ true = (bytes_eq-Decides path path).1 refl in
    let long : length (paths ++ path ∷ []) ≡ length paths + 1 = length_push paths path in
    let place : position_or_len (bytes_eq path) (paths ++ path ∷ []) ≡ length paths =
    position_or_len_push (bytes_eq path) paths path
    ∙ ap (λ b. cond b (length paths + cond (bytes_eq path path) 0 1) (position_or_len (bytes_eq path) paths)) (eq-eqb (position_or_len (bytes_eq path) paths) (length paths) end)
    ∙ ap (λ b. length paths + cond b 0 1) itself
    ∙ add-zero (length paths) in
    position-at (bytes_eq path) (paths ++ path ∷ []) (length paths) place (omega arith)

some_from : (found : Option ℕ) → is_some found ≡ true → (n : ℕ) × (found ≡ Some n)
some_from (Some n) some = (n, refl)
some_from None some = absurd (cc)

none_from : (found : Option ℕ) → is_some found ≡ false → found ≡ None
none_from None none = refl
none_from (Some n) none = absurd (cc)

-- what a look-up for the number of a path says of entering it
pub with_path-entered : (paths : List (List ℕ)) (path : List ℕ) (found : Option ℕ) → found ≡ number_of paths path → is_some found ≡ false →
    with_path paths path ≡ paths ++ path ∷ []
with_path-entered paths path found is none = with_path-new paths path (sym is ∙ none_from found none)

pub with_path-kept : (paths : List (List ℕ)) (path : List ℕ) (found : Option ℕ) → found ≡ number_of paths path → is_some found ≡ true →
    with_path paths path ≡ paths
with_path-kept paths path found is some =
    let at = some_from found some in with_path-known paths path at.0 (sym is ∙ at.1)

document_found : {X : Type 0} (p : X → Bool) (xs : List X) (found : Option X) (i : ℕ) → find p xs ≡ found → position p xs ≡ Some i →
    (x : X) × (find p xs ≡ Some x)
document_found p xs (Some x) i is place = (x, is)
document_found p xs None i is place =
    let some : is_some (find p xs) ≡ true = is_some-find p xs (position p xs) refl ∙ ap is_some place in
    let none : is_some (find p xs) ≡ false = ap is_some is in
    absurd (true≢false (sym some ∙ none))

-- what stands at a place that was found is what is found
pub found_document : {X : Type 0} (p : X → Bool) (xs : List X) (i : ℕ) → position p xs ≡ Some i →
    (x : X) × (find p xs ≡ Some x) × (slice_get xs i ≡ Some x) × (i < length xs)
found_document p xs i place =
    let one = document_found p xs (find p xs) i refl place in
    let first : position_or_len p xs ≡ i = position-first p xs i one.0 place in
    (one.0, one.1, ap (slice_get xs) (sym first) ∙ sym (find_at p xs) ∙ one.1, (position-Some p xs i one.0 place).0)
