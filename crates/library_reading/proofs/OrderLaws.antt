-- The names in order are the only list of them that ascends.
use Rattle.std.proofs.Common.{◌≡◌, ◌≢◌, ℕ, ◌+◌, Bool, true, false, cond, List, [], ◌∷◌, map, get_or, suc, add-one, refl, ap, sym, ◌∙◌, subst, arith}
use Rattle.std.specs.Ordering.{is_lt, is_gt, is_eq, nat_cmp, ordering_reverse}
use Rattle.std.specs.declared.cmp.Ordering.{Ordering}
use Rattle.std.specs.declared.cmp.Ordering.TheVariants.{Less, Equal, Greater}
use Rattle.std.specs.Cmp.Lexicographic.{slice_cmp}
use Rattle.std.specs.List.Sorted.{IsPermutation, IsSorted, IsSortedBy}
use Rattle.std.specs.List.{filter}
use Rattle.std.specs.Str.{bytes_eq}
use Rattle.std.proofs.lemmas.Cmp.{nat_list_cmp_total, upto, tied_itself}
use Rattle.std.proofs.lemmas.List.Recursion.{is_count_by}
use Rattle.std.proofs.lemmas.Map.Text.{is_eq-slice_cmp}
use Rattle.std.proofs.lemmas.Slice.Eq.{bytes_eq-Decides}
use Rattle.std.proofs.lemmas.List.Sorted.{sum_by-IsPermutation, IsPermutation-map}
use Rattle.library_reading.specs.Order.{before, placed, in_order}

-- ---- two names

gt_reverse : (r : Ordering) → is_gt (ordering_reverse r) ≡ is_lt r
gt_reverse Less = refl
gt_reverse Equal = refl
gt_reverse Greater = refl

-- a name comes before another exactly where the other comes behind it
before-flip : (x y : List ℕ) → before y x ≡ is_gt (slice_cmp nat_cmp x y)
before-flip x y = sym (gt_reverse (slice_cmp nat_cmp y x)) ∙ ap is_gt (sym (nat_list_cmp_total.antisymm x y))

not_before-trans : (x y z : List ℕ) → before y x ≡ false → before z y ≡ false → before z x ≡ false
not_before-trans x y z first second =
    before-flip x z ∙ upto nat_list_cmp_total x y z (sym (before-flip x y) ∙ first) (sym (before-flip y z) ∙ second)

one_of : (r : Ordering) → is_lt r ≡ true → is_gt r ≡ false
one_of Less e = refl
one_of Equal e = refl
one_of Greater e = cc

not_both : (x y : List ℕ) → before y x ≡ true → before x y ≡ false
not_both x y first = before-flip y x ∙ one_of (slice_cmp nat_cmp y x) first

neither : (r : Ordering) → is_lt r ≡ false → is_gt r ≡ false → is_eq r ≡ true
neither Less e f = cc
neither Equal e f = refl
neither Greater e f = cc

same_name : (x y : List ℕ) → before x y ≡ false → before y x ≡ false → x ≡ y
same_name x y first second =
    let tied : is_eq (slice_cmp nat_cmp x y) ≡ true = neither (slice_cmp nat_cmp x y) first (sym (before-flip x y) ∙ second) in
    (bytes_eq-Decides x y).0 (sym (is_eq-slice_cmp x y) ∙ tied)

not_before_itself : (x : List ℕ) → before x x ≡ false
not_before_itself x = ap is_lt (tied_itself nat_list_cmp_total x)

-- ---- lists that ascend

-- none of these comes before a name
abbrev pub AreFrom : List ℕ → List (List ℕ) → Type 0
AreFrom x [] = Unit {0}
AreFrom x (y ∷ ys) = (before y x ≡ false) × AreFrom x ys

abbrev pub Ascends : List (List ℕ) → Type 0
Ascends [] = Unit {0}
Ascends (x ∷ xs) = AreFrom x xs × Ascends xs

AreFrom-trans : (x y : List ℕ) (ys : List (List ℕ)) → before y x ≡ false → AreFrom y ys → AreFrom x ys
AreFrom-trans x y [] first rest = tt
AreFrom-trans x y (z ∷ zs) first rest = (not_before-trans x y z first rest.0, AreFrom-trans x y zs first rest.1)

AreFrom-placed : (x name : List ℕ) (ys : List (List ℕ)) → before name x ≡ false → AreFrom x ys → AreFrom x (placed name ys)
AreFrom-placed x name [] first rest = (first, tt)
AreFrom-placed x name (y ∷ ys) first rest = by (before y name) (AreFrom-placed x name ys first rest.1) where
  by : (b : Bool) → AreFrom x (placed name ys) → AreFrom x (cond b (y ∷ placed name ys) (name ∷ y ∷ ys))
  by true behind = (rest.0, behind)
  by false behind = (first, rest)

Ascends-placed : (name : List ℕ) (ys : List (List ℕ)) → Ascends ys → Ascends (placed name ys)
Ascends-placed name [] up = (tt, tt)
Ascends-placed name (y ∷ ys) up = by (before y name) refl (Ascends-placed name ys up.1) where
  by : (b : Bool) → before y name ≡ b → Ascends (placed name ys) → Ascends (cond b (y ∷ placed name ys) (name ∷ y ∷ ys))
  by true e behind = (AreFrom-placed y name ys (not_both name y e) up.0, behind)
  by false e behind = ((e, AreFrom-trans name y ys e up.0), up)

pub Ascends-in_order : (names : List (List ℕ)) → Ascends (in_order names)
Ascends-in_order [] = tt
Ascends-in_order (name ∷ names) = Ascends-placed name (in_order names) (Ascends-in_order names)

-- ---- how often a name stands there

abbrev pub many : List ℕ → List (List ℕ) → ℕ
many x [] = 0
many x (y ∷ ys) = cond (bytes_eq x y) (1 + many x ys) (many x ys)

exchanged : (b c : Bool) (k : ℕ) → cond b (1 + cond c (1 + k) k) (cond c (1 + k) k) ≡ cond c (1 + cond b (1 + k) k) (cond b (1 + k) k)
exchanged true true k = refl
exchanged true false k = refl
exchanged false true k = refl
exchanged false false k = refl

many-placed : (x name : List ℕ) (ys : List (List ℕ)) → many x (placed name ys) ≡ cond (bytes_eq x name) (1 + many x ys) (many x ys)
many-placed x name [] = refl
many-placed x name (y ∷ ys) = by (before y name) (many-placed x name ys) where
  by : (b : Bool) → many x (placed name ys) ≡ cond (bytes_eq x name) (1 + many x ys) (many x ys)
      → many x (cond b (y ∷ placed name ys) (name ∷ y ∷ ys)) ≡ cond (bytes_eq x name) (1 + many x (y ∷ ys)) (many x (y ∷ ys))
  by true rest = ap (λ k. cond (bytes_eq x y) (1 + k) k) rest ∙ exchanged (bytes_eq x y) (bytes_eq x name) (many x ys)
  by false rest = refl

many-in_order : (x : List ℕ) (names : List (List ℕ)) → many x (in_order names) ≡ many x names
many-in_order x [] = refl
many-in_order x (name ∷ names) = many-placed x name (in_order names) ∙ ap (λ k. cond (bytes_eq x name) (1 + k) k) (many-in_order x names)

many-permutation : (x : List ℕ) (names others : List (List ℕ)) → IsPermutation names others → many x others ≡ many x names
many-permutation x names others moved =
    is_count_by (many x) (bytes_eq x) refl (λ y ys. refl) others
    ∙ sum_by-IsPermutation (λ y. cond (bytes_eq x y) 1 0) names others moved
    ∙ sym (is_count_by (many x) (bytes_eq x) refl (λ y ys. refl) names)

-- what stands among names that do not come before another does not either
not_before-first : (y x : List ℕ) (ys : List (List ℕ)) → AreFrom y ys → many x ys ≢ 0 → before x y ≡ false
not_before-first y x [] from some = absurd (some refl)
not_before-first y x (z ∷ zs) from some = by (bytes_eq x z) refl some (not_before-first y x zs from.1) where
  by : (b : Bool) → bytes_eq x z ≡ b → cond b (1 + many x zs) (many x zs) ≢ 0 → (many x zs ≢ 0 → before x y ≡ false) → before x y ≡ false
  by true e more rest = ap (λ n. before n y) ((bytes_eq-Decides x z).0 e) ∙ from.0
  by false e more rest = rest more

itself : (x : List ℕ) → bytes_eq x x ≡ true
itself x = (bytes_eq-Decides x x).1 refl

no_sum : (k : ℕ) → 1 + k ≡ 0 → ⊥
no_sum k e = omega arith

some_first : (x : List ℕ) (xs : List (List ℕ)) → many x (x ∷ xs) ≢ 0
some_first x xs none = no_sum (many x xs) (ap (λ b. cond b (1 + many x xs) (many x xs)) (sym (itself x)) ∙ none)

-- the first of two lists with the same names are the same
same_first : (x y : List ℕ) (xs ys : List (List ℕ)) → Ascends (x ∷ xs) → Ascends (y ∷ ys) → ((n : List ℕ) → many n (x ∷ xs) ≡ many n (y ∷ ys)) → x ≡ y
same_first x y xs ys up other same =
    let one : before x y ≡ false = not_before-first y x (y ∷ ys) (not_before_itself y, other.0) (λ none. some_first x xs (same x ∙ none)) in
    let two : before y x ≡ false = not_before-first x y (x ∷ xs) (not_before_itself x, up.0) (λ none. some_first y ys (sym (same y) ∙ none)) in
    same_name x y one two

same_rest : (c : Bool) (a b : ℕ) → cond c (1 + a) a ≡ cond c (1 + b) b → a ≡ b
same_rest true a b e = omega arith
same_rest false a b e = e

-- two lists that ascend and have the same names are the same
pub only_one : (xs ys : List (List ℕ)) → Ascends xs → Ascends ys → ((n : List ℕ) → many n xs ≡ many n ys) → xs ≡ ys
only_one [] [] up other same = refl
only_one [] (y ∷ ys) up other same = absurd (some_first y ys (sym (same y)))
only_one (x ∷ xs) [] up other same = absurd (some_first x xs (same x))
only_one (x ∷ xs) (y ∷ ys) up other same =
    let first : x ≡ y = same_first x y xs ys up other same in
    let rest : xs ≡ ys = only_one xs ys up.1 other.1 (λ n. same_rest (bytes_eq n x) (many n xs) (many n ys)
    (same n ∙ ap (λ z. cond (bytes_eq n z) (1 + many n ys) (many n ys)) (sym first))) in
    ap (λ z. z ∷ xs) first ∙ ap (λ z. y ∷ z) rest

-- ---- what a sort leaves

Ascends-cons : (x y : List ℕ) (ys : List (List ℕ)) → before y x ≡ false → Ascends (y ∷ ys) → Ascends (x ∷ y ∷ ys)
Ascends-cons x y ys first up = ((first, AreFrom-trans x y ys first up.0), up)

abbrev Below : {X : Type 0} → (X → List ℕ) → List X → Type 0
Below f = IsSortedBy (λ a b. before (f a) (f b))

Below-rest : {X : Type 0} (f : X → List ℕ) (x : X) (ys : List X) → Below f (x ∷ ys) → Below f ys
Below-rest f x ys sorted = λ k d low high.
    ap (λ n. before (f (get_or ys n d)) (f (get_or ys k d))) (add-one k)
    ∙ ap (λ n. before (f (get_or (x ∷ ys) n d)) (f (get_or (x ∷ ys) (suc k) d))) (sym (add-one (suc k)))
    ∙ sorted (suc k) d (omega arith) (omega arith)

Ascends-from_sorted : {X : Type 0} (f : X → List ℕ) (ys : List X) → Below f ys → Ascends (map f ys)
Ascends-from_sorted f [] sorted = tt
Ascends-from_sorted f (x ∷ []) sorted = (tt, tt)
Ascends-from_sorted f (x ∷ y ∷ ys) sorted =
    Ascends-cons (f x) (f y) (map f ys) (sorted 0 x (omega arith) (omega arith)) (Ascends-from_sorted f (y ∷ ys) (Below-rest f x (y ∷ ys) sorted))

-- a list of the same names that is sorted is the names in order
pub in_order-sorted : {X : Type 0} (f : X → List ℕ) (names sorted : List X) → IsPermutation names sorted → Below f sorted → in_order (map f names) ≡ map f sorted
in_order-sorted f names sorted moved up =
    only_one (in_order (map f names)) (map f sorted) (Ascends-in_order (map f names)) (Ascends-from_sorted f sorted up)
    (λ n. many-in_order n (map f names) ∙ sym (many-permutation n (map f names) (map f sorted) (IsPermutation-map f names sorted moved)))

-- the only such list
pub only_order : (names sorted : List (List ℕ)) → IsPermutation names sorted → IsSorted (slice_cmp nat_cmp) sorted → in_order names ≡ sorted
only_order names sorted moved up =
    only_one (in_order names) sorted (Ascends-in_order names) (subst Ascends (map-id sorted) (Ascends-from_sorted (λ z. z) sorted up))
    (λ n. many-in_order n names ∙ sym (many-permutation n names sorted moved)) where
      map-id : (zs : List (List ℕ)) → map (λ z. z) zs ≡ zs
      map-id [] = refl
      map-id (z ∷ zs) = ap (λ t. z ∷ t) (map-id zs)

-- ---- names that are kept

map-filter : {X : Type 0} (f : X → List ℕ) (test : List ℕ → Bool) (xs : List X) → map f (filter (λ x. test (f x)) xs) ≡ filter test (map f xs)
map-filter f test [] = refl
map-filter f test (x ∷ xs) = by (test (f x)) (map-filter f test xs) where
  by : (b : Bool) → map f (filter (λ z. test (f z)) xs) ≡ filter test (map f xs)
      → map f (cond b (x ∷ filter (λ z. test (f z)) xs) (filter (λ z. test (f z)) xs)) ≡ cond b (f x ∷ filter test (map f xs)) (filter test (map f xs))
  by true rest = ap (λ t. f x ∷ t) rest
  by false rest = rest

pub kept-in_order : {X : Type 0} (f : X → List ℕ) (test : List ℕ → Bool) (names sorted kept : List X) → IsPermutation names sorted → Below f sorted
    → kept ≡ filter (λ x. test (f x)) sorted → map f kept ≡ filter test (in_order (map f names))
kept-in_order f test names sorted kept moved up is =
    ap (map f) is ∙ map-filter f test sorted ∙ ap (filter test) (sym (in_order-sorted f names sorted moved up))
