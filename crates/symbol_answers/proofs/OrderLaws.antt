-- The spots in order are the only list of them that ascends.
use Rattle.std.proofs.Common.{◌≡◌, ◌≢◌, ℕ, ◌+◌, ◌<◌, Bool, true, false, cond, List, [], ◌∷◌, map, get_or, suc, add-one, refl, ap, sym, ◌∙◌, subst, arith}
use Rattle.std.specs.Cmp.{IsTotalOrder}
use Rattle.std.specs.Ordering.{MatchOrdering, is_lt, is_gt, is_eq, nat_cmp, ordering_reverse, ordering_then}
use Rattle.std.specs.declared.cmp.Ordering.{Ordering}
use Rattle.std.specs.declared.cmp.Ordering.TheVariants.{Less, Equal, Greater}
use Rattle.std.specs.Cmp.Lexicographic.{slice_cmp}
use Rattle.std.specs.List.Sorted.{IsPermutation, IsSorted, IsSortedBy}
use Rattle.std.proofs.lemmas.Cmp.{nat_list_cmp_total, nat_cmp_total, then_total, on_total, upto, tied_itself, ranked}
use Rattle.std.proofs.lemmas.List.Recursion.{is_count_by}
use Rattle.std.proofs.lemmas.List.Sorted.{sum_by-IsPermutation, IsPermutation-map}
use Rattle.std.proofs.lemmas.Map.Text.{is_eq-slice_cmp}
use Rattle.std.proofs.lemmas.Slice.Eq.{bytes_eq-Decides}
use Rattle.symbol_answers.specs.Order.{Spot, spot_order, comes_before, placed, in_order}

-- ---- two spots

pub spot_total : IsTotalOrder spot_order
spot_total =
    then_total (on_total (λ (s : Spot). s.path) nat_list_cmp_total)
    (then_total (on_total (λ (s : Spot). s.line) nat_cmp_total)
    (then_total (on_total (λ (s : Spot). s.from) nat_cmp_total)
    (then_total (on_total (λ (s : Spot). s.to) nat_cmp_total) (on_total (λ (s : Spot). s.number) nat_cmp_total))))

gt_reverse : (r : Ordering) → is_gt (ordering_reverse r) ≡ is_lt r
gt_reverse Less = refl
gt_reverse Equal = refl
gt_reverse Greater = refl

-- a spot comes before another exactly where the other comes behind it
before-flip : (x y : Spot) → comes_before y x ≡ is_gt (spot_order x y)
before-flip x y = sym (gt_reverse (spot_order y x)) ∙ ap is_gt (sym (spot_total.antisymm x y))

not_before-trans : (x y z : Spot) → comes_before y x ≡ false → comes_before z y ≡ false → comes_before z x ≡ false
not_before-trans x y z first second =
    before-flip x z ∙ upto spot_total x y z (sym (before-flip x y) ∙ first) (sym (before-flip y z) ∙ second)

one_of : (r : Ordering) → is_lt r ≡ true → is_gt r ≡ false
one_of Less e = refl
one_of Equal e = refl
one_of Greater e = cc

not_both : (x y : Spot) → comes_before y x ≡ true → comes_before x y ≡ false
not_both x y first = before-flip y x ∙ one_of (spot_order y x) first

neither : (r : Ordering) → is_lt r ≡ false → is_gt r ≡ false → is_eq r ≡ true
neither Less e f = cc
neither Equal e f = refl
neither Greater e f = cc

-- ---- spots that tie

first_tied : (a b : Ordering) → is_eq (ordering_then a b) ≡ true → is_eq a ≡ true
first_tied Less b e = e
first_tied Equal b e = refl
first_tied Greater b e = e

then_tied : (a b : Ordering) → is_eq (ordering_then a b) ≡ true → is_eq b ≡ true
then_tied Less b e = cc
then_tied Equal b e = e
then_tied Greater b e = cc

same_by : (o : Ordering) (x y : ℕ) → MatchOrdering o (x < y) (x ≡ y) (y < x) → is_eq o ≡ true → x ≡ y
same_by Less x y ranks e = cc
same_by Equal x y ranks e = ranks
same_by Greater x y ranks e = cc

same_number : (x y : ℕ) → is_eq (nat_cmp x y) ≡ true → x ≡ y
same_number x y tied = same_by (nat_cmp x y) x y (ranked x y (nat_cmp x y) refl) tied

same_bytes : (x y : List ℕ) → is_eq (slice_cmp nat_cmp x y) ≡ true → x ≡ y
same_bytes x y tied = (bytes_eq-Decides x y).0 (sym (is_eq-slice_cmp x y) ∙ tied)

spot_with : List ℕ → ℕ → ℕ → ℕ → ℕ → Spot
spot_with path line from to number = record { path = path; line = line; from = from; to = to; number = number }

-- the parts of the order from one part on
abbrev from_to : Spot → Spot → Ordering
from_to x y = ordering_then (nat_cmp x.to y.to) (nat_cmp x.number y.number)

abbrev from_from : Spot → Spot → Ordering
from_from x y = ordering_then (nat_cmp x.from y.from) (from_to x y)

abbrev from_line : Spot → Spot → Ordering
from_line x y = ordering_then (nat_cmp x.line y.line) (from_from x y)

-- two spots that tie are one
same_spot : (x y : Spot) → is_eq (spot_order x y) ≡ true → x ≡ y
unfolding spot_with
same_spot x y tied =
    let at_line = then_tied (slice_cmp nat_cmp x.path y.path) (from_line x y) tied in
    let at_from = then_tied (nat_cmp x.line y.line) (from_from x y) at_line in
    let at_to = then_tied (nat_cmp x.from y.from) (from_to x y) at_from in
    let at_number = then_tied (nat_cmp x.to y.to) (nat_cmp x.number y.number) at_to in
    ap (λ p. spot_with p x.line x.from x.to x.number) (same_bytes x.path y.path (first_tied (slice_cmp nat_cmp x.path y.path) (from_line x y) tied))
    ∙ ap (λ l. spot_with y.path l x.from x.to x.number) (same_number x.line y.line (first_tied (nat_cmp x.line y.line) (from_from x y) at_line))
    ∙ ap (λ f. spot_with y.path y.line f x.to x.number) (same_number x.from y.from (first_tied (nat_cmp x.from y.from) (from_to x y) at_from))
    ∙ ap (λ t. spot_with y.path y.line y.from t x.number) (same_number x.to y.to (first_tied (nat_cmp x.to y.to) (nat_cmp x.number y.number) at_to))
    ∙ ap (λ n. spot_with y.path y.line y.from y.to n) (same_number x.number y.number at_number)

abbrev is_spot : Spot → Spot → Bool
is_spot x y = is_eq (spot_order x y)

itself : (x : Spot) → is_spot x x ≡ true
itself x = ap is_eq (tied_itself spot_total x)

same_from_neither : (x y : Spot) → comes_before x y ≡ false → comes_before y x ≡ false → x ≡ y
same_from_neither x y first second = same_spot x y (neither (spot_order x y) first (sym (before-flip x y) ∙ second))

not_before_itself : (x : Spot) → comes_before x x ≡ false
not_before_itself x = ap is_lt (tied_itself spot_total x)

-- ---- lists that ascend

-- none of these comes before a spot
abbrev pub AreFrom : Spot → List Spot → Type 0
AreFrom x [] = Unit {0}
AreFrom x (y ∷ ys) = (comes_before y x ≡ false) × AreFrom x ys

abbrev pub Ascends : List Spot → Type 0
Ascends [] = Unit {0}
Ascends (x ∷ xs) = AreFrom x xs × Ascends xs

AreFrom-trans : (x y : Spot) (ys : List Spot) → comes_before y x ≡ false → AreFrom y ys → AreFrom x ys
AreFrom-trans x y [] first rest = tt
AreFrom-trans x y (z ∷ zs) first rest = (not_before-trans x y z first rest.0, AreFrom-trans x y zs first rest.1)

AreFrom-placed : (x spot : Spot) (ys : List Spot) → comes_before spot x ≡ false → AreFrom x ys → AreFrom x (placed spot ys)
AreFrom-placed x spot [] first rest = (first, tt)
AreFrom-placed x spot (y ∷ ys) first rest = by (comes_before y spot) (AreFrom-placed x spot ys first rest.1) where
  by : (b : Bool) → AreFrom x (placed spot ys) → AreFrom x (cond b (y ∷ placed spot ys) (spot ∷ y ∷ ys))
  by true behind = (rest.0, behind)
  by false behind = (first, rest)

Ascends-placed : (spot : Spot) (ys : List Spot) → Ascends ys → Ascends (placed spot ys)
Ascends-placed spot [] up = (tt, tt)
Ascends-placed spot (y ∷ ys) up = by (comes_before y spot) refl (Ascends-placed spot ys up.1) where
  by : (b : Bool) → comes_before y spot ≡ b → Ascends (placed spot ys) → Ascends (cond b (y ∷ placed spot ys) (spot ∷ y ∷ ys))
  by true e behind = (AreFrom-placed y spot ys (not_both spot y e) up.0, behind)
  by false e behind = ((e, AreFrom-trans spot y ys e up.0), up)

pub Ascends-in_order : (spots : List Spot) → Ascends (in_order spots)
Ascends-in_order [] = tt
Ascends-in_order (spot ∷ spots) = Ascends-placed spot (in_order spots) (Ascends-in_order spots)

-- ---- how often a spot stands there

abbrev pub many : Spot → List Spot → ℕ
many x [] = 0
many x (y ∷ ys) = cond (is_spot x y) (1 + many x ys) (many x ys)

exchanged : (b c : Bool) (k : ℕ) → cond b (1 + cond c (1 + k) k) (cond c (1 + k) k) ≡ cond c (1 + cond b (1 + k) k) (cond b (1 + k) k)
exchanged true true k = refl
exchanged true false k = refl
exchanged false true k = refl
exchanged false false k = refl

many-placed : (x spot : Spot) (ys : List Spot) → many x (placed spot ys) ≡ cond (is_spot x spot) (1 + many x ys) (many x ys)
many-placed x spot [] = refl
many-placed x spot (y ∷ ys) = by (comes_before y spot) (many-placed x spot ys) where
  by : (b : Bool) → many x (placed spot ys) ≡ cond (is_spot x spot) (1 + many x ys) (many x ys)
      → many x (cond b (y ∷ placed spot ys) (spot ∷ y ∷ ys)) ≡ cond (is_spot x spot) (1 + many x (y ∷ ys)) (many x (y ∷ ys))
  by true rest = ap (λ k. cond (is_spot x y) (1 + k) k) rest ∙ exchanged (is_spot x y) (is_spot x spot) (many x ys)
  by false rest = refl

many-in_order : (x : Spot) (spots : List Spot) → many x (in_order spots) ≡ many x spots
many-in_order x [] = refl
many-in_order x (spot ∷ spots) = many-placed x spot (in_order spots) ∙ ap (λ k. cond (is_spot x spot) (1 + k) k) (many-in_order x spots)

many-permutation : (x : Spot) (spots others : List Spot) → IsPermutation spots others → many x others ≡ many x spots
many-permutation x spots others moved =
    is_count_by (many x) (is_spot x) refl (λ y ys. refl) others
    ∙ sum_by-IsPermutation (λ y. cond (is_spot x y) 1 0) spots others moved
    ∙ sym (is_count_by (many x) (is_spot x) refl (λ y ys. refl) spots)

-- what stands among spots that do not come before another does not either
not_before-first : (y x : Spot) (ys : List Spot) → AreFrom y ys → many x ys ≢ 0 → comes_before x y ≡ false
not_before-first y x [] from some = absurd (some refl)
not_before-first y x (z ∷ zs) from some = by (is_spot x z) refl some (not_before-first y x zs from.1) where
  by : (b : Bool) → is_spot x z ≡ b → cond b (1 + many x zs) (many x zs) ≢ 0 → (many x zs ≢ 0 → comes_before x y ≡ false) → comes_before x y ≡ false
  by true e more rest = ap (λ n. comes_before n y) (same_spot x z e) ∙ from.0
  by false e more rest = rest more

no_sum : (k : ℕ) → 1 + k ≡ 0 → ⊥
no_sum k e = omega arith

some_first : (x : Spot) (xs : List Spot) → many x (x ∷ xs) ≢ 0
some_first x xs none = no_sum (many x xs) (ap (λ b. cond b (1 + many x xs) (many x xs)) (sym (itself x)) ∙ none)

-- the first of two lists with the same spots are the same
same_first : (x y : Spot) (xs ys : List Spot) → Ascends (x ∷ xs) → Ascends (y ∷ ys) → ((n : Spot) → many n (x ∷ xs) ≡ many n (y ∷ ys)) → x ≡ y
same_first x y xs ys up other same =
    let one : comes_before x y ≡ false = not_before-first y x (y ∷ ys) (not_before_itself y, other.0) (λ none. some_first x xs (same x ∙ none)) in
    let two : comes_before y x ≡ false = not_before-first x y (x ∷ xs) (not_before_itself x, up.0) (λ none. some_first y ys (sym (same y) ∙ none)) in
    same_from_neither x y one two

same_rest : (c : Bool) (a b : ℕ) → cond c (1 + a) a ≡ cond c (1 + b) b → a ≡ b
same_rest true a b e = omega arith
same_rest false a b e = e

-- two lists that ascend and have the same spots are the same
pub only_one : (xs ys : List Spot) → Ascends xs → Ascends ys → ((n : Spot) → many n xs ≡ many n ys) → xs ≡ ys
only_one [] [] up other same = refl
only_one [] (y ∷ ys) up other same = absurd (some_first y ys (sym (same y)))
only_one (x ∷ xs) [] up other same = absurd (some_first x xs (same x))
only_one (x ∷ xs) (y ∷ ys) up other same =
    let first : x ≡ y = same_first x y xs ys up other same in
    let rest : xs ≡ ys = only_one xs ys up.1 other.1 (λ n. same_rest (is_spot n x) (many n xs) (many n ys)
    (same n ∙ ap (λ z. cond (is_spot n z) (1 + many n ys) (many n ys)) (sym first))) in
    ap (λ z. z ∷ xs) first ∙ ap (λ z. y ∷ z) rest

-- ---- what a sort leaves

Ascends-cons : (x y : Spot) (ys : List Spot) → comes_before y x ≡ false → Ascends (y ∷ ys) → Ascends (x ∷ y ∷ ys)
Ascends-cons x y ys first up = ((first, AreFrom-trans x y ys first up.0), up)

abbrev Below : {X : Type 0} → (X → Spot) → List X → Type 0
Below f = IsSortedBy (λ a b. comes_before (f a) (f b))

Below-rest : {X : Type 0} (f : X → Spot) (x : X) (ys : List X) → Below f (x ∷ ys) → Below f ys
Below-rest f x ys sorted = λ k d low high.
    ap (λ n. comes_before (f (get_or ys n d)) (f (get_or ys k d))) (add-one k)
    ∙ ap (λ n. comes_before (f (get_or (x ∷ ys) n d)) (f (get_or (x ∷ ys) (suc k) d))) (sym (add-one (suc k)))
    ∙ sorted (suc k) d (omega arith) (omega arith)

Ascends-from_sorted : {X : Type 0} (f : X → Spot) (ys : List X) → Below f ys → Ascends (map f ys)
Ascends-from_sorted f [] sorted = tt
Ascends-from_sorted f (x ∷ []) sorted = (tt, tt)
Ascends-from_sorted f (x ∷ y ∷ ys) sorted =
    Ascends-cons (f x) (f y) (map f ys) (sorted 0 x (omega arith) (omega arith)) (Ascends-from_sorted f (y ∷ ys) (Below-rest f x (y ∷ ys) sorted))

-- a list of the same spots that is sorted is the spots in order
pub in_order-sorted : {X : Type 0} (f : X → Spot) (spots sorted : List X) → IsPermutation spots sorted → Below f sorted → in_order (map f spots) ≡ map f sorted
in_order-sorted f spots sorted moved up =
    only_one (in_order (map f spots)) (map f sorted) (Ascends-in_order (map f spots)) (Ascends-from_sorted f sorted up)
    (λ n. many-in_order n (map f spots) ∙ sym (many-permutation n (map f spots) (map f sorted) (IsPermutation-map f spots sorted moved)))

-- the only such list
pub only_order : (spots sorted : List Spot) → IsPermutation spots sorted → IsSorted spot_order sorted → in_order spots ≡ sorted
only_order spots sorted moved up =
    only_one (in_order spots) sorted (Ascends-in_order spots) (subst Ascends (map-id sorted) (Ascends-from_sorted (λ z. z) sorted up))
    (λ n. many-in_order n spots ∙ sym (many-permutation n spots sorted moved)) where
      map-id : (zs : List Spot) → map (λ z. z) zs ≡ zs
      map-id [] = refl
      map-id (z ∷ zs) = ap (λ t. z ∷ t) (map-id zs)
