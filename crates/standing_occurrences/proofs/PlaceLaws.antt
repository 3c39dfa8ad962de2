-- Occurrences of which each is the first of its place.
use Rattle.std.proofs.Common.{◌≡◌, ℕ, ◌+◌, ◌<◌, length, take, get_or, Bool, true, false, not, cond, ◌==◌, ◌&&◌, ◌||◌, List, [], ◌∷◌, ◌++◌, map, filter, refl, sym, ap, ◌∙◌, rules}
use Rattle.std.specs.Cmp.{IsEquivalence}
use Rattle.std.specs.List.{list_any}
use Rattle.std.proofs.lemmas.Cmp.{on_equiv, and_equiv, nat_eq_equiv}
use Rattle.std.proofs.lemmas.List.{append-nil, take_more}
use Rattle.std.proofs.lemmas.List.Elements.{filter-append}
use Rattle.trace_values.specs.declared.occurrence.Occurrence.{Occurrence}
use Rattle.standing_occurrences.specs.contracts.place.PlacePartialEq.TheImpl as place_eq
use Rattle.standing_occurrences.specs.Kept.{place_of}
use Rattle.standing_occurrences.specs.declared.place.Place.{Place}
use Rattle.standing_occurrences.specs.Standing.{is_same_place, standing, with_first}

-- ---- places

pub same_equiv : IsEquivalence is_same_place
same_equiv =
    and_equiv (on_equiv (λ (o : Occurrence). o.path.0) nat_eq_equiv)
    (and_equiv (on_equiv (λ (o : Occurrence). o.line) nat_eq_equiv)
    (and_equiv (on_equiv (λ (o : Occurrence). o.from) nat_eq_equiv) (on_equiv (λ (o : Occurrence). o.to) nat_eq_equiv)))

-- the occurrences that have another place than this one
abbrev elsewhere : Occurrence → Occurrence → Bool
elsewhere one other = not (is_same_place one other)

-- one of another place is not at the place of what has this one's
apart : (one x y : Occurrence) → is_same_place one x ≡ false → is_same_place x y ≡ true → is_same_place one y ≡ false
apart one x y differs same =
    same_equiv.symm one y ∙ sym (same_equiv.congr x y one same) ∙ same_equiv.symm x one ∙ differs

-- ---- lists without the occurrences of a place

any_elsewhere : (one x : Occurrence) → is_same_place one x ≡ false → (ys : List Occurrence)
    → list_any (is_same_place one) (filter (elsewhere x) ys) ≡ list_any (is_same_place one) ys
any_elsewhere one x differs [] = refl
any_elsewhere one x differs (y ∷ ys) = by (is_same_place x y) refl (any_elsewhere one x differs ys) where
  by : (b : Bool) → is_same_place x y ≡ b → list_any (is_same_place one) (filter (elsewhere x) ys) ≡ list_any (is_same_place one) ys
      → list_any (is_same_place one) (cond (not b) (y ∷ filter (elsewhere x) ys) (filter (elsewhere x) ys)) ≡ (is_same_place one y || list_any (is_same_place one) ys)
  by true e rest = rest ∙ ap (λ c. c || list_any (is_same_place one) ys) (sym (apart one x y differs e))
  by false e rest = ap (λ c. is_same_place one y || c) rest

-- the place of each is the place of one that stands
pub any_standing : (xs : List Occurrence) (one : Occurrence) → list_any (is_same_place one) (standing xs) ≡ list_any (is_same_place one) xs
any_standing [] one = refl
any_standing (x ∷ xs) one = by (is_same_place one x) refl (any_standing xs one) where
  by : (b : Bool) → is_same_place one x ≡ b → list_any (is_same_place one) (standing xs) ≡ list_any (is_same_place one) xs
      → (b || list_any (is_same_place one) (filter (elsewhere x) (standing xs))) ≡ (b || list_any (is_same_place one) xs)
  by true e rest = refl
  by false e rest = any_elsewhere one x e (standing xs) ∙ rest

-- ---- one more behind

-- what stays of one that comes last, where another of its place or none was there
stays : (x next : Occurrence) (b : Bool) → is_same_place x next ≡ b → filter (elsewhere x) (next ∷ []) ≡ cond b [] (next ∷ [])
stays x next true e = ap (λ c. cond (not c) (next ∷ []) []) e
stays x next false e = ap (λ c. cond (not c) (next ∷ []) []) e

-- the rest behind the first, once the next has come
rest_with : (x next : Occurrence) (kept : List Occurrence) (c : Bool) → is_same_place next x ≡ c
    → (d : Bool) → x ∷ filter (elsewhere x) (cond d kept (kept ++ next ∷ []))
    ≡ cond (c || d) (x ∷ filter (elsewhere x) kept) ((x ∷ filter (elsewhere x) kept) ++ next ∷ [])
rest_with x next kept true e true = refl
rest_with x next kept true e false =
    ap (λ t. x ∷ t) (filter-append (elsewhere x) kept (next ∷ []) ∙ ap (λ t. filter (elsewhere x) kept ++ t) (stays x next true (same_equiv.symm x next ∙ e))
    ∙ append-nil (filter (elsewhere x) kept))
rest_with x next kept false e true = refl
rest_with x next kept false e false =
    ap (λ t. x ∷ t) (filter-append (elsewhere x) kept (next ∷ []) ∙ ap (λ t. filter (elsewhere x) kept ++ t) (stays x next false (same_equiv.symm x next ∙ e)))

any_of_rest : (x next : Occurrence) (kept : List Occurrence) (c : Bool) → is_same_place next x ≡ c
    → (c || list_any (is_same_place next) kept) ≡ (c || list_any (is_same_place next) (filter (elsewhere x) kept))
any_of_rest x next kept true e = refl
any_of_rest x next kept false e = sym (any_elsewhere next x e kept)

-- what stands behind some occurrences and one more
pub standing-behind : (xs : List Occurrence) (next : Occurrence) → standing (xs ++ next ∷ []) ≡ with_first (standing xs) next
standing-behind [] next = refl
standing-behind (x ∷ xs) next =
    ap (λ t. x ∷ filter (elsewhere x) t) (standing-behind xs next)
    ∙ rest_with x next (standing xs) (is_same_place next x) refl (list_any (is_same_place next) (standing xs))
    ∙ ap (λ b. cond b (x ∷ filter (elsewhere x) (standing xs)) ((x ∷ filter (elsewhere x) (standing xs)) ++ next ∷ []))
    (any_of_rest x next (standing xs) (is_same_place next x) refl)

-- ---- what stands, once more

-- without the occurrences of two places, in either order
elsewhere_twice : (x y : Occurrence) (zs : List Occurrence) → filter (elsewhere x) (filter (elsewhere y) zs) ≡ filter (elsewhere y) (filter (elsewhere x) zs)
elsewhere_twice x y [] = refl
elsewhere_twice x y (z ∷ zs) = by (is_same_place x z) (is_same_place y z) refl refl (elsewhere_twice x y zs) where
  by : (b c : Bool) → is_same_place x z ≡ b → is_same_place y z ≡ c → filter (elsewhere x) (filter (elsewhere y) zs) ≡ filter (elsewhere y) (filter (elsewhere x) zs)
      → filter (elsewhere x) (cond (not c) (z ∷ filter (elsewhere y) zs) (filter (elsewhere y) zs))
      ≡ filter (elsewhere y) (cond (not b) (z ∷ filter (elsewhere x) zs) (filter (elsewhere x) zs))
  by true true e f rest = rest
  by true false e f rest = ap (λ d. cond (not d) (z ∷ filter (elsewhere x) (filter (elsewhere y) zs)) (filter (elsewhere x) (filter (elsewhere y) zs))) e ∙ rest
  by false true e f rest = rest ∙ sym (ap (λ d. cond (not d) (z ∷ filter (elsewhere y) (filter (elsewhere x) zs)) (filter (elsewhere y) (filter (elsewhere x) zs))) f)
  by false false e f rest =
      ap (λ d. cond (not d) (z ∷ filter (elsewhere x) (filter (elsewhere y) zs)) (filter (elsewhere x) (filter (elsewhere y) zs))) e
      ∙ ap (λ t. z ∷ t) rest
      ∙ sym (ap (λ d. cond (not d) (z ∷ filter (elsewhere y) (filter (elsewhere x) zs)) (filter (elsewhere y) (filter (elsewhere x) zs))) f)

-- what has the place of one that is left out is left out with it
elsewhere_same : (x y : Occurrence) → is_same_place x y ≡ true → (zs : List Occurrence) → filter (elsewhere x) (filter (elsewhere y) zs) ≡ filter (elsewhere x) zs
elsewhere_same x y same [] = refl
elsewhere_same x y same (z ∷ zs) = by (is_same_place x z) refl (elsewhere_same x y same zs) where
  at : (b : Bool) → is_same_place x z ≡ b → is_same_place y z ≡ b
  at b e = sym (same_equiv.congr x y z same) ∙ e

  by : (b : Bool) → is_same_place x z ≡ b → filter (elsewhere x) (filter (elsewhere y) zs) ≡ filter (elsewhere x) zs
      → filter (elsewhere x) (cond (elsewhere y z) (z ∷ filter (elsewhere y) zs) (filter (elsewhere y) zs)) ≡ cond (not b) (z ∷ filter (elsewhere x) zs) (filter (elsewhere x) zs)
  by true e rest = ap (λ c. filter (elsewhere x) (cond (not c) (z ∷ filter (elsewhere y) zs) (filter (elsewhere y) zs))) (at true e) ∙ rest
  by false e rest =
      ap (λ c. filter (elsewhere x) (cond (not c) (z ∷ filter (elsewhere y) zs) (filter (elsewhere y) zs))) (at false e)
      ∙ ap (λ c. cond (not c) (z ∷ filter (elsewhere x) (filter (elsewhere y) zs)) (filter (elsewhere x) (filter (elsewhere y) zs))) e
      ∙ ap (λ t. z ∷ t) rest

-- of occurrences without those of a place stand those that stood
standing-elsewhere : (x : Occurrence) (ys : List Occurrence) → standing (filter (elsewhere x) ys) ≡ filter (elsewhere x) (standing ys)
standing-elsewhere x [] = refl
standing-elsewhere x (y ∷ ys) = by (is_same_place x y) refl (standing-elsewhere x ys) where
  by : (b : Bool) → is_same_place x y ≡ b → standing (filter (elsewhere x) ys) ≡ filter (elsewhere x) (standing ys)
      → standing (cond (not b) (y ∷ filter (elsewhere x) ys) (filter (elsewhere x) ys))
      ≡ cond (not b) (y ∷ filter (elsewhere x) (filter (elsewhere y) (standing ys))) (filter (elsewhere x) (filter (elsewhere y) (standing ys)))
  by true e rest = rest ∙ sym (elsewhere_same x y e (standing ys))
  by false e rest = ap (λ t. y ∷ t) (ap (filter (elsewhere y)) rest ∙ elsewhere_twice y x (standing ys))

elsewhere_again : (x : Occurrence) (zs : List Occurrence) → filter (elsewhere x) (filter (elsewhere x) zs) ≡ filter (elsewhere x) zs
elsewhere_again x zs = elsewhere_same x x (same_equiv.refl x) zs

-- of those that stand all stand
pub standing-again : (xs : List Occurrence) → standing (standing xs) ≡ standing xs
standing-again [] = refl
standing-again (x ∷ xs) =
    ap (λ t. x ∷ t) (ap (filter (elsewhere x)) (standing-elsewhere x (standing xs)) ∙ elsewhere_again x (standing (standing xs)) ∙ ap (filter (elsewhere x)) (standing-again xs))

-- ---- places as they are kept

-- two places as they are kept are the same in all their parts
same_kept : (x y : Place) → (place_eq.ghosts).eq x y ≡ (x.path == y.path && (x.line == y.line && (x.from == y.from && x.to == y.to)))
same_kept x y = search rules

-- a test of places answers as the test of their occurrences
pub any_kept : {P : Type 0} (of : Occurrence → P) (test : P → Bool) (xs : List Occurrence) → list_any test (map of xs) ≡ list_any (λ x. test (of x)) xs
any_kept of test [] = refl
any_kept of test (x ∷ xs) = ap (λ b. test (of x) || b) (any_kept of test xs)

any_same : (p q : Occurrence → Bool) → ((x : Occurrence) → p x ≡ q x) → (xs : List Occurrence) → list_any p xs ≡ list_any q xs
any_same p q same [] = refl
any_same p q same (x ∷ xs) = ap (λ b. b || list_any p xs) (same x) ∙ ap (λ b. q x || b) (any_same p q same xs)

-- the kept places tell whether an occurrence of a place is kept
pub kept_tells : (keys : List Place) (items kept : List Occurrence) (place : Place) (next : Occurrence)
    → keys ≡ map place_of items → items ≡ kept → place ≡ place_of next → list_any ((place_eq.ghosts).eq place) keys ≡ list_any (is_same_place next) kept
kept_tells keys items kept place next are is_kept is =
    ap (λ p. list_any ((place_eq.ghosts).eq p) keys) is
    ∙ ap (list_any ((place_eq.ghosts).eq (place_of next))) are
    ∙ any_kept place_of ((place_eq.ghosts).eq (place_of next)) items
    ∙ any_same (λ x. (place_eq.ghosts).eq (place_of next) (place_of x)) (is_same_place next) (λ x. same_kept (place_of next) (place_of x)) items
    ∙ ap (list_any (is_same_place next)) is_kept

-- one of a new place stands, and one of another's does not
pub stands_new : (kept new : List Occurrence) (next : Occurrence) (b : Bool) → b ≡ not (list_any (is_same_place next) kept) → b ≡ true → new ≡ kept ++ next ∷ [] → new ≡ with_first kept next
stands_new kept new next b is fresh grown = by (list_any (is_same_place next) kept) (sym is ∙ fresh) where
  by : (found : Bool) → not found ≡ true → new ≡ cond found kept (kept ++ next ∷ [])
  by true e = cc
  by false e = grown

pub stands_not : (kept new : List Occurrence) (next : Occurrence) (b : Bool) → b ≡ not (list_any (is_same_place next) kept) → b ≡ false → new ≡ kept → new ≡ with_first kept next
stands_not kept new next b is stale same = by (list_any (is_same_place next) kept) (sym is ∙ stale) where
  by : (found : Bool) → not found ≡ false → new ≡ cond found kept (kept ++ next ∷ [])
  by true e = same
  by false e = cc

-- what stands of the first so many, and of one more
pub standing_next : (xs kept new : List Occurrence) (i : ℕ) (x next : Occurrence) → kept ≡ standing (take i xs) → i < length xs → x ≡ get_or xs i x → next ≡ x → new ≡ with_first kept next
    → new ≡ standing (take (i + 1) xs)
standing_next xs kept new i x next is within at same grown =
    grown
    ∙ ap (λ k. with_first k next) is
    ∙ ap (with_first (standing (take i xs))) (same ∙ at)
    ∙ sym (standing-behind (take i xs) (get_or xs i x))
    ∙ ap standing (sym (take_more xs i x within))
