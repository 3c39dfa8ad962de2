-- Breakpoints of a file in place of those that it had.
use Rattle.std.proofs.Common.{◌≡◌, ℕ, ◌<◌, Bool, true, false, cond, ◌||◌, Option, Some, None, List, [], ◌∷◌, map, refl, sym, ap, ◌∙◌, arith}
use Rattle.std.proofs.Math.Path.{fun_ext}
use Rattle.std.specs.Prelude.{◌==◌, nat_lt}
use Rattle.std.specs.List.{fold, list_any}
use Rattle.std.specs.Option.{option_map, option_map_or}
use Rattle.std.specs.Ordering.{nat_cmp, is_eq, match_ordering}
use Rattle.std.specs.declared.cmp.Ordering.{Ordering}
use Rattle.std.specs.declared.cmp.Ordering.TheVariants.{Less, Equal, Greater}
use Rattle.std.specs.Map.{lookup}
use Rattle.std.specs.BTreeMap.{BTreeMap, is_at, insert_entry}
use Rattle.std.specs.BTreeSet.{BTreeSet, insert_key}
use Rattle.std.proofs.lemmas.Bool.{false≢true, ltb-true, eqb-true, eq-eqb, ne_eqb}
use Rattle.hl_base.specs.declared.place.Origin.{Origin}
use Rattle.macro_debugger.specs.Stops.{Breaks, in_order, replaced, is_among, is_set}
use Rattle.macro_debugger.specs.Seen.{seen_file}
use Rattle.macro_debugger.specs.Laws.{BreakpointsAreReplaced}

-- numbers are at one place in the order where they are equal
by_order : (less same : Bool) → (less ≡ true → same ≡ false) → is_eq (cond less Less (cond same Equal Greater)) ≡ same
by_order true same apart = sym (apart refl)
by_order false true apart = refl
by_order false false apart = refl

same_number : (a b : ℕ) → is_at (nat_cmp a) b ≡ (a == b)
same_number a b =
    by_order (nat_lt a b) (a == b) (λ less. let lt : a < b = ltb-true a b less in ne_eqb a b (λ same. omega arith))

pub same_test : (a : ℕ) → is_at (nat_cmp a) ≡ (λ (b : ℕ). a == b)
same_test a = fun_ext (same_number a)

first_or : (b : Bool) (set : BTreeSet ℕ) (o : Option (BTreeSet ℕ)) (p : Option (List ℕ)) → option_map (λ (s : BTreeSet ℕ). s.keys) o ≡ p →
    option_map (λ (s : BTreeSet ℕ). s.keys) (cond b (Some set) o) ≡ cond b (Some set.keys) p
first_or true set o p same = refl
first_or false set o p same = same

-- a file that is found among files, with its lines
pub lookup_seen : (test : ℕ → Bool) (es : List (ℕ × BTreeSet ℕ)) → option_map (λ (s : BTreeSet ℕ). s.keys) (lookup test es) ≡ lookup test (map seen_file es)
lookup_seen test [] = refl
lookup_seen test (e ∷ es) = first_or (test e.0) e.1 (lookup test es) (lookup test (map seen_file es)) (lookup_seen test es)

map_match : {X Y : Type 0} (f : X → Y) (o : Ordering) (a b c : List X) →
    map f (match_ordering o a b c) ≡ match_ordering o (map f a) (map f b) (map f c)
map_match f Less a b c = refl
map_match f Equal a b c = refl
map_match f Greater a b c = refl

-- a file that is put among files
pub insert_seen : (es : List (ℕ × BTreeSet ℕ)) (path : ℕ) (set : BTreeSet ℕ) →
    map seen_file (insert_entry nat_cmp es path set) ≡ insert_entry nat_cmp (map seen_file es) path set.keys
insert_seen [] path set = refl
insert_seen (e ∷ es) path set =
    map_match seen_file (nat_cmp path e.0) ((path, set) ∷ e ∷ es) ((e.0, set) ∷ es) (e ∷ insert_entry nat_cmp es path set)
    ∙ ap (λ t. match_ordering (nat_cmp path e.0) ((path, set.keys) ∷ seen_file e ∷ map seen_file es) ((e.0, set.keys) ∷ map seen_file es)
    (seen_file e ∷ t)) (insert_seen es path set)

-- what that leaves of breakpoints
pub file_put : (breaks : Breaks) (files new : BTreeMap ℕ (BTreeSet ℕ)) (path : ℕ) (set : BTreeSet ℕ) (lines : List ℕ) →
    map seen_file files.entries ≡ breaks → new.entries ≡ insert_entry nat_cmp files.entries path set → set.keys ≡ in_order lines →
    map seen_file new.entries ≡ replaced path lines breaks
file_put breaks files new path set lines before put is =
    ap (map seen_file) put
    ∙ insert_seen files.entries path set
    ∙ ap (λ fs. insert_entry nat_cmp fs path set.keys) before
    ∙ ap (insert_entry nat_cmp breaks path) is

-- what three cases of an order have alike
by_cases : {X : Type 0} (P : X → Type 0) (o : Ordering) (less same more : X) → P less → (o ≡ Equal → P same) → (o ≡ Greater → P more) →
    P (match_ordering o less same more)
by_cases P Less less same more a b c = a
by_cases P Equal less same more a b c = b refl
by_cases P Greater less same more a b c = c refl

equal_numbers : (a b : ℕ) → nat_cmp a b ≡ Equal → a ≡ b
equal_numbers a b e = eqb-true a b (sym (same_number a b) ∙ ap is_eq e)

apart_numbers : (a b : ℕ) → nat_cmp a b ≡ Greater → a ≡ b → ⊥
apart_numbers a b e same = false≢true (sym (sym (same_number a b) ∙ ap is_eq e) ∙ eq-eqb a b same)

-- a file that is put among files is found there, and the others as before
module _ {Y : Type 0} where
  twice : (b c : Bool) (x y z : Y) → c ≡ b → cond b x z ≡ cond c x (cond b y z)
  twice true c x y z e = sym (ap (λ d. cond d x y) e)
  twice false c x y z e = sym (ap (λ d. cond d x z) e)

  swapped : (b c : Bool) (x y z : Y) → (b ≡ true → c ≡ false) → cond b x (cond c y z) ≡ cond c y (cond b x z)
  swapped true c x y z apart = sym (ap (λ d. cond d y x) (apart refl))
  swapped false c x y z apart = refl

not_both : (q k n : ℕ) → nat_cmp k n ≡ Greater → (q == n) ≡ true → (q == k) ≡ false
not_both q k n more here = ne_eqb q k (λ same. apart_numbers k n more (sym same ∙ eqb-true q n here))

abbrev is_number : ℕ → ℕ → Bool
is_number q n = q == n

lookup_put : {X : Type 0} (q : ℕ) (es : List (ℕ × X)) (k : ℕ) (v : X) →
    lookup (is_number q) (insert_entry nat_cmp es k v) ≡ cond (q == k) (Some v) (lookup (is_number q) es)
lookup_put q [] k v = refl
lookup_put {X} q (e ∷ es) k v =
    let rest : Option X = lookup (is_number q) es in
    by_cases (λ (fs : List (ℕ × X)). lookup (is_number q) fs ≡ cond (q == k) (Some v) (cond (q == e.0) (Some e.1) rest))
    (nat_cmp k e.0) ((k, v) ∷ e ∷ es) ((e.0, v) ∷ es) (e ∷ insert_entry nat_cmp es k v) refl
    (λ same. twice (q == e.0) (q == k) (Some v) (Some e.1) rest (ap (is_number q) (equal_numbers k e.0 same)))
    (λ more. ap (cond (q == e.0) (Some e.1)) (lookup_put q es k v)
    ∙ swapped (q == e.0) (q == k) (Some e.1) (Some v) rest (not_both q k e.0 more))

-- a line that is put among lines is one of them, and so are the others
or_same : (b c r : Bool) → b ≡ c → (c || r) ≡ (b || (c || r))
or_same true c r e = ap (λ d. d || r) (sym e)
or_same false c r e = refl

or_swap : (b c r : Bool) → (b || (c || r)) ≡ (c || (b || r))
or_swap true true r = refl
or_swap true false r = refl
or_swap false c r = refl

or_move : (a b c : Bool) → (a || (b || c)) ≡ ((b || a) || c)
or_move true true c = refl
or_move true false c = refl
or_move false true c = refl
or_move false false c = refl

or_none : (b : Bool) → (b || false) ≡ b
or_none true = refl
or_none false = refl

among_put : (n : ℕ) (ks : List ℕ) (k : ℕ) → is_among n (insert_key nat_cmp ks k) ≡ ((n == k) || is_among n ks)
among_put n [] k = refl
among_put n (x ∷ xs) k =
    by_cases (λ (ls : List ℕ). is_among n ls ≡ ((n == k) || ((n == x) || is_among n xs)))
    (nat_cmp k x) (k ∷ x ∷ xs) (x ∷ xs) (x ∷ insert_key nat_cmp xs k) refl
    (λ same. or_same (n == k) (n == x) (is_among n xs) (ap (is_number n) (equal_numbers k x same)))
    (λ more. ap (λ r. (n == x) || r) (among_put n xs k) ∙ or_swap (n == x) (n == k) (is_among n xs))

among_all : (n : ℕ) (ks acc : List ℕ) → is_among n (fold (insert_key nat_cmp) acc ks) ≡ (is_among n ks || is_among n acc)
among_all n [] acc = refl
among_all n (k ∷ ks) acc =
    among_all n ks (insert_key nat_cmp acc k)
    ∙ ap (λ r. is_among n ks || r) (among_put n acc k)
    ∙ or_move (is_among n ks) (n == k) (is_among n acc)

among_in_order : (n : ℕ) (lines : List ℕ) → is_among n (in_order lines) ≡ is_among n lines
among_in_order n lines = among_all n lines [] ∙ or_none (is_among n lines)

picked : (line : ℕ) (b : Bool) (lines : List ℕ) (o : Option (List ℕ)) →
    option_map_or (is_among line) (cond b (Some lines) o) false ≡ cond b (is_among line lines) (option_map_or (is_among line) o false)
picked line true lines o = refl
picked line false lines o = refl

pub breakpoints_are_replaced : BreakpointsAreReplaced
breakpoints_are_replaced path lines breaks at =
    let before : Option (List ℕ) = lookup (is_number at.path.0) breaks in
    ap (λ o. option_map_or (is_among at.line) o false) (lookup_put at.path.0 breaks path (in_order lines))
    ∙ picked at.line (at.path.0 == path) (in_order lines) before
    ∙ ap (λ b. cond (at.path.0 == path) b (option_map_or (is_among at.line) before false)) (among_in_order at.line lines)

-- whether a breakpoint is set, by the lines that are found of the file
module _ (es : List (ℕ × BTreeSet ℕ)) (at : Origin) where
  found_as : (o : Option (BTreeSet ℕ)) → o ≡ lookup (is_at (nat_cmp at.path.0)) es →
      option_map (λ (s : BTreeSet ℕ). s.keys) o ≡ lookup (is_number at.path.0) (map seen_file es)
  found_as o is =
      ap (option_map (λ (s : BTreeSet ℕ). s.keys)) is
      ∙ lookup_seen (is_at (nat_cmp at.path.0)) es
      ∙ ap (λ test. lookup test (map seen_file es)) (same_test at.path.0)

  pub set_there : (set : BTreeSet ℕ) → Some set ≡ lookup (is_at (nat_cmp at.path.0)) es →
      list_any (is_at (nat_cmp at.line)) set.keys ≡ is_set (map seen_file es) at
  set_there set is =
      ap (λ test. list_any test set.keys) (same_test at.line)
      ∙ ap (λ o. option_map_or (is_among at.line) o false) (found_as (Some set) is)

  pub none_there : None ≡ lookup (is_at (nat_cmp at.path.0)) es → false ≡ is_set (map seen_file es) at
  none_there is = ap (λ o. option_map_or (is_among at.line) o false) (found_as None is)
