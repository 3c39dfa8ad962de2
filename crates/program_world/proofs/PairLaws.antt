-- Pairs of keys and values: where a key stands, and what a put makes of them.
use Rattle.std.proofs.Common.{◌≡◌, ℕ, zero, suc, ◌+◌, ◌<◌, ◌==◌, Bool, true, false, cond, List, [], ◌∷◌, ◌++◌, Option, Some, None, length, get_or, drop, is_some, refl, sym, ap, ◌∙◌, subst, arith, eqb-true, eq-eqb, add-one}
use Rattle.std.proofs.Math.Seq.{drop-cons}
use Rattle.std.proofs.Math.ListN.{drop_of_length-le}
use Rattle.std.proofs.Math.Path.{fun_ext}
use Rattle.std.specs.Option.{option_map_or}
use Rattle.std.specs.Prelude.{slice_set}
use Rattle.std.proofs.lemmas.List.{length-map}
use Rattle.std.proofs.lemmas.Map.{lookup-set_value}
use Rattle.std.proofs.lemmas.Cmp.{nat_eq_equiv}
use Rattle.std.specs.Map.{lookup, set_value}
use Rattle.hl_base.specs.declared.set.Key.{Key}
use Rattle.kept_values.specs.Trees.{Tree, Pair, same_tree, look_up, tree_number}
use Rattle.kept_values.specs.Keys.{key_tree}
use Rattle.kept_values.proofs.TreeLaws.{same_tree-one, same_tree-same, same_tree-other}
use Rattle.asking_core.specs.declared.footprint.Noted.{Noted}
use Rattle.asking_core.specs.Places.{pair_of, pairs_of}
use Rattle.call_sites.specs.Values.{known_tree}
use Rattle.call_sites.specs.declared.known.Known.{Known}
use Rattle.program_world.specs.World.{with_put}
use Rattle.program_world.specs.Puts.{IsPlace, IsPut, held_in}

abbrev pub noted_pairs : List (Noted Key Known) → List Pair
noted_pairs ns = pairs_of key_tree known_tree ns

at_item : {A : Type 0} (xs : List A) (i : ℕ) (x : A) → i < length xs → x ≡ get_or xs i x → drop i xs ≡ x ∷ drop (suc i) xs
at_item xs i x lt at = drop-cons xs i x lt ∙ ap (λ y. y ∷ drop (suc i) xs) (sym at)

not_now : (p : Pair) (ps : List Pair) (k : Tree) → ¬ (p.key ≡ k) → look_up (p ∷ ps) k ≡ look_up ps k
not_now p ps k differ = ap (λ b. cond b (Some p.value) (look_up ps k)) (same_tree-other p.key k differ)

-- from the pair of a number on, places and values are those of all pairs
pub record SoFar (ns : List (Noted Key Known)) (i : ℕ) (k : Tree) : Type 0 where
  pub places : (m : ℕ) → IsPlace (noted_pairs (drop i ns)) k m → IsPlace (noted_pairs ns) k (i + m)
  pub values : look_up (noted_pairs (drop i ns)) k ≡ look_up (noted_pairs ns) k

pub so_far_first : (ns : List (Noted Key Known)) (k : Tree) → SoFar ns 0 k
so_far_first ns k = record {
  places = λ m at. let same : m ≡ 0 + m = omega arith in subst (IsPlace (noted_pairs ns) k) same at;
  values = refl;
}

pub place_here : (ns : List (Noted Key Known)) (i : ℕ) (n : Noted Key Known) (k : Tree) → i < length ns → n ≡ get_or ns i n → key_tree n.key ≡ k →
    SoFar ns i k → IsPlace (noted_pairs ns) k i
place_here ns i n k lt at is so_far =
    let same : same_tree (key_tree n.key) k ≡ true = ap (same_tree (key_tree n.key)) (sym is) ∙ same_tree-same (key_tree n.key) in
    let here = subst (λ xs. IsPlace (noted_pairs xs) k 0) (sym (at_item ns i n lt at)) same in
    let at_is : i + 0 ≡ i = omega arith in
    subst (IsPlace (noted_pairs ns) k) at_is (so_far.places 0 here)

pub place_passed : (ns : List (Noted Key Known)) (i : ℕ) (n : Noted Key Known) (k : Tree) → i < length ns → n ≡ get_or ns i n → ¬ (key_tree n.key ≡ k) →
    SoFar ns i k → SoFar ns (i + 1) k
place_passed ns i n k lt at differ so_far = record {
  places = λ m there.
      let rest = subst (λ j. IsPlace (noted_pairs (drop j ns)) k m) (add-one i) there in
      let here = subst (λ xs. IsPlace (noted_pairs xs) k (suc m)) (sym (at_item ns i n lt at)) ((same_tree-other (key_tree n.key) k differ, rest)) in
      let at_is : i + suc m ≡ i + 1 + m = omega arith in
      subst (IsPlace (noted_pairs ns) k) at_is (so_far.places (suc m) here);
  values =
      ap (λ j. look_up (noted_pairs (drop j ns)) k) (add-one i)
      ∙ sym (not_now (pair_of key_tree known_tree n) (noted_pairs (drop (suc i) ns)) k differ)
      ∙ ap (λ xs. look_up (noted_pairs xs) k) (sym (at_item ns i n lt at))
      ∙ so_far.values;
}

pub none_left : (ns : List (Noted Key Known)) (i : ℕ) (k : Tree) → length ns ≡ i → SoFar ns i k → look_up (noted_pairs ns) k ≡ None
none_left ns i k end so_far =
    sym so_far.values ∙ ap (λ xs. look_up (noted_pairs xs) k) (drop_of_length-le ns (omega arith))

-- a place lies within
inside : (ps : List Pair) (key : Tree) (n : ℕ) → IsPlace ps key n → n < length ps
inside [] key n at = absurd at
inside (p ∷ ps) key zero at = omega arith
inside (p ∷ ps) key (suc n) at = let rest = inside ps key n at.1 in omega arith

pub place_inside : (ns : List (Noted Key Known)) (key : Tree) (n : ℕ) → IsPlace (noted_pairs ns) key n → n < length ns
place_inside ns key n at =
    let lt = inside (noted_pairs ns) key n at in
    omega (arith, lt, length-map ns (pair_of key_tree known_tree))

-- the value at a place is that of its key
pub value_there : (ns : List (Noted Key Known)) (key : Tree) (n : ℕ) (x : Noted Key Known) → IsPlace (noted_pairs ns) key n → n < length ns → x ≡ get_or ns n x →
    look_up (noted_pairs ns) key ≡ Some (known_tree x.value)
value_there [] key n x at lt is = absurd at
value_there (m ∷ ns) key zero x at lt is =
    ap (λ b. cond b (Some (known_tree m.value)) (look_up (noted_pairs ns) key)) at ∙ ap (λ y. Some (known_tree y)) (ap (λ (y : Noted Key Known). y.value) (sym is))
value_there (m ∷ ns) key (suc n) x at lt is =
    let less : n < length ns = omega arith in
    ap (λ b. cond b (Some (known_tree m.value)) (look_up (noted_pairs ns) key)) at.0 ∙ value_there ns key n x at.1 less is

-- a value at the place of its key
replaced_here : (t : Bool) (v w : Tree) (o : Option Tree) → cond t (Some v) o ≡ cond t (Some v) (cond t (Some w) o)
replaced_here true v w o = refl
replaced_here false v w o = refl

past_other : (s t : Bool) (v w : Tree) (o : Option Tree) → (t ≡ true → s ≡ false) → cond s (Some w) (cond t (Some v) o) ≡ cond t (Some v) (cond s (Some w) o)
past_other s true v w o apart = ap (λ b. cond b (Some w) (Some v)) (apart refl)
past_other s false v w o apart = refl

pub put_there : (ns : List (Noted Key Known)) (n : ℕ) (x : Noted Key Known) → IsPlace (noted_pairs ns) (key_tree x.key) n →
    IsPut (noted_pairs ns) (noted_pairs (slice_set ns n x)) (key_tree x.key) (known_tree x.value)
put_there [] n x at other = absurd at
put_there (m ∷ ns) zero x at other =
    let same : key_tree m.key ≡ key_tree x.key = same_tree-one (key_tree m.key) (key_tree x.key) at in
    replaced_here (same_tree (key_tree x.key) other) (known_tree x.value) (known_tree m.value) (look_up (noted_pairs ns) other)
    ∙ ap (λ k. cond (same_tree (key_tree x.key) other) (Some (known_tree x.value)) (cond (same_tree k other) (Some (known_tree m.value)) (look_up (noted_pairs ns) other))) (sym same)
put_there (m ∷ ns) (suc n) x at other =
    let apart : same_tree (key_tree x.key) other ≡ true → same_tree (key_tree m.key) other ≡ false =
    λ is. ap (same_tree (key_tree m.key)) (sym (same_tree-one (key_tree x.key) other is)) ∙ at.0 in
    ap (λ o. cond (same_tree (key_tree m.key) other) (Some (known_tree m.value)) o) (put_there ns n x at.1 other)
    ∙ past_other (same_tree (key_tree m.key) other) (same_tree (key_tree x.key) other) (known_tree x.value) (known_tree m.value) (look_up (noted_pairs ns) other) apart

-- and behind pairs that do not have it
pushed : (s t : Bool) (v w : Tree) (o : Option Tree) → (s ≡ true → t ≡ false) → cond s (Some w) (cond t (Some v) o) ≡ cond t (Some v) (cond s (Some w) o)
pushed true t v w o apart = ap (λ b. cond b (Some v) (Some w)) (sym (apart refl))
pushed false t v w o apart = refl

behind : (ns : List (Noted Key Known)) (m x : Noted Key Known) (other : Tree) (t : Bool) → same_tree (key_tree m.key) (key_tree x.key) ≡ t →
    (look_up (noted_pairs ns) (key_tree x.key) ≡ None → IsPut (noted_pairs ns) (noted_pairs (ns ++ x ∷ [])) (key_tree x.key) (known_tree x.value)) →
    cond t (Some (known_tree m.value)) (look_up (noted_pairs ns) (key_tree x.key)) ≡ None →
    look_up (noted_pairs (m ∷ (ns ++ x ∷ []))) other ≡ cond (same_tree (key_tree x.key) other) (Some (known_tree x.value)) (look_up (noted_pairs (m ∷ ns)) other)
behind ns m x other true is later wrong = cc
behind ns m x other false is later rest =
    let apart : same_tree (key_tree m.key) other ≡ true → same_tree (key_tree x.key) other ≡ false =
    λ same. same_tree-other (key_tree x.key) other
    (λ e. let wrong : same_tree (key_tree m.key) (key_tree x.key) ≡ true = ap (same_tree (key_tree m.key)) e ∙ same in cc) in
    ap (λ o. cond (same_tree (key_tree m.key) other) (Some (known_tree m.value)) o) (later rest other)
    ∙ pushed (same_tree (key_tree m.key) other) (same_tree (key_tree x.key) other) (known_tree x.value) (known_tree m.value) (look_up (noted_pairs ns) other) apart

pub put_behind : (ns : List (Noted Key Known)) (x : Noted Key Known) → look_up (noted_pairs ns) (key_tree x.key) ≡ None →
    IsPut (noted_pairs ns) (noted_pairs (ns ++ x ∷ [])) (key_tree x.key) (known_tree x.value)
put_behind [] x none other = refl
put_behind (m ∷ ns) x none other = behind ns m x other (same_tree (key_tree m.key) (key_tree x.key)) refl (put_behind ns x) none

-- a map once one number has another value
pub set_updates : {V : Type 0} (entries : List (ℕ × V)) (number : ℕ) (was now : V) → lookup (λ b. number == b) entries ≡ Some was → (m : ℕ) →
    lookup (λ b. m == b) (set_value (λ b. number == b) entries now) ≡ cond (number == m) (Some now) (lookup (λ b. m == b) entries)
set_updates entries number was now was_is m =
    lookup-set_value nat_eq_equiv (λ b. number == b) (λ x y t. ap (λ k. k == y) (eqb-true number x t)) m now entries (ap is_some was_is)

-- what is held once the pairs of one number were replaced
left_alone : (t : Bool) (key other value : Tree) (o : Option Tree) → same_tree key other ≡ t → ¬ (key ≡ other) → o ≡ cond t (Some value) o
left_alone true key other value o is differ = absurd (differ (same_tree-one key other is))
left_alone false key other value o is differ = refl

module _ {V : Type 0} (old new : ℕ → Option V) (pairs : V → List Pair) (number : ℕ) (now : V) (updates : (m : ℕ) → new m ≡ cond (number == m) (Some now) (old m)) where
  pub put_held : (key value : Tree) → number ≡ tree_number key → IsPut (option_map_or pairs (old number) []) (pairs now) key value →
      held_in new pairs ≡ with_put (held_in old pairs) key value
  put_held key value number_is is_put = fun_ext (λ other. at other (number == tree_number other) refl)
    where
      at : (other : Tree) (t : Bool) → (number == tree_number other) ≡ t → held_in new pairs other ≡ with_put (held_in old pairs) key value other
      at other true is =
          ap (λ o. look_up (option_map_or pairs o []) other) (updates (tree_number other) ∙ ap (λ t. cond t (Some now) (old (tree_number other))) is)
          ∙ is_put other
          ∙ ap (λ m. cond (same_tree key other) (Some value) (look_up (option_map_or pairs (old m) []) other)) (eqb-true number (tree_number other) is)
      at other false is =
          ap (λ o. look_up (option_map_or pairs o []) other) (updates (tree_number other) ∙ ap (λ t. cond t (Some now) (old (tree_number other))) is)
          ∙ left_alone (same_tree key other) key other value (held_in old pairs other) refl
          (λ e. let same : (number == tree_number other) ≡ true = eq-eqb number (tree_number other) (number_is ∙ ap tree_number e) in cc)

  pub same_held : (was : V) → old number ≡ Some was → pairs now ≡ pairs was → held_in new pairs ≡ held_in old pairs
  same_held was was_is same = fun_ext (λ other. at other (number == tree_number other) refl)
    where
      at : (other : Tree) (t : Bool) → (number == tree_number other) ≡ t → held_in new pairs other ≡ held_in old pairs other
      at other true is =
          ap (λ o. look_up (option_map_or pairs o []) other) (updates (tree_number other) ∙ ap (λ t. cond t (Some now) (old (tree_number other))) is)
          ∙ ap (λ ps. look_up ps other) same
          ∙ sym (ap (λ o. look_up (option_map_or pairs o []) other) (ap old (sym (eqb-true number (tree_number other) is)) ∙ was_is))
      at other false is =
          ap (λ o. look_up (option_map_or pairs o []) other) (updates (tree_number other) ∙ ap (λ t. cond t (Some now) (old (tree_number other))) is)
