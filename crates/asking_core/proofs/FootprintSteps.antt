-- Footprints: a key among pairs, and where it is found.
use Rattle.std.proofs.Common.{◌≡◌, ℕ, zero, suc, ◌+◌, ◌<◌, ◌≤◌, ◌||◌, ◌==◌, Bool, true, false, cond, List, [], ◌∷◌, ◌++◌, Option, Some, None, length, get_or, take, drop, is_some, refl, sym, ap, ◌∙◌, add-one, arith, append-nil}
use Rattle.std.proofs.Math.Seq.{drop-cons}
use Rattle.std.specs.Option.{option_or}
use Rattle.std.specs.HashMap.{HashMap, get}
use Rattle.kept_values.specs.Trees.{Tree, Pair, same_tree, look_up}
use Rattle.kept_values.proofs.TreeLaws.{same_tree-one, same_tree-same, same_tree-other}
use Rattle.asking_core.specs.declared.footprint.Noted.{Noted}
use Rattle.asking_core.specs.Worlds.{WorldModel, Holds}
use Rattle.asking_core.specs.Footprints.{noted, merged, unless_there}
use Rattle.asking_core.specs.Places.{pair_of, pairs_of, numbers_of, IsFound, StaysFound}

found_now : (p : Pair) (ps : List Pair) (k : Tree) → p.key ≡ k → is_some (look_up (p ∷ ps) k) ≡ true
found_now p ps k is = ap (λ b. is_some (cond b (Some p.value) (look_up ps k))) (ap (same_tree p.key) (sym is) ∙ same_tree-same p.key)

not_now : (p : Pair) (ps : List Pair) (k : Tree) → ¬ (p.key ≡ k) → look_up (p ∷ ps) k ≡ look_up ps k
not_now p ps k differ = ap (λ b. cond b (Some p.value) (look_up ps k)) (same_tree-other p.key k differ)

at_item : {A : Type 0} (xs : List A) (i : ℕ) (x : A) → i < length xs → x ≡ get_or xs i x → drop i xs ≡ x ∷ drop (suc i) xs
at_item xs i x lt at = drop-cons xs i x lt ∙ ap (λ y. y ∷ drop (suc i) xs) (sym at)

-- what two lists of pairs say together
append_step : (b : Bool) (v : Tree) (o p : Option Tree) → cond b (Some v) (option_or o p) ≡ option_or (cond b (Some v) o) p
append_step true v o p = refl
append_step false v o p = refl

pub look_up-append : (a b : List Pair) (k : Tree) → look_up (a ++ b) k ≡ option_or (look_up a k) (look_up b k)
look_up-append [] b k = refl
look_up-append (p ∷ a) b k =
    ap (cond (same_tree p.key k) (Some p.value)) (look_up-append a b k) ∙ append_step (same_tree p.key k) p.value (look_up a k) (look_up b k)

-- a noted pair
pub noted_there : (ps : List Pair) (p : Pair) → is_some (look_up ps p.key) ≡ true → noted ps p ≡ ps
noted_there ps p is =
    let by : (o : Option Tree) → is_some o ≡ true → ps ++ unless_there o p [] ≡ ps = elim [
      | Some w ↦ λ _. append-nil ps
      | None ↦ λ wrong. cc
    ] in
    by (look_up ps p.key) is

pub noted_new : (ps : List Pair) (p : Pair) → is_some (look_up ps p.key) ≡ false → noted ps p ≡ ps ++ p ∷ []
noted_new ps p is =
    let by : (o : Option Tree) → is_some o ≡ false → ps ++ unless_there o p [] ≡ ps ++ p ∷ [] = elim [
      | Some w ↦ λ wrong. cc
      | None ↦ λ _. refl
    ] in
    by (look_up ps p.key) is

module _ {K V : Type 0} (key : K → Tree) (value : V → Tree) where
  pub found : (ns : List (Noted K V)) (i : ℕ) (n : Noted K V) (k : Tree) (b : Bool) → i < length ns → n ≡ get_or ns i n → key n.key ≡ k →
      is_some (look_up (pairs_of key value (drop i ns)) k) ≡ b → true ≡ b
  found ns i n k b lt at is so_far =
      sym (found_now (pair_of key value n) (pairs_of key value (drop (suc i) ns)) k is)
      ∙ ap (λ xs. is_some (look_up (pairs_of key value xs) k)) (sym (at_item ns i n lt at))
      ∙ so_far

  pub passed : (ns : List (Noted K V)) (i : ℕ) (n : Noted K V) (k : Tree) (b : Bool) → i < length ns → n ≡ get_or ns i n → ¬ (key n.key ≡ k) →
      is_some (look_up (pairs_of key value (drop i ns)) k) ≡ b → is_some (look_up (pairs_of key value (drop (i + 1) ns)) k) ≡ b
  passed ns i n k b lt at differ so_far =
      ap (λ j. is_some (look_up (pairs_of key value (drop j ns)) k)) (add-one i)
      ∙ ap is_some (sym (not_now (pair_of key value n) (pairs_of key value (drop (suc i) ns)) k differ))
      ∙ ap (λ xs. is_some (look_up (pairs_of key value xs) k)) (sym (at_item ns i n lt at))
      ∙ so_far

  there_step : (m : Noted K V) (ns : List (Noted K V)) (k : Tree) (b : Bool) → (¬ (key m.key ≡ k) → is_some (look_up (pairs_of key value ns) k) ≡ true) →
      same_tree (key m.key) k ≡ b → is_some (look_up (pairs_of key value (m ∷ ns)) k) ≡ true
  there_step m ns k true later is = found_now (pair_of key value m) (pairs_of key value ns) k (same_tree-one (key m.key) k is)
  there_step m ns k false later is =
      let differ : ¬ (key m.key ≡ k) = λ e. let t = ap (same_tree (key m.key)) (sym e) ∙ same_tree-same (key m.key) in cc in
      ap is_some (not_now (pair_of key value m) (pairs_of key value ns) k differ) ∙ later differ

  -- a key that stands at a place is among the pairs
  pub found_at : (ns : List (Noted K V)) (i : ℕ) (n : Noted K V) (k : Tree) → i < length ns → n ≡ get_or ns i n → key n.key ≡ k →
      is_some (look_up (pairs_of key value ns) k) ≡ true
  found_at [] i n k lt at is = absurd (omega arith)
  found_at (m ∷ ns) zero n k lt at is =
      found_now (pair_of key value m) (pairs_of key value ns) k (ap (λ (x : Noted K V). key x.key) (sym at) ∙ is)
  found_at (m ∷ ns) (suc i) n k lt at is =
      there_step m ns k (same_tree (key m.key) k) (λ _. found_at ns i n k (omega arith) at is) refl

  parts_step : (b : Bool) (v : Tree) (o : Option Tree) (x y : Bool) → is_some o ≡ (x || y) → is_some (cond b (Some v) o) ≡ (cond b true x || y)
  parts_step true v o x y is = refl
  parts_step false v o x y is = is

  some_step : (b : Bool) (v : Tree) (o : Option Tree) → cond b true (is_some o) ≡ is_some (cond b (Some v) o)
  some_step true v o = refl
  some_step false v o = refl

  -- a key is among pairs where it is among the first few or those behind them
  pub among_parts : (j : ℕ) (ns : List (Noted K V)) (k : Tree) →
      is_some (look_up (pairs_of key value ns) k) ≡ (is_some (look_up (pairs_of key value (take j ns)) k) || is_some (look_up (pairs_of key value (drop j ns)) k))
  among_parts zero ns k = refl
  among_parts (suc j) [] k = refl
  among_parts (suc j) (m ∷ ns) k =
      parts_step (same_tree (key m.key) k) (value m.value) (look_up (pairs_of key value ns) k) (is_some (look_up (pairs_of key value (take j ns)) k))
      (is_some (look_up (pairs_of key value (drop j ns)) k)) (among_parts j ns k)
      ∙ ap (λ x. x || is_some (look_up (pairs_of key value (drop j ns)) k)) (some_step (same_tree (key m.key) k) (value m.value) (look_up (pairs_of key value (take j ns)) k))

  module _ (number : Tree → ℕ) {S : Type 0} (table : HashMap ℕ ℕ S) (k : Tree) (absent : is_some (get (λ a b. a == b) table (number k)) ≡ false) where
    absent_step : (m : Noted K V) (ns : List (Noted K V)) (b : Bool) → IsFound table (number (key m.key)) → same_tree (key m.key) k ≡ b →
        is_some (look_up (pairs_of key value ns) k) ≡ false → is_some (look_up (pairs_of key value (m ∷ ns)) k) ≡ false
    absent_step m ns true here is later =
        let e : key m.key ≡ k = same_tree-one (key m.key) k is in
        let there = ap (λ x. is_some (get (λ a b. a == b) table (number x))) e in
        cc
    absent_step m ns false here is later = ap (λ b. is_some (cond b (Some (value m.value)) (look_up (pairs_of key value ns) k))) is ∙ later

    absent_all : (ns : List (Noted K V)) → ((i : ℕ) → i < length (numbers_of key number ns) → IsFound table (get_or (numbers_of key number ns) i 0)) →
        is_some (look_up (pairs_of key value ns) k) ≡ false
    absent_all [] all = refl
    absent_all (m ∷ ns) all =
        absent_step m ns (same_tree (key m.key) k) (all 0 (omega arith)) refl (absent_all ns (λ i lt. all (suc i) (omega arith)))

    -- a key whose number is not found is not among the pairs behind the first few
    pub absent_behind : (j : ℕ) (ns : List (Noted K V)) →
        ((i : ℕ) → j ≤ i → i < length (numbers_of key number ns) → IsFound table (get_or (numbers_of key number ns) i 0)) →
        is_some (look_up (pairs_of key value (drop j ns)) k) ≡ false
    absent_behind zero ns all = absent_all ns (λ i lt. all i (omega arith) lt)
    absent_behind (suc j) [] all = refl
    absent_behind (suc j) (m ∷ ns) all = absent_behind j ns (λ i le lt. all (suc i) (omega arith) (omega arith))

stays_step : (b : Bool) (v : ℕ) (o : Option ℕ) → is_some o ≡ true → is_some (cond b (Some v) o) ≡ true
stays_step true v o there = refl
stays_step false v o there = there

-- what was in a table stays there when another number is put in
pub stays_found : {S : Type 0} (old new : HashMap ℕ ℕ S) (k v : ℕ) →
    ((q : ℕ) → get (λ a b. a == b) new q ≡ cond (k == q) (Some v) (get (λ a b. a == b) old q)) → StaysFound old new
stays_found old new k v is number there = ap is_some (is number) ∙ stays_step (k == number) v (get (λ a b. a == b) old number) there

module _ {K V : Type 0} (key : K → Tree) (value : V → Tree) where
  -- one pair more of a child is noted
  pub merged_step : (ns : List (Noted K V)) (i : ℕ) (n : Noted K V) (before after all : List Pair) → i < length ns → n ≡ get_or ns i n →
      after ≡ noted before (pair_of key value n) → merged before (pairs_of key value (drop i ns)) ≡ all →
      merged after (pairs_of key value (drop (i + 1) ns)) ≡ all
  merged_step ns i n before after all lt at is so_far =
      ap (λ x. merged x (pairs_of key value (drop (i + 1) ns))) is
      ∙ ap (λ j. merged (noted before (pair_of key value n)) (pairs_of key value (drop j ns))) (add-one i)
      ∙ ap (λ xs. merged before (pairs_of key value xs)) (sym (at_item ns i n lt at))
      ∙ so_far

  module _ (W : WorldModel) (s : W.State) where
    -- the answers that are left to compare
    pub holds_next : (ns : List (Noted K V)) (i : ℕ) (n : Noted K V) → i < length ns → n ≡ get_or ns i n →
        Holds W s (pairs_of key value (drop i ns)) ≡ ((W.answer s (key n.key) ≡ value n.value) × Holds W s (pairs_of key value (drop (i + 1) ns)))
    holds_next ns i n lt at =
        ap (λ xs. Holds W s (pairs_of key value xs)) (at_item ns i n lt at)
        ∙ ap (λ j. (W.answer s (key n.key) ≡ value n.value) × Holds W s (pairs_of key value (drop j ns))) (sym (add-one i))
