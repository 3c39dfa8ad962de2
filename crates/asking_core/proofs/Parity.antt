-- The world that breaks one law.
use Rattle.std.proofs.Common.{◌≡◌, ℕ, zero, suc, ◌+◌, Bool, true, false, not, refl, sym, ap, ◌∙◌}
use Rattle.std.proofs.Math.Nat.{add-zero, add-suc}
use Rattle.kept_values.specs.Trees.{Tree, Leaf, Fork}
use Rattle.asking_core.specs.Runs.{Run, Bumps, Asks, Leaves}
use Rattle.asking_core.specs.Laws.{FootprintLaw}
use Rattle.asking_core.specs.Example.{turned, bit_answer, parity, turned_number, turned_tree, taken_back, hasty, FitsButForOne}

bump_more : (s : Bool) (m n : ℕ) → turned (turned s m) n ≡ turned s (m + n)
bump_more s m zero = ap (turned s) (sym (add-zero m))
bump_more s m (suc n) = ap not (bump_more s m n) ∙ ap (turned s) (sym (add-suc m n))

turned_number_twice : (n : ℕ) → turned_number (turned_number n) ≡ n
turned_number_twice zero = refl
turned_number_twice (suc zero) = refl
turned_number_twice (suc (suc n)) = refl

turned_tree_twice : (t : Tree) → turned_tree (turned_tree t) ≡ t
turned_tree_twice (Leaf n) = ap Leaf (turned_number_twice n)
turned_tree_twice (Fork a b) = refl

turned_tree_once : (t u : Tree) → turned_tree t ≡ turned_tree u → t ≡ u
turned_tree_once t u is = sym (turned_tree_twice t) ∙ ap turned_tree is ∙ turned_tree_twice u

taken_back_once : (key one other : Tree) (n : ℕ) → taken_back key one n ≡ taken_back key other n → one ≡ other
taken_back_once key one other zero is = is
taken_back_once key one other (suc n) is = taken_back_once key one other n (turned_tree_once (taken_back key one n) (taken_back key other n) is)

turned_swap : (b : Bool) → turned_tree (bit_answer b) ≡ bit_answer (not b)
turned_swap true = refl
turned_swap false = refl

not_twice : (b : Bool) → not (not b) ≡ b
not_twice true = refl
not_twice false = refl

turned_not : (b : Bool) (n : ℕ) → turned (not b) n ≡ not (turned b n)
turned_not b zero = refl
turned_not b (suc n) = ap not (turned_not b n)

turned_twice : (s : Bool) (n : ℕ) → turned (turned s n) n ≡ s
turned_twice s zero = refl
turned_twice s (suc n) = ap not (turned_not (turned s n) n) ∙ not_twice (turned (turned s n) n) ∙ turned_twice s n

back_answer : (s : Bool) (key : Tree) (n : ℕ) → taken_back key (bit_answer s) n ≡ bit_answer (turned s n)
back_answer s key zero = refl
back_answer s key (suc n) = ap turned_tree (back_answer s key n) ∙ turned_swap (turned s n)

rebased_back : (s : Bool) (key : Tree) (n : ℕ) → taken_back key (bit_answer (turned s n)) n ≡ bit_answer s
rebased_back s key n = back_answer (turned s n) key n ∙ ap bit_answer (turned_twice s n)

pub parity_fits_else : FitsButForOne parity taken_back
parity_fits_else = record {
  bump_none = λ s. refl;
  bump_more = bump_more;
  enter_bump = λ s n. refl;
  leave_enter = λ s. refl;
  enter_kept = λ s key. refl;
  rebased_back = rebased_back;
  rebased_once = taken_back_once;
}

-- the run that counts a call, is told 1 and leaves: it agrees with `false`, and what it read holds at `true`
pub law_is_broken : FootprintLaw hasty parity taken_back → ⊥
law_is_broken law =
    let run : Run Bool Bool = Bumps (Asks (Leaf 0) (Leaf 1) Leaves) in
    let wrong = law true run false true (refl, (refl, refl)) refl (refl, tt) (refl, tt) in
    let e : Leaf 0 ≡ Leaf 1 = wrong.0 in
    cc
