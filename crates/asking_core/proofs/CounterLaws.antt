-- Counters that go round fit.
use Rattle.std.proofs.Common.{◌≡◌, ℕ, zero, suc, ◌+◌, ◌-◌, ◌%◌, ◌<◌, ◌≤◌, Bool, true, false, cond, refl, sym, ap, subst, arith}
use Rattle.std.proofs.lemmas.Bool.{ltb-true, ltb-false}
use Rattle.std.proofs.Math.Dec.{ltb}
use mathlib.Core.Bool.{Bool-set}
use Rattle.kept_values.specs.Trees.{Tree, Leaf, Fork, same_tree}
use Rattle.asking_core.specs.Worlds.{Fits}
use Rattle.asking_core.specs.Counters.{Round, round, Counted, counted_answer, counters, counters_move, cell_is_writable, tree_back, counters_back}

abbrev made : (n : ℕ) → ltb n 4294967296 ≡ true → Round
made n small = record { number = n; small = small }

round_one : (a b : Round) → a.number ≡ b.number → a ≡ b
round_one a b is =
    let P : ℕ → Type 0 = λ n. (q : ltb n 4294967296 ≡ true) → made a.number a.small ≡ made n q in
    subst P is (λ q. ap (made a.number) (Bool-set (ltb a.number 4294967296) true a.small q)) b.small

below : (a : Round) → a.number < 4294967296
below a = ltb-true a.number 4294967296 a.small

none_more : (n : ℕ) → n < 4294967296 → (n + 0) % 4294967296 ≡ n
none_more n h = omega arith

two_more : (c m n : ℕ) → ((c + m) % 4294967296 + n) % 4294967296 ≡ (c + (m + n)) % 4294967296
two_more c m n = omega arith

one_less : (d : ℕ) → d < 4294967296 → ((d + 1) % 4294967296 + 4294967295) % 4294967296 ≡ d
one_less d h = omega arith

taken : (c n : ℕ) → c < 4294967296 → ((c + n) % 4294967296 + (4294967296 - n % 4294967296)) % 4294967296 ≡ c
taken c n h = omega arith

both_small : (a b x : ℕ) → a < 4294967296 → b < 4294967296 → (a + x) % 4294967296 ≡ (b + x) % 4294967296 → a ≡ b
both_small a b x ha hb is = omega arith

one_small : (a b x : ℕ) → 4294967296 ≤ b → (a + x) % 4294967296 ≡ b → ⊥
one_small a b x h is = omega arith

number_step : (c n : ℕ) (b : Bool) → c < 4294967296 → ltb ((c + n) % 4294967296) 4294967296 ≡ b →
    cond b (((c + n) % 4294967296 + (4294967296 - n % 4294967296)) % 4294967296) ((c + n) % 4294967296) ≡ c
number_step c n true h is = taken c n h
number_step c n false h is = absurd (let e : 4294967296 ≤ (c + n) % 4294967296 = ltb-false ((c + n) % 4294967296) 4294967296 is in omega arith)

once_step : (a b x : ℕ) (p q : Bool) → ltb a 4294967296 ≡ p → ltb b 4294967296 ≡ q →
    cond p ((a + x) % 4294967296) a ≡ cond q ((b + x) % 4294967296) b → a ≡ b
once_step a b x true true pa pb is = both_small a b x (ltb-true a 4294967296 pa) (ltb-true b 4294967296 pb) is
once_step a b x true false pa pb is = absurd (one_small a b x (ltb-false b 4294967296 pb) is)
once_step a b x false true pa pb is = absurd (one_small b a x (ltb-false a 4294967296 pa) (sym is))
once_step a b x false false pa pb is = is

abbrev number_of_leaf : Tree → ℕ
number_of_leaf (Leaf n) = n
number_of_leaf (Fork a b) = 0

tree_back_once : (one other : Tree) (n : ℕ) → tree_back one n ≡ tree_back other n → one ≡ other
tree_back_once (Leaf a) (Leaf b) n is =
    ap Leaf (once_step a b (4294967296 - n % 4294967296) (ltb a 4294967296) (ltb b 4294967296) refl refl (ap number_of_leaf is))
tree_back_once (Leaf a) (Fork c d) n is = cc
tree_back_once (Fork c d) (Leaf b) n is = cc
tree_back_once (Fork a b) (Fork c d) n is = is

stays : (key : Tree) → cell_is_writable key ≡ true → counters_move key ≡ false
stays (Leaf zero) w = cc
stays (Leaf (suc zero)) w = cc
stays (Leaf (suc (suc n))) w = refl
stays (Fork a b) w = refl

put_same : (s : Counted) (key value : Tree) → cell_is_writable key ≡ true → counted_answer (record s { cell = value }) key ≡ value
put_same s (Leaf zero) value w = cc
put_same s (Leaf (suc zero)) value w = cc
put_same s (Leaf (suc (suc zero))) value w = refl
put_same s (Leaf (suc (suc (suc n)))) value w = cc
put_same s (Fork a b) value w = cc

two_other : (s : Counted) (value other : Tree) → same_tree (Leaf 2) other ≡ false →
    counted_answer (record s { cell = value }) other ≡ counted_answer s other
two_other s value (Leaf zero) differ = refl
two_other s value (Leaf (suc zero)) differ = refl
two_other s value (Leaf (suc (suc zero))) differ = cc
two_other s value (Leaf (suc (suc (suc n)))) differ = refl
two_other s value (Fork a b) differ = refl

put_other : (s : Counted) (key value other : Tree) → cell_is_writable key ≡ true → same_tree key other ≡ false →
    counted_answer (record s { cell = value }) other ≡ counted_answer s other
put_other s (Leaf zero) value other w differ = cc
put_other s (Leaf (suc zero)) value other w differ = cc
put_other s (Leaf (suc (suc zero))) value other w differ = two_other s value other differ
put_other s (Leaf (suc (suc (suc n)))) value other w differ = cc
put_other s (Fork a b) value other w differ = cc

bump_kept : (s : Counted) (key : Tree) (n : ℕ) → counters_move key ≡ false →
    counted_answer (record s { calls = round (s.calls.number + n) }) key ≡ counted_answer s key
bump_kept s (Leaf zero) n m = cc
bump_kept s (Leaf (suc zero)) n m = refl
bump_kept s (Leaf (suc (suc zero))) n m = refl
bump_kept s (Leaf (suc (suc (suc k)))) n m = refl
bump_kept s (Fork a b) n m = refl

enter_kept : (s : Counted) (key : Tree) → counters_move key ≡ false →
    counted_answer (record s { depth = round (s.depth.number + 1) }) key ≡ counted_answer s key
enter_kept s (Leaf zero) m = refl
enter_kept s (Leaf (suc zero)) m = cc
enter_kept s (Leaf (suc (suc zero))) m = refl
enter_kept s (Leaf (suc (suc (suc k)))) m = refl
enter_kept s (Fork a b) m = refl

back : (s : Counted) (key : Tree) (n : ℕ) →
    counters_back key (counted_answer (record s { calls = round (s.calls.number + n); depth = round (s.depth.number + 1) }) key) n ≡ counted_answer s key
back s (Leaf zero) n = ap Leaf (number_step s.calls.number n (ltb ((s.calls.number + n) % 4294967296) 4294967296) (below s.calls) refl)
back s (Leaf (suc zero)) n = ap Leaf (number_step s.depth.number 1 (ltb ((s.depth.number + 1) % 4294967296) 4294967296) (below s.depth) refl)
back s (Leaf (suc (suc zero))) n = refl
back s (Leaf (suc (suc (suc k)))) n = refl
back s (Fork a b) n = refl

once : (key one other : Tree) (n : ℕ) → counters_back key one n ≡ counters_back key other n → one ≡ other
once (Leaf zero) one other n is = tree_back_once one other n is
once (Leaf (suc zero)) one other n is = tree_back_once one other 1 is
once (Leaf (suc (suc k))) one other n is = is
once (Fork a b) one other n is = is

pub counters_fit : Fits counters counters_move cell_is_writable counters_back
counters_fit = record {
  writable_stays = stays;
  put_same = put_same;
  put_other = put_other;
  bump_none = λ s. ap (λ c. record s { calls = c }) (round_one (round (s.calls.number + 0)) s.calls (none_more s.calls.number (below s.calls)));
  bump_more = λ s m n. ap (λ c. record s { calls = c })
      (round_one (round ((s.calls.number + m) % 4294967296 + n)) (round (s.calls.number + (m + n))) (two_more s.calls.number m n));
  bump_put = λ s key value n w. refl;
  enter_put = λ s key value w. refl;
  enter_bump = λ s n. refl;
  leave_enter = λ s. ap (λ d. record s { depth = d })
      (round_one (round ((s.depth.number + 1) % 4294967296 + 4294967295)) s.depth (one_less s.depth.number (below s.depth)));
  bump_kept = bump_kept;
  enter_kept = enter_kept;
  rebased_back = back;
  rebased_once = once;
}

-- a number that went round, and more
pub round_more : (c n : ℕ) → round ((c + n) % 4294967296) ≡ round (c % 4294967296 + n)
round_more c n =
    let e : (c + n) % 4294967296 % 4294967296 ≡ (c % 4294967296 + n) % 4294967296 = omega arith in
    round_one (round ((c + n) % 4294967296)) (round (c % 4294967296 + n)) e

abbrev pub counted_with : Round → Round → Tree → Counted
counted_with calls depth cell = record { calls = calls; depth = depth; cell = cell }
