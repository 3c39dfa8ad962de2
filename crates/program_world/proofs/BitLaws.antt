-- Numbers of 32 bits as answers, and what is taken back of them.
use Rattle.std.proofs.Common.{◌≡◌, ℕ, zero, suc, ◌+◌, ◌-◌, ◌%◌, ◌<◌, ◌≤◌, ◌&&◌, ◌==◌, Bool, true, false, cond, Option, Some, None, negsuc, refl, sym, ap, ◌∙◌, arith, eqb-true, w32}
use Rattle.std.specs.Prelude.{nat_lt}
use Rattle.std.proofs.lemmas.Bool.{lt-ltb, ltb-true, ltb-false}
use Rattle.std.proofs.lemmas.Int.{to_z_pos, to_z-of_z}
use Rattle.hl_base.specs.declared.set.Answer.TheVariants as answer
use Rattle.kept_values.specs.Trees.{Tree, Leaf, Fork}
use Rattle.kept_values.specs.Answers.{answer_tree}
use Rattle.call_sites.specs.Rules.{number_tree, signed_bits, bits_in, bits_back, number_back, taken_back}

-- a number that is not negative, and one that is
positive : (n : ℕ) → n < 2147483648 → number_tree n ≡ Fork (Leaf 1) (Fork (Leaf 0) (Leaf n))
positive n h = ap (λ z. answer_tree (answer.Number z)) (to_z_pos w32 n h)

negative : (m : ℕ) → m < 2147483648 → number_tree (4294967295 - m) ≡ Fork (Leaf 1) (Fork (Leaf 1) (Leaf m))
negative m h =
    let same : 4294967296 - suc m ≡ 4294967295 - m = omega arith in
    ap number_tree (sym same) ∙ ap (λ z. answer_tree (answer.Number z)) (to_z-of_z w32 (negsuc m) (record { sfits = h }))

-- the bits of a number
small_bits : (n : ℕ) → n < 2147483648 → bits_in (Fork (Leaf 1) (Fork (Leaf 0) (Leaf n))) ≡ Some n
small_bits n h = ap (λ t. cond t (Some n) None) (lt-ltb n 2147483648 h)

large_bits : (m : ℕ) → m < 2147483648 → bits_in (Fork (Leaf 1) (Fork (Leaf 1) (Leaf m))) ≡ Some (4294967295 - m)
large_bits m h = ap (λ t. cond t (Some (4294967295 - m)) None) (lt-ltb m 2147483648 h)

bits_step : (b : ℕ) (small : Bool) → nat_lt b 2147483648 ≡ small → b < 4294967296 → bits_in (number_tree b) ≡ Some b
bits_step b true is h = let lt = ltb-true b 2147483648 is in ap bits_in (positive b lt) ∙ small_bits b lt
bits_step b false is h =
    let le : 2147483648 ≤ b = ltb-false b 2147483648 is in
    let m = 4294967295 - b in
    let lt : m < 2147483648 = omega arith in
    let back : 4294967295 - m ≡ b = omega arith in
    ap (λ n. bits_in (number_tree n)) (sym back) ∙ ap bits_in (negative m lt) ∙ large_bits m lt ∙ ap Some back

pub bits_in-number_tree : (b : ℕ) → b < 4294967296 → bits_in (number_tree b) ≡ Some b
bits_in-number_tree b h = bits_step b (nat_lt b 2147483648) refl h

-- a tree that has bits is the tree of that number
both : (x y : Bool) → (x && y) ≡ true → (x ≡ true) × (y ≡ true)
both true true is = (refl, refl)
both true false is = (refl, is)
both false y is = (is, cc)

chosen : (t : Bool) (x b : ℕ) → cond t (Some x) None ≡ Some b → (t ≡ true) × (x ≡ b)
chosen true x b is = (refl, cc)
chosen false x b is = cc

abbrev IsNumber : Tree → ℕ → Type 0
IsNumber value b = (b < 4294967296) × (value ≡ number_tree b)

signed : (sign size b : ℕ) → sign < 2 → size < 2147483648 → signed_bits sign size ≡ b → IsNumber (Fork (Leaf 1) (Fork (Leaf sign) (Leaf size))) b
signed zero size b s h is = (let e : size ≡ b = is in omega arith, sym (positive size h) ∙ ap number_tree is)
signed (suc zero) size b s h is = (let e : 4294967295 - size ≡ b = is in omega arith, sym (negative size h) ∙ ap number_tree is)
signed (suc (suc n)) size b s h is = absurd (omega arith)

of_kind : (kind sign size b : ℕ) → kind ≡ 1 → IsNumber (Fork (Leaf 1) (Fork (Leaf sign) (Leaf size))) b → IsNumber (Fork (Leaf kind) (Fork (Leaf sign) (Leaf size))) b
of_kind kind sign size b is number = (number.0, ap (λ k. Fork (Leaf k) (Fork (Leaf sign) (Leaf size))) is ∙ number.1)

none_some : (b : ℕ) → None ≡ Some b → ⊥
none_some b is = cc

pub number_of_bits : (value : Tree) (b : ℕ) → bits_in value ≡ Some b → IsNumber value b
number_of_bits (Leaf n) b is = absurd (none_some b is)
number_of_bits (Fork (Fork k l) rest) b is = absurd (none_some b is)
number_of_bits (Fork (Leaf kind) (Leaf n)) b is = absurd (none_some b is)
number_of_bits (Fork (Leaf kind) (Fork (Fork s t) size)) b is = absurd (none_some b is)
number_of_bits (Fork (Leaf kind) (Fork (Leaf sign) (Fork s t))) b is = absurd (none_some b is)
number_of_bits (Fork (Leaf kind) (Fork (Leaf sign) (Leaf size))) b is =
    let taken = chosen (kind == 1 && (nat_lt sign 2 && nat_lt size 2147483648)) (signed_bits sign size) b is in
    let kinds = both (kind == 1) (nat_lt sign 2 && nat_lt size 2147483648) taken.0 in
    let parts = both (nat_lt sign 2) (nat_lt size 2147483648) kinds.1 in
    of_kind kind sign size b (eqb-true kind 1 kinds.0) (signed sign size b (ltb-true sign 2 parts.0) (ltb-true size 2147483648 parts.1) taken.1)

back_small : (a n : ℕ) → bits_back a n < 4294967296
back_small a n = omega arith

back_once : (a b n : ℕ) → a < 4294967296 → b < 4294967296 → bits_back a n ≡ bits_back b n → a ≡ b
back_once a b n ha hb is = omega arith

back_more : (c n : ℕ) → c < 4294967296 → bits_back ((c + n) % 4294967296) n ≡ c
back_more c n h = omega arith

-- what was counted on is taken back
pub taken_back-more : (c n : ℕ) → c < 4294967296 → taken_back (number_tree ((c + n) % 4294967296)) n ≡ number_tree c
taken_back-more c n h =
    let small : (c + n) % 4294967296 < 4294967296 = omega arith in
    let value = number_tree ((c + n) % 4294967296) in
    ap (λ o. number_back o value n) (bits_in-number_tree ((c + n) % 4294967296) small) ∙ ap number_tree (back_more c n h)

some_one : (a b : ℕ) → Some a ≡ Some b → a ≡ b
some_one a b is = cc

once_step : (one other : Tree) (n : ℕ) (o p : Option ℕ) → bits_in one ≡ o → bits_in other ≡ p → number_back o one n ≡ number_back p other n → one ≡ other
once_step one other n None None po pp is = is
once_step one other n None (Some b) po pp is =
    absurd (none_some (bits_back b n) (sym po ∙ ap bits_in is ∙ bits_in-number_tree (bits_back b n) (back_small b n)))
once_step one other n (Some a) None po pp is =
    absurd (none_some (bits_back a n) (sym pp ∙ ap bits_in (sym is) ∙ bits_in-number_tree (bits_back a n) (back_small a n)))
once_step one other n (Some a) (Some b) po pp is =
    let first = number_of_bits one a po in
    let second = number_of_bits other b pp in
    let backs = some_one (bits_back a n) (bits_back b n) (sym (bits_in-number_tree (bits_back a n) (back_small a n)) ∙ ap bits_in is ∙ bits_in-number_tree (bits_back b n) (back_small b n)) in
    first.1 ∙ ap number_tree (back_once a b n first.0 second.0 backs) ∙ sym second.1

-- no two values are taken back to one
pub taken_back_once : (one other : Tree) (n : ℕ) → taken_back one n ≡ taken_back other n → one ≡ other
taken_back_once one other n is = once_step one other n (bits_in one) (bits_in other) refl refl is
