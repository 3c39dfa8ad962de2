-- The bits of a mask.
use Rattle.std.proofs.Common.{◌≡◌, ◌∙◌, ℕ, zero, suc, ◌+◌, ◌-◌, ◌*◌, ◌/◌, ◌%◌, ◌^◌, ◌<◌, ◌≤◌, inl, inr, ◌==◌, Bool, true, false, refl, sym, ap, subst, arith, add-one, pow-suc, if◌then◌else◌}
use Rattle.std.specs.Int.{bit_at}
use Rattle.std.proofs.lemmas.Bool.{cases_lt}
use Rattle.std.proofs.lemmas.Nat.Bits.{bit_at_cat_low, bit_at_cat_high, bit_at_above}
use Rattle.using_ranges.specs.Ranges.{mask_of}
use Rattle.using_statements.specs.Said.{is_marked}

-- a mask with one bit more, where that is set
abbrev with_bit : (mask n : ℕ) → Bool → ℕ
with_bit mask n holds = mask + (if holds then 2 ^ n else 0)

bits-below : (mask n : ℕ) (holds : Bool) → mask < 2 ^ n → with_bit mask n holds < 2 ^ (n + 1)
bits-below mask n true small = let double : 2 ^ (n + 1) ≡ 2 ^ n * 2 = ap (λ k. 2 ^ k) (add-one n) ∙ pow-suc 2 n in omega arith
bits-below mask n false small = let double : 2 ^ (n + 1) ≡ 2 ^ n * 2 = ap (λ k. 2 ^ k) (add-one n) ∙ pow-suc 2 n in omega arith

below : (holds : ℕ → Bool) (n : ℕ) → mask_of holds n < 2 ^ n
unfolding mask_of
below holds zero = omega arith
below holds (suc n) =
    let P : ℕ → Type 0 = λ k. with_bit (mask_of holds n) n (holds n) < 2 ^ k in
    subst P (add-one n) (bits-below (mask_of holds n) n (holds n) (below holds n))

turned : (mask n : ℕ) → mask + 2 ^ n ≡ 1 * 2 ^ n + mask
turned mask n = omega arith

at_itself : (mask n : ℕ) (holds : Bool) → mask < 2 ^ n → bit_at (with_bit mask n holds) n ≡ (if holds then 1 else 0)
at_itself mask n true small =
    let nothing : n - n ≡ 0 = omega arith in
    ap (λ m. bit_at m n) (turned mask n) ∙ bit_at_cat_high 1 n mask n small (omega arith) ∙ ap (λ k. bit_at 1 k) nothing
at_itself mask n false small =
    let same : mask + 0 ≡ mask = omega arith in
    ap (λ m. bit_at m n) same ∙ bit_at_above mask n n small (omega arith)

at_others : (mask n r : ℕ) (holds : Bool) → r < n → bit_at (with_bit mask n holds) r ≡ bit_at mask r
at_others mask n r true h = ap (λ m. bit_at m r) (turned mask n) ∙ bit_at_cat_low 1 n mask r h
at_others mask n r false h = let same : mask + 0 ≡ mask = omega arith in ap (λ m. bit_at m r) same

bit-mask : (holds : ℕ → Bool) (n r : ℕ) → r < n → bit_at (mask_of holds n) r ≡ (if holds r then 1 else 0)
unfolding mask_of
bit-mask holds zero r h = absurd (omega arith)
bit-mask holds (suc n) r h =
    elim (cases_lt r n) [
      | inl less ↦ at_others (mask_of holds n) n r (holds n) less ∙ bit-mask holds n r less
      | inr more ↦ let is : n ≡ r = omega arith in
          subst (λ (k : ℕ). bit_at (with_bit (mask_of holds n) n (holds n)) k ≡ (if holds k then 1 else 0)) is
          (at_itself (mask_of holds n) n (holds n) (below holds n))
    ]

test : (b : Bool) (n : ℕ) → n ≡ (if b then 1 else 0) → (n == 1) ≡ b
test true n is = ap (λ k. k == 1) is
test false n is = ap (λ k. k == 1) is

-- a bit of a mask says what it was set by
pub is_marked-mask : (holds : ℕ → Bool) (n r : ℕ) → r < n → is_marked (mask_of holds n) r ≡ holds r
is_marked-mask holds n r h = test (holds r) (bit_at (mask_of holds n) r) (bit-mask holds n r h)
