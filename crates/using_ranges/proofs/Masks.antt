-- A mask with one bit more.
use Rattle.std.proofs.Common.{◌≡◌, ℕ, ◌+◌, ◌*◌, ◌^◌, ◌<◌, ◌≤◌, Bool, true, false, refl, ap, ◌∙◌, add-one, pow-suc, arith, if◌then◌else◌}
use Rattle.std.proofs.Math.Pow.{pow_mono}
use Rattle.using_ranges.specs.Ranges.{mask_of}

pub no_bits : (holds : ℕ → Bool) → 0 ≡ mask_of holds 0
unfolding mask_of
no_bits holds = refl

pub more_bits : (holds : ℕ → Bool) (n : ℕ) → mask_of holds (n + 1) ≡ mask_of holds n + (if holds n then 2 ^ n else 0)
unfolding mask_of
more_bits holds n = ap (λ k. mask_of holds k) (add-one n)

twice : (n : ℕ) → 2 ^ (n + 1) ≡ 2 ^ n * 2
twice n = ap (λ k. 2 ^ k) (add-one n) ∙ pow-suc 2 n

pub bits_below : (mask n bit : ℕ) (holds : Bool) → mask < 2 ^ n → bit ≡ (if holds then 2 ^ n else 0) → mask + bit < 2 ^ (n + 1)
bits_below mask n bit true small is = let double = twice n in omega arith
bits_below mask n bit false small is = let double = twice n in omega arith

pub bits_fit : (mask n : ℕ) → mask < 2 ^ n → n ≤ 16 → mask < 65536
bits_fit mask n small le = let most : 2 ^ n ≤ 2 ^ 16 = pow_mono le in omega arith
