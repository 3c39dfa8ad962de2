-- The first byte that passes a test, as memchr finds it and as the list has it.
use Rattle.std.proofs.Common.{◌≡◌, ℕ, Bool, List, length, refl, arith}
use Rattle.std.specs.Prelude.{position, Some, None, Option}
use Rattle.std.specs.List.{position_or_len}
use Rattle.std.proofs.lemmas.Bool.{false_from_ne_true, lt-ltb, le-ltb}
use Rattle.std.proofs.lemmas.List.Sums.{position_or_len_is}
use Rattle.memchr.specs.Find.{IsFirstByte}

-- the first place whose byte passes is the list's
pub IsFirstByte-position : (test : ℕ → Bool) (hay : List ℕ) (r : Option ℕ) → IsFirstByte test hay r → r ≡ position test hay
IsFirstByte-position test hay None h =
    let whole : position_or_len test hay ≡ length hay = position_or_len_is test hay (length hay) 0 (omega arith) (λ k below. false_from_ne_true _ (h k (omega arith) below)) (λ past. absurd (omega arith)) in
    rw (whole, le-ltb (length hay) (length hay) (omega arith)) refl
IsFirstByte-position test hay (Some k) h =
    let first : position_or_len test hay ≡ k = position_or_len_is test hay k 0 (omega arith) (λ j below. false_from_ne_true _ (h.0.before j (omega arith) below)) (λ _. h.1) in
    rw (first, lt-ltb k (length hay) h.0.high) refl
