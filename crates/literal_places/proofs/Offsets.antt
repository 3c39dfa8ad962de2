-- Where literals stand is determined by their lengths.
use Rattle.std.proofs.Common.{◌≡◌, ◌∙◌, ℕ, suc, ◌+◌, List, [], ◌∷◌, length, Some, refl, ap, arith}
use Rattle.std.specs.Prelude.{slice_get}
use Rattle.literal_pools.specs.Pools.{AreOffsets, offset}
use Rattle.literal_places.specs.Places.{offsets_from, offsets_of}

some_same : {X : Type 0} (x y : X) → Some x ≡ Some y → x ≡ y
some_same x y is = cc

determined : (ns : List ℕ) (place : ℕ) (rest found : List ℕ) → length found ≡ length rest →
    ((k n : ℕ) → slice_get rest k ≡ Some n → slice_get found k ≡ Some (offset ns (place + k) n)) → found ≡ offsets_from ns place rest
determined ns place [] [] as_many each = refl
determined ns place [] (o ∷ found) as_many each = absurd (omega arith)
determined ns place (n ∷ rest) [] as_many each = absurd (omega arith)
determined ns place (n ∷ rest) (o ∷ found) as_many each =
    let here : place + 0 ≡ place = omega arith in
    let head : o ≡ offset ns place n = some_same o (offset ns (place + 0) n) (each 0 n refl) ∙ ap (λ k. offset ns k n) here in
    let tail : found ≡ offsets_from ns (place + 1) rest =
    determined ns (place + 1) rest found (omega arith) (λ k m is. each (suc k) m is ∙ ap (λ j. Some (offset ns j m)) (next place k)) in
    ap (λ x. x ∷ found) head ∙ ap (λ xs. offset ns place n ∷ xs) tail
  where
    next : (place k : ℕ) → place + suc k ≡ (place + 1) + k
    next place k = omega arith

pub offsets_are : (ns found : List ℕ) → AreOffsets ns found → found ≡ offsets_of ns
offsets_are ns found are = determined ns 0 ns found are.as_many (λ k n is. are.each k n is ∙ ap (λ j. Some (offset ns j n)) (from_zero k))
  where
    from_zero : (k : ℕ) → k ≡ 0 + k
    from_zero k = omega arith
