-- The places of the next literals of each rank, and the offsets so far, one literal on.
use Rattle.std.proofs.Common.{◌≡◌, ◌≢◌, ℕ, zero, suc, ◌+◌, ◌<◌, ◌≤◌, ◌==◌, ◌⊎◌, inl, inr, true, false, cond, List, [], ◌∷◌, ◌++◌, length, take, get_or, set, refl, sym, ap, ◌∙◌, arith, add-zero, Some, slice_get, get_or-set_same, get_or-set_other}
use Rattle.std.proofs.lemmas.Bool.{cases_eq, cases_lt}
use Rattle.std.proofs.lemmas.Option.{slice_get-get_or}
use Rattle.literal_pools.specs.Pools.{rank, if_of_rank, bytes_of_rank, bytes_before_rank, offset}
use Rattle.literal_pools.proofs.Sums.{before_first, of_more}

-- where the first literals of the ranks stand
pub begins : (ns : List ℕ) (a b c : ℕ) → a ≡ bytes_before_rank 1 ns → b ≡ bytes_before_rank 2 ns → c ≡ bytes_before_rank 3 ns →
    (r : ℕ) → r < 4 → get_or (0 ∷ a ∷ b ∷ c ∷ []) r 0 ≡ bytes_before_rank r ns + bytes_of_rank r (take 0 ns)
begins ns a b c one two three zero small = sym (add-zero _ ∙ before_first ns)
begins ns a b c one two three (suc zero) small = one ∙ sym (add-zero _)
begins ns a b c one two three (suc (suc zero)) small = two ∙ sym (add-zero _)
begins ns a b c one two three (suc (suc (suc zero))) small = three ∙ sym (add-zero _)
begins ns a b c one two three (suc (suc (suc (suc r)))) small = absurd (omega arith)

own_rank : (n r : ℕ) → rank n ≡ r → if_of_rank r n ≡ n
own_rank n r same = ap (λ b. cond b n 0) (let yes : (rank n == r) ≡ true = grind (arith, same) in yes)

other_rank : (n r : ℕ) → rank n ≢ r → if_of_rank r n ≡ 0
other_rank n r differ = ap (λ b. cond b n 0) (let no : (rank n == r) ≡ false = grind (arith, differ) in no)

-- the places after one more literal
pub moves_on : (next ns : List ℕ) (i k n : ℕ) → length next ≡ 4 → i < length ns → n ≡ get_or ns i 0 → k ≡ rank n → k < 4 →
    ((r : ℕ) → r < 4 → get_or next r 0 ≡ bytes_before_rank r ns + bytes_of_rank r (take i ns)) →
    (r : ℕ) → r < 4 → get_or (set next k (get_or next k 0 + n)) r 0 ≡ bytes_before_rank r ns + bytes_of_rank r (take (i + 1) ns)
moves_on next ns i k n four inside is ranked small so_far r low = by (cases_eq r k)
  where
    more : bytes_of_rank r (take (i + 1) ns) ≡ bytes_of_rank r (take i ns) + if_of_rank r n
    more = of_more r ns i inside ∙ ap (λ m. bytes_of_rank r (take i ns) + if_of_rank r m) (sym is)

    by : (r ≡ k) ⊎ (r ≢ k) → get_or (set next k (get_or next k 0 + n)) r 0 ≡ bytes_before_rank r ns + bytes_of_rank r (take (i + 1) ns)
    by (inl same) =
        let written : get_or (set next k (get_or next k 0 + n)) r 0 ≡ get_or next k 0 + n =
        ap (λ j. get_or (set next k (get_or next k 0 + n)) j 0) same ∙ get_or-set_same next k (get_or next k 0 + n) 0 (omega arith) in
        let was : get_or next k 0 ≡ bytes_before_rank r ns + bytes_of_rank r (take i ns) = ap (λ j. get_or next j 0) (sym same) ∙ so_far r low in
        let own : if_of_rank r n ≡ n = own_rank n r (sym ranked ∙ sym same) in
        let grown = more in omega arith
    by (inr differ) =
        let kept : get_or (set next k (get_or next k 0 + n)) r 0 ≡ get_or next r 0 = get_or-set_other next k r (get_or next k 0 + n) 0 differ in
        let none : if_of_rank r n ≡ 0 = other_rank n r (λ e. differ (sym (ranked ∙ e))) in
        let was = so_far r low in
        let grown = more in omega arith

slice_get-before : (xs : List ℕ) (y place : ℕ) → place < length xs → slice_get (xs ++ y ∷ []) place ≡ slice_get xs place
slice_get-before [] y place inside = absurd (omega arith)
slice_get-before (x ∷ xs) y zero inside = refl
slice_get-before (x ∷ xs) y (suc place) inside = slice_get-before xs y place (omega arith)

slice_get-last : (xs : List ℕ) (y : ℕ) → slice_get (xs ++ y ∷ []) (length xs) ≡ Some y
slice_get-last [] y = refl
slice_get-last (x ∷ xs) y = slice_get-last xs y

-- the offsets after one more literal
pub pushed : (offsets ns : List ℕ) (i y : ℕ) → length offsets ≡ i → i < length ns → y ≡ offset ns i (get_or ns i 0) →
    ((place n : ℕ) → place < i → slice_get ns place ≡ Some n → slice_get offsets place ≡ Some (offset ns place n)) →
    (place n : ℕ) → place < i + 1 → slice_get ns place ≡ Some n → slice_get (offsets ++ y ∷ []) place ≡ Some (offset ns place n)
pushed offsets ns i y as_many inside is so_far place n low at = by (cases_lt place i)
  where
    some_same : (m : ℕ) → Some m ≡ Some n → m ≡ n
    some_same m same = cc

    by : (place < i) ⊎ (i ≤ place) → slice_get (offsets ++ y ∷ []) place ≡ Some (offset ns place n)
    by (inl less) = slice_get-before offsets y place (omega arith) ∙ so_far place n less at
    by (inr ge) =
        let here : place ≡ length offsets = omega arith in
        let same : place ≡ i = omega arith in
        let value : get_or ns i 0 ≡ n = some_same (get_or ns i 0) (sym (slice_get-get_or ns i 0 inside) ∙ ap (slice_get ns) (sym same) ∙ at) in
        ap (slice_get (offsets ++ y ∷ [])) here
        ∙ slice_get-last offsets y
        ∙ ap Some (is ∙ ap (λ m. offset ns i m) value ∙ ap (λ p. offset ns p n) (sym same))
