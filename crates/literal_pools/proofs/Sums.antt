-- Sums of lengths by their ranks, one length on.
use Rattle.std.proofs.Common.{◌≡◌, ℕ, ◌+◌, ◌<◌, ◌≤◌, ◌==◌, Bool, true, false, cond, List, [], ◌∷◌, length, take, sum, nat_lt, get_or, refl, ap, ◌∙◌, arith}
use Rattle.std.specs.List.{sum_by}
use Rattle.std.proofs.lemmas.List.{take_more, take_all}
use Rattle.std.proofs.lemmas.List.Sums.{sum_by-cons, sum_by_push, sum_by-take-le}
use Rattle.std.proofs.lemmas.Bool.{ltb-true}
use Rattle.literal_pools.specs.Pools.{rank, if_of_rank, if_before_rank, bytes_of_rank, bytes_before_rank}

part_le : (b : Bool) (n : ℕ) → cond b n 0 ≤ n
part_le true n = omega arith
part_le false n = omega arith

pub sum_part_le : (p : ℕ → Bool) (ns : List ℕ) → sum_by (λ n. cond (p n) n 0) ns ≤ sum ns
sum_part_le p [] = omega arith
sum_part_le p (n ∷ ns) =
    let one = part_le (p n) n in
    let more = sum_part_le p ns in
    let part = sum_by-cons (λ m. cond (p m) m 0) n ns in
    let all = sum_by-cons (λ m. m) n ns in omega arith

pub before_le : (r : ℕ) (ns : List ℕ) (i : ℕ) → bytes_before_rank r (take i ns) ≤ sum ns
before_le r ns i = let one = sum_by-take-le (if_before_rank r) ns i in let all = sum_part_le (λ n. nat_lt (rank n) r) ns in omega arith

pub before_none : (r : ℕ) (ns : List ℕ) → 0 ≡ bytes_before_rank r (take 0 ns)
before_none r ns = refl

pub before_more : (r : ℕ) (ns : List ℕ) (i : ℕ) → i < length ns →
    bytes_before_rank r (take (i + 1) ns) ≡ bytes_before_rank r (take i ns) + if_before_rank r (get_or ns i 0)
before_more r ns i inside =
    ap (bytes_before_rank r) (take_more ns i 0 inside) ∙ sum_by_push (if_before_rank r) (take i ns) (get_or ns i 0)

pub before_all : (r : ℕ) (ns : List ℕ) (i : ℕ) → length ns ≤ i → bytes_before_rank r (take i ns) ≡ bytes_before_rank r ns
before_all r ns i past = ap (bytes_before_rank r) (take_all i ns past)

pub of_more : (r : ℕ) (ns : List ℕ) (i : ℕ) → i < length ns →
    bytes_of_rank r (take (i + 1) ns) ≡ bytes_of_rank r (take i ns) + if_of_rank r (get_or ns i 0)
of_more r ns i inside = ap (bytes_of_rank r) (take_more ns i 0 inside) ∙ sum_by_push (if_of_rank r) (take i ns) (get_or ns i 0)

both_parts : (r m n : ℕ) (b c : Bool) → nat_lt m r ≡ b → (m == r) ≡ c → cond b n 0 + cond c n 0 ≤ n
both_parts r m n true true less same =
    let low : m < r = ltb-true m r less in
    let eq : m ≡ r = grind (arith, same) in
    absurd (omega arith)
both_parts r m n true false less same = omega arith
both_parts r m n false true less same = omega arith
both_parts r m n false false less same = omega arith

-- the bytes of one rank and of those before it are not more than all
pub before_and_of_le : (r : ℕ) (ns : List ℕ) → bytes_before_rank r ns + bytes_of_rank r ns ≤ sum ns
before_and_of_le r [] = omega arith
before_and_of_le r (n ∷ ns) =
    let one = both_parts r (rank n) n (nat_lt (rank n) r) (rank n == r) refl refl in
    let more = before_and_of_le r ns in
    let low = sum_by-cons (if_before_rank r) n ns in
    let own = sum_by-cons (if_of_rank r) n ns in
    let all = sum_by-cons (λ m. m) n ns in omega arith

-- a literal of a rank ends within the pool
pub ends_within : (r : ℕ) (ns : List ℕ) (i : ℕ) → i < length ns → rank (get_or ns i 0) ≡ r →
    bytes_before_rank r ns + bytes_of_rank r (take i ns) + get_or ns i 0 ≤ sum ns
ends_within r ns i inside is =
    let more = of_more r ns i inside in
    let part = sum_by-take-le (if_of_rank r) ns (i + 1) in
    let all = before_and_of_le r ns in
    let own : if_of_rank r (get_or ns i 0) ≡ get_or ns i 0 = own_rank (get_or ns i 0) r is in omega arith
  where
    own_rank : (n s : ℕ) → rank n ≡ s → if_of_rank s n ≡ n
    own_rank n s same = ap (λ b. cond b n 0) (let eq : (rank n == s) ≡ true = grind (arith, same) in eq)

-- no rank is before the first
pub before_first : (ns : List ℕ) → bytes_before_rank 0 ns ≡ 0
before_first [] = refl
before_first (n ∷ ns) =
    let more = before_first ns in
    let part = sum_by-cons (if_before_rank 0) n ns in
    let none : if_before_rank 0 n ≡ 0 = never (nat_lt (rank n) 0) refl in omega arith
  where
    never : (b : Bool) → nat_lt (rank n) 0 ≡ b → cond b n 0 ≡ 0
    never true is = let low : rank n < 0 = ltb-true (rank n) 0 is in absurd (omega arith)
    never false is = refl

-- one more length of a rank before this one
pub next_within : (r : ℕ) (ns : List ℕ) (i : ℕ) → i < length ns → rank (get_or ns i 0) < r →
    bytes_before_rank r (take i ns) + get_or ns i 0 ≤ sum ns
next_within r ns i inside low =
    let more = before_more r ns i inside in
    let all = before_le r ns (i + 1) in
    let own : if_before_rank r (get_or ns i 0) ≡ get_or ns i 0 = own_rank (get_or ns i 0) low in omega arith
  where
    own_rank : (n : ℕ) → rank n < r → if_before_rank r n ≡ n
    own_rank n less = ap (λ b. cond b n 0) (let yes : nat_lt (rank n) r ≡ true = grind (arith, less) in yes)
