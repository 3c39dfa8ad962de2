-- Which lines are processed, one line after the other.
use Rattle.std.proofs.Common.{◌≡◌, ◌∙◌, ◌+◌, ◌-◌, ◌≤◌, ℕ, zero, suc, Bool, true, false, cond, List, [], ◌∷◌, ◌++◌, length, take, Option, Some, None, refl, sym, ap, append_assoc, arith}
use Rattle.std.specs.List.{slice_get}
use Rattle.statement_listing.specs.Listings.{Listed, is_plain, plain_lines, plain_numbers}
use Rattle.statement_listing.specs.Sources.{places_before}

-- the numbers so far, with that of one line more, which is processed or not
numbers_by : (numbers : List ℕ) (first : ℕ) (rest : List Listed) (p : Bool) →
    numbers ++ cond p (first ∷ plain_numbers (first + 1) rest) (plain_numbers (first + 1) rest)
    ≡ cond p (numbers ++ first ∷ []) numbers ++ plain_numbers (first + 1) rest
numbers_by numbers first rest true = sym (append_assoc numbers (first ∷ []) (plain_numbers (first + 1) rest))
numbers_by numbers first rest false = refl

pub numbers-read : (all numbers after : List ℕ) (first : ℕ) (one : Listed) (rest : List Listed) →
    all ≡ numbers ++ plain_numbers first (one ∷ rest) → after ≡ cond (is_plain one.statement.shape) (numbers ++ first ∷ []) numbers →
    all ≡ after ++ plain_numbers (first + 1) rest
numbers-read all numbers after first one rest is read =
    is ∙ numbers_by numbers first rest (is_plain one.statement.shape) ∙ ap (λ ns. ns ++ plain_numbers (first + 1) rest) (sym read)

-- the places so far, with that of one line more
pub places-read : (all before after : List ℕ) (place next : ℕ) (one : Listed) (rest : List Listed) →
    all ≡ before ++ places_before place (one ∷ rest) → after ≡ before ++ place ∷ [] → next ≡ cond (is_plain one.statement.shape) (place + 1) place →
    all ≡ after ++ places_before next rest
places-read all before after place next one rest is read counted =
    is
    ∙ sym (append_assoc before (place ∷ []) (places_before (cond (is_plain one.statement.shape) (place + 1) place) rest))
    ∙ ap (λ n. (before ++ place ∷ []) ++ places_before n rest) (sym counted)
    ∙ ap (λ ps. ps ++ places_before next rest) (sym read)

more-by : (place n : ℕ) (one : Listed) (lines : List Listed) (p : Bool) → n ≡ cond p (place + 1) place + length (plain_lines lines) →
    n ≡ place + length (cond p (one ∷ plain_lines lines) (plain_lines lines))
more-by place n one lines true is = omega (arith, is)
more-by place n one lines false is = is

-- the place of a line is as many as are processed before it
pub place-there : (place : ℕ) (list : List Listed) (line n : ℕ) → slice_get (places_before place list) line ≡ Some n →
    n ≡ place + length (plain_lines (take line list))
place-there place [] line n is = cc
place-there place (one ∷ rest) zero n is = let same : place ≡ n = cc in omega (arith, same)
place-there place (one ∷ rest) (suc line) n is =
    more-by place n one (take line rest) (is_plain one.statement.shape)
    (place-there (cond (is_plain one.statement.shape) (place + 1) place) rest line n is)

-- behind the last line all are before it
pub place-past : (place : ℕ) (list : List Listed) (line : ℕ) → slice_get (places_before place list) line ≡ None →
    plain_lines (take line list) ≡ plain_lines list
place-past place [] zero is = refl
place-past place [] (suc line) is = refl
place-past place (one ∷ rest) zero is = cc
place-past place (one ∷ rest) (suc line) is =
    ap (λ ls. cond (is_plain one.statement.shape) (one ∷ ls) ls) (place-past (cond (is_plain one.statement.shape) (place + 1) place) rest line is)

-- as many numbers as lines that are processed
numbers_count-by : (first n : ℕ) (one : Listed) (rest : List Listed) (p : Bool) → n ≡ length (plain_lines rest) → length (plain_numbers (first + 1) rest) ≡ n →
    length (cond p (first ∷ plain_numbers (first + 1) rest) (plain_numbers (first + 1) rest)) ≡ length (cond p (one ∷ plain_lines rest) (plain_lines rest))
numbers_count-by first n one rest true is count = omega (arith, is, count)
numbers_count-by first n one rest false is count = count ∙ is

pub numbers-count : (first : ℕ) (list : List Listed) → length (plain_numbers first list) ≡ length (plain_lines list)
numbers-count first [] = refl
numbers-count first (one ∷ rest) =
    numbers_count-by first (length (plain_lines rest)) one rest (is_plain one.statement.shape) refl (numbers-count (first + 1) rest)

-- ---- the line of a number

-- one line more stands before the first
one_before : (o : Option Listed) (first n : ℕ) (one : Listed) (rest : List Listed) → (first + 1 ≤ n) × (o ≡ slice_get rest (n - (first + 1))) →
    (first ≤ n) × (o ≡ slice_get (one ∷ rest) (n - first))
one_before o first n one rest found =
    let more : suc (n - (first + 1)) ≡ n - first = omega (arith, found.0) in
    (omega (arith, found.0), found.1 ∙ ap (slice_get (one ∷ rest)) more)

there-by : (first place n : ℕ) (one : Listed) (rest : List Listed) (b : Bool) →
    ((q : ℕ) → slice_get (plain_numbers (first + 1) rest) q ≡ Some n → (first + 1 ≤ n) × (slice_get (plain_lines rest) q ≡ slice_get rest (n - (first + 1)))) →
    slice_get (cond b (first ∷ plain_numbers (first + 1) rest) (plain_numbers (first + 1) rest)) place ≡ Some n →
    (first ≤ n) × (slice_get (cond b (one ∷ plain_lines rest) (plain_lines rest)) place ≡ slice_get (one ∷ rest) (n - first))
there-by first zero n one rest true inside is =
    let same : first ≡ n = cc in
    let none : 0 ≡ n - first = omega (arith, same) in
    (omega (arith, same), ap (slice_get (one ∷ rest)) none)
there-by first (suc q) n one rest true inside is = one_before (slice_get (plain_lines rest) q) first n one rest (inside q is)
there-by first place n one rest false inside is = one_before (slice_get (plain_lines rest) place) first n one rest (inside place is)

-- the line that is processed at a place has its number in the list
pub numbered-there : (first : ℕ) (list : List Listed) (place n : ℕ) → slice_get (plain_numbers first list) place ≡ Some n →
    (first ≤ n) × (slice_get (plain_lines list) place ≡ slice_get list (n - first))
numbered-there first [] zero n is = cc
numbered-there first [] (suc place) n is = cc
numbered-there first (one ∷ rest) place n is =
    there-by first place n one rest (is_plain one.statement.shape) (λ q found. numbered-there (first + 1) rest q n found) is

past-by : (first place : ℕ) (one : Listed) (rest : List Listed) (b : Bool) →
    ((q : ℕ) → slice_get (plain_numbers (first + 1) rest) q ≡ None → slice_get (plain_lines rest) q ≡ None) →
    slice_get (cond b (first ∷ plain_numbers (first + 1) rest) (plain_numbers (first + 1) rest)) place ≡ None →
    slice_get (cond b (one ∷ plain_lines rest) (plain_lines rest)) place ≡ None
past-by first zero one rest true inside is = cc
past-by first (suc q) one rest true inside is = inside q is
past-by first place one rest false inside is = inside place is

-- where there is no number there is no line
pub numbered-past : (first : ℕ) (list : List Listed) (place : ℕ) → slice_get (plain_numbers first list) place ≡ None →
    slice_get (plain_lines list) place ≡ None
numbered-past first [] zero is = refl
numbered-past first [] (suc place) is = refl
numbered-past first (one ∷ rest) place is =
    past-by first place one rest (is_plain one.statement.shape) (λ q none. numbered-past (first + 1) rest q none) is
