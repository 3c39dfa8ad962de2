-- How many lines end in the first bytes of a text, and what stands behind them.
use Rattle.std.proofs.Common.{◌≡◌, ◌∙◌, ℕ, zero, suc, ◌+◌, ◌-◌, ◌<◌, ◌≤◌, Bool, true, false, not, cond, ◌&&◌, ◌||◌, List, [], ◌∷◌, ◌++◌, length, take, drop, get_or, refl, sym, inl, inr, ap, arith, length-append, length-take, take-append-drop, get_or-drop}
use Rattle.std.specs.Prelude.{◌==◌, slice_index, chars, IsUtf8, IsCharBoundary, encode_utf8, encode_utf8_all}
use Rattle.std.specs.List.{onto_first}
use Rattle.std.proofs.lemmas.Bool.{cases_lt}
use Rattle.std.proofs.lemmas.Bool.Decides.{nat_tests}
use Rattle.std.proofs.lemmas.Str.{encode_ascii, inside_one, encodes-chars, chars-append, IsUtf8-take, length-encode, len_utf8_bounds}
use Rattle.document_store.specs.Positions.{ends_line, whole_lines}
use Rattle.document_store.specs.Places.{line_ends}
use Rattle.document_store.proofs.DocumentLemmas.{bit}
use Rattle.document_store.proofs.LineLemmas.{IsCons, whole_lines-some}
use Rattle.document_store.proofs.PlaceLemmas.{drop-behind}

-- ---- counting

bit-le : (b : Bool) → bit b ≤ 1
bit-le true = omega arith
bit-le false = omega arith

pub line_ends-le : (n : ℕ) (text : List ℕ) → line_ends n text ≤ n
line_ends-le zero text = omega arith
line_ends-le (suc n) [] = omega arith
line_ends-le (suc n) (c ∷ rest) = omega (arith, bit-le (ends_line c rest), line_ends-le n rest)

line_ends-more : (n : ℕ) (text : List ℕ) → n < length text → line_ends (suc n) text ≡ line_ends n text + bit (ends_line (get_or text n 0) (drop (suc n) text))
line_ends-more n [] within = absurd (omega arith)
line_ends-more zero (c ∷ rest) within = omega arith
line_ends-more (suc n) (c ∷ rest) within = omega (arith, line_ends-more n rest (omega arith))

-- whether a line ends at a place, by what stands there and behind it
ends_line-at : (text : List ℕ) (n : ℕ) →
    ends_line (get_or text n 0) (drop (suc n) text) ≡ ((get_or text n 0 == 10 || get_or text n 0 == 13) && not (get_or text n 0 == 13 && get_or text (n + 1) 0 == 10))
ends_line-at text n =
    let next : slice_index (drop (suc n) text) 0 ≡ get_or text (n + 1) 0 = get_or-drop (suc n) text 0 0 ∙ ap (λ k. get_or text k 0) (omega arith) in
    ap (λ c. (get_or text n 0 == 10 || get_or text n 0 == 13) && not (get_or text n 0 == 13 && c == 10)) next

-- one place more is counted
pub line_ends-next : (n : ℕ) (text : List ℕ) (b : Bool) → n < length text →
    b ≡ ((get_or text n 0 == 10 || get_or text n 0 == 13) && not (get_or text n 0 == 13 && get_or text (n + 1) 0 == 10)) →
    line_ends (n + 1) text ≡ line_ends n text + bit b
line_ends-next n text b within is =
    let more : suc n ≡ n + 1 = omega arith in
    ap (λ k. line_ends k text) (sym more) ∙ line_ends-more n text within ∙ ap (λ e. line_ends n text + bit e) (ends_line-at text n ∙ sym is)

-- ---- what stands behind

-- the bytes of a character that is not ASCII
high : (c : ℕ) (rest : List ℕ) (k : ℕ) → 128 ≤ c → k < length (encode_utf8 c) → 128 ≤ get_or (encode_utf8 c ++ rest) k 0
high c rest k big within = elim (cases_lt (get_or (encode_utf8 c ++ rest) k 0) 128) [
  | inl small ↦ absurd (omega (arith, inside_one c rest (encode_utf8 c ++ rest) k refl within small))
  | inr large ↦ large
]

not_low : (x : ℕ) → 128 ≤ x → ((x == 10) ≡ false) × ((x == 13) ≡ false)
not_low x big = (grind (arith, nat_tests), grind (arith, nat_tests))

ends_line-high : (x : ℕ) (rest : List ℕ) → 128 ≤ x → ends_line x rest ≡ false
ends_line-high x rest big = let low = not_low x big in rw (low.0, low.1) refl

-- a text begins with a LF exactly where its bytes do
first_lf : (xs : List ℕ) → (slice_index (encode_utf8_all xs) 0 == 10) ≡ (slice_index xs 0 == 10)
first_lf [] = refl
first_lf (x ∷ xs) = elim (cases_lt x 128) [
  | inl small ↦ ap (λ e. slice_index (e ++ encode_utf8_all xs) 0 == 10) (encode_ascii x small)
  | inr big ↦
      let some : 0 < length (encode_utf8 x) = omega (arith, length-encode x, (len_utf8_bounds x).0) in
      (not_low _ (high x (encode_utf8_all xs) 0 big some)).0 ∙ sym (not_low x big).0
]

-- no line ends within high bytes
line_ends-high : (bytes rest : List ℕ) (n : ℕ) → ((k : ℕ) → k < length bytes → 128 ≤ get_or (bytes ++ rest) k 0) → line_ends (length bytes + n) (bytes ++ rest) ≡ line_ends n rest
line_ends-high [] rest n all = let none : 0 + n ≡ n = omega arith in ap (λ m. line_ends m rest) none
line_ends-high (x ∷ bytes) rest n all =
    let more : length (x ∷ bytes) + n ≡ suc (length bytes + n) = omega arith in
    let further : line_ends (length bytes + n) (bytes ++ rest) ≡ line_ends n rest = line_ends-high bytes rest n (λ k within. all (suc k) (omega arith)) in
    ap (λ m. line_ends m (x ∷ (bytes ++ rest))) more
    ∙ ap (λ b. bit b + line_ends (length bytes + n) (bytes ++ rest)) (ends_line-high x (bytes ++ rest) (all 0 (omega arith)))
    ∙ omega (arith, further)

-- a character in front of a text ends a line, or is of its first
drop-front : (b : Bool) (c m : ℕ) (xss : List (List ℕ)) → IsCons xss → drop (bit b + m + 1) (cond b ((c ∷ []) ∷ xss) (onto_first c xss)) ≡ drop (m + 1) xss
drop-front b c m [] some = let e : [] ≡ some.first ∷ some.others = some.is in absurd (cc)
drop-front true c m (xs ∷ xss) some =
    let more : 1 + m + 1 ≡ suc (m + 1) = omega arith in
    ap (λ k. drop k ((c ∷ []) ∷ xs ∷ xss)) more
drop-front false c m (xs ∷ xss) some =
    let more : m + 1 ≡ suc m = omega arith in
    let none : 0 + m + 1 ≡ suc m = omega arith in
    ap (λ k. drop k ((c ∷ xs) ∷ xss)) none ∙ sym (ap (λ k. drop k (xs ∷ xss)) more)

drop-one : (c : ℕ) (cs ds : List ℕ) →
    line_ends (length (encode_utf8_all (c ∷ cs))) (encode_utf8_all (c ∷ (cs ++ ds))) ≡ bit (ends_line c (cs ++ ds)) + line_ends (length (encode_utf8_all cs)) (encode_utf8_all (cs ++ ds))
drop-one c cs ds =
    let n : ℕ = length (encode_utf8_all cs) in
    let all : List ℕ = encode_utf8_all (cs ++ ds) in
    elim (cases_lt c 128) [
      | inl small ↦
          let count : length (encode_utf8_all (c ∷ cs)) ≡ suc n = ap (λ e. length (e ++ encode_utf8_all cs)) (encode_ascii c small) in
          let bytes : encode_utf8_all (c ∷ (cs ++ ds)) ≡ c ∷ all = ap (λ e. e ++ all) (encode_ascii c small) in
          let same : ends_line c all ≡ ends_line c (cs ++ ds) = ap (λ b. (c == 10 || c == 13) && not (c == 13 && b)) (first_lf (cs ++ ds)) in
          ap (λ m. line_ends m (encode_utf8_all (c ∷ (cs ++ ds)))) count ∙ ap (line_ends (suc n)) bytes ∙ ap (λ b. bit b + line_ends n all) same
      | inr big ↦
          let count : length (encode_utf8_all (c ∷ cs)) ≡ length (encode_utf8 c) + n = length-append (encode_utf8 c) (encode_utf8_all cs) in
          let passed : line_ends (length (encode_utf8 c) + n) (encode_utf8 c ++ all) ≡ line_ends n all = line_ends-high (encode_utf8 c) all n (λ k within. high c all k big within) in
          let none : bit (ends_line c (cs ++ ds)) ≡ 0 = ap bit (ends_line-high c (cs ++ ds) big) in
          ap (λ m. line_ends m (encode_utf8_all (c ∷ (cs ++ ds)))) count ∙ passed ∙ omega (arith, none)
    ]

-- behind the first characters stands what follows the line ends in them
drop-chars : (cs ds : List ℕ) → drop (line_ends (length (encode_utf8_all cs)) (encode_utf8_all (cs ++ ds)) + 1) (whole_lines (cs ++ ds)) ≡ drop 1 (whole_lines ds)
drop-chars [] ds = refl
drop-chars (c ∷ cs) ds =
    let m : ℕ = line_ends (length (encode_utf8_all cs)) (encode_utf8_all (cs ++ ds)) in
    ap (λ k. drop (k + 1) (whole_lines (c ∷ (cs ++ ds)))) (drop-one c cs ds)
    ∙ drop-front (ends_line c (cs ++ ds)) c m (whole_lines (cs ++ ds)) (whole_lines-some (cs ++ ds))
    ∙ drop-chars cs ds

drop-bytes : (bs : List ℕ) (n : ℕ) → IsUtf8 bs → IsCharBoundary bs n → drop (line_ends n bs + 1) (whole_lines (chars bs)) ≡ drop 1 (whole_lines (chars (drop n bs)))
drop-bytes bs n u cut =
    let front : IsUtf8 (take n bs) = IsUtf8-take bs n u cut in
    let cs : List ℕ = chars (take n bs) in
    let ds : List ℕ = chars (drop n bs) in
    let whole : chars bs ≡ cs ++ ds = ap chars (sym (take-append-drop n bs)) ∙ chars-append (take n bs) (drop n bs) front in
    let size : length (encode_utf8_all cs) ≡ n = ap length (encodes-chars (take n bs) front) ∙ omega (arith, length-take n bs, cut.0) in
    let bytes : encode_utf8_all (cs ++ ds) ≡ bs = ap encode_utf8_all (sym whole) ∙ encodes-chars bs u in
    ap (λ xs. drop (line_ends n bs + 1) (whole_lines xs)) whole
    ∙ ap (λ m. drop (line_ends m bs + 1) (whole_lines (cs ++ ds))) (sym size)
    ∙ ap (λ xs. drop (line_ends (length (encode_utf8_all cs)) xs + 1) (whole_lines (cs ++ ds))) (sym bytes)
    ∙ drop-chars cs ds

-- behind a block that has fewer line ends than are looked for, the others are looked for
pub drop-block : (bs rest : List ℕ) (n ends : ℕ) → IsUtf8 bs → IsCharBoundary bs n → rest ≡ drop n bs → line_ends n bs < ends →
    drop (ends - line_ends n bs) (whole_lines (chars rest)) ≡ drop ends (whole_lines (chars bs))
drop-block bs rest n ends u cut is fewer =
    let m : ℕ = line_ends n bs in
    let left : ends - m - 1 ≡ ends - (m + 1) = omega arith in
    ap (λ xs. drop (ends - m) (whole_lines (chars xs))) is
    ∙ sym (drop-behind 1 (ends - m) (whole_lines (chars (drop n bs))) (omega (arith, fewer)))
    ∙ ap (drop (ends - m - 1)) (sym (drop-bytes bs n u cut))
    ∙ ap (λ k. drop k (drop (m + 1) (whole_lines (chars bs)))) left
    ∙ drop-behind (m + 1) ends (whole_lines (chars bs)) (omega (arith, fewer))
