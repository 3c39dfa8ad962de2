-- The bytes and the characters at the front of a text.
use Rattle.std.proofs.Common.{◌≡◌, ◌∙◌, ℕ, ◌+◌, ◌-◌, ◌<◌, ◌≤◌, true, false, Option, List, [], ◌∷◌, ◌++◌, length, take, drop, get_or, refl, sym, ap, subst, inl, inr, arith, lit<, take_all, take-append-drop, length-append, length-drop, length-take-le, drop-drop}
use Rattle.std.specs.Prelude.{◌==◌, ◌&&◌, min, slice_index, encode_utf8, encode_utf8_all, chars, IsUtf8, IsCharBoundary, MatchOption, is_some, Some, None}
use Rattle.std.proofs.lemmas.Bool.{eqb-true, eq-eqb, true≢false, both_ways, and_parts, and_from, ne_eqb, false_from_ne_true, cases_Bool, cases_lt}
use Rattle.std.specs.Str.{IsAscii}
use Rattle.std.proofs.lemmas.Str.{chars_past_char, chars-encodes, encode_ascii, encodes-append, encodes-chars, scalars-chars, IsUtf8-past_char, IsCharBoundary-at_seam, cons_from_encodes, char_from_byte, length-le-encodes, chars-append, chars-IsAscii, chars-nil, IsUtf8-from_ascii, IsCharBoundary-from_take}
use Rattle.std.proofs.Math.Utf8.{scalars, scalar}
use Rattle.std.proofs.Math.Seq.{take-append_seam, drop-append_seam}
use Rattle.std.proofs.Math.ListN.{drop_of_length-le}
use Rattle.hlasm_statements.specs.declared.statement.Shape.TheVariants.{Plain, Comment, InnerComment}
use Rattle.hlasm_statements.specs.Reading.{opening_of}

-- the first byte of characters is an ASCII character where the first character is
front_of : (cs : List ℕ) (k : ℕ) → k < 128 → (slice_index cs 0 == k) ≡ (slice_index (encode_utf8_all cs) 0 == k)
front_of [] k small = refl
front_of (c ∷ cs) k small = elim (cases_Bool (c == k)) [
  | inl same ↦
      let is : c ≡ k = eqb-true c k same in
      let P : List ℕ → Type 0 = λ front. (c == k) ≡ (slice_index (front ++ encode_utf8_all cs) 0 == k) in
      subst P (sym (encode_ascii c (omega arith))) refl
  | inr other ↦ other ∙ sym (false_from_ne_true _ (λ yes.
      let is : slice_index (encode_utf8_all (c ∷ cs)) 0 ≡ k = eqb-true _ k yes in
      let some : 0 < length (encode_utf8_all (c ∷ cs)) = omega (arith, length-le-encodes (c ∷ cs)) in
      let small_byte : get_or (encode_utf8_all (c ∷ cs)) 0 0 < 128 = omega (arith, is) in
      both_ways _ other (eq-eqb c k (char_from_byte (encode_utf8_all (c ∷ cs)) (encode_utf8_all cs) c refl small_byte some ∙ is))))
]

pub front-chars : (bs : List ℕ) (k : ℕ) → IsUtf8 bs → k < 128 → (slice_index (chars bs) 0 == k) ≡ (slice_index bs 0 == k)
front-chars bs k u small = front_of (chars bs) k small ∙ ap (λ xs. slice_index xs 0 == k) (encodes-chars bs u)

-- the same of the second, behind an ASCII character
second-chars : (bs : List ℕ) (j k : ℕ) → IsUtf8 bs → j < 128 → k < 128 → 0 < j → (slice_index bs 0 == j) ≡ true → (slice_index (chars bs) 1 == k) ≡ (slice_index bs 1 == k)
second-chars [] j k u small small_k some h =
    let none : 0 ≡ j = eqb-true 0 j h in absurd (omega arith)
second-chars (b ∷ bs) j k u small small_k some h =
    let is : b ≡ j = eqb-true b j h in
    let ascii : b < 128 = omega arith in
    let seam : b ∷ bs ≡ encode_utf8 b ++ bs = ap (λ front. front ++ bs) (sym (encode_ascii b ascii)) in
    ap (λ cs. slice_index cs 1 == k) (chars_past_char (b ∷ bs) bs b u seam)
    ∙ front-chars bs k (IsUtf8-past_char (b ∷ bs) bs b u seam) small_k

inner-chars : (bs : List ℕ) → IsUtf8 bs → ((slice_index (chars bs) 0 == 46) && (slice_index (chars bs) 1 == 42)) ≡ ((slice_index bs 0 == 46) && (slice_index bs 1 == 42))
inner-chars bs u = elim (cases_Bool (slice_index bs 0 == 46)) [
  | inl dot ↦ rw (front-chars bs 46 u (lit< tt), second-chars bs 46 42 u (lit< tt) (lit< tt) (lit< tt) dot) refl
  | inr other ↦ rw (front-chars bs 46 u (lit< tt), other) refl
]

pub opening-comment : (bs : List ℕ) → IsUtf8 bs → (slice_index bs 0 == 42) ≡ true → opening_of (chars bs) ≡ Comment
opening-comment bs u h = rw (front-chars bs 42 u (lit< tt), h) refl

pub opening-inner : (bs : List ℕ) → IsUtf8 bs → (slice_index bs 0 == 42) ≡ false → ((slice_index bs 0 == 46) && (slice_index bs 1 == 42)) ≡ true → opening_of (chars bs) ≡ InnerComment
opening-inner bs u h i = rw (front-chars bs 42 u (lit< tt), h, inner-chars bs u, i) refl

pub opening-plain : (bs : List ℕ) → IsUtf8 bs → (slice_index bs 0 == 42) ≡ false → ((slice_index bs 0 == 46) && (slice_index bs 1 == 42)) ≡ false → opening_of (chars bs) ≡ Plain
opening-plain bs u h i = rw (front-chars bs 42 u (lit< tt), h, inner-chars bs u, i) refl

-- ---- cutting a text behind a number of characters

pub at-none : (P : Type 0) (Q : ℕ → Type 0) (o : Option ℕ) → MatchOption o P Q → is_some o ≡ false → P
at-none P Q None step none = step
at-none P Q (Some c) step none = absurd (true≢false none)

-- what is behind one character more
pub behind-next : (o : Option ℕ) (P : Type 0) (left after cs : List ℕ) (k : ℕ) → MatchOption o P (λ c. left ≡ encode_utf8 c ++ after) → is_some o ≡ true → left ≡ encode_utf8_all (drop k cs) → after ≡ encode_utf8_all (drop (k + 1) cs)
behind-next None P left after cs k step some e = absurd (true≢false (sym some))
behind-next (Some c) P left after cs k step some e =
    let parts = cons_from_encodes (drop k cs) after c (sym e ∙ step) in
    sym parts.2 ∙ ap encode_utf8_all (sym (sym (drop-drop 1 k cs) ∙ ap (drop 1) parts.1))

-- at the end of a text nothing is behind any more characters
pub behind-end : (left cs : List ℕ) (k n : ℕ) → length left ≡ 0 → left ≡ encode_utf8_all (drop k cs) → k < n → [] ≡ encode_utf8_all (drop n cs)
behind-end left cs k n none e below =
    let short : length (drop k cs) ≤ length left = rw e (length-le-encodes (drop k cs)) in
    let whole : length cs ≤ n = omega (arith, length-drop k cs) in
    rw (drop_of_length-le cs whole) refl

scalars-parts : (xs ys : List ℕ) → scalars (xs ++ ys) ≡ true → (scalars xs ≡ true) × (scalars ys ≡ true)
scalars-parts [] ys h = (refl, h)
scalars-parts (x ∷ xs) ys h =
    let head = and_parts (scalar x) (scalars (xs ++ ys)) h in
    let rest = scalars-parts xs ys head.1 in
    (and_from (scalar x) (scalars xs) head.0 rest.0, rest.1)

parts-scalar : (bs : List ℕ) (n : ℕ) → IsUtf8 bs → (scalars (take n (chars bs)) ≡ true) × (scalars (drop n (chars bs)) ≡ true)
parts-scalar bs n u = scalars-parts (take n (chars bs)) (drop n (chars bs)) (ap scalars (take-append-drop n (chars bs)) ∙ scalars-chars bs u)

-- a text is its first characters and the rest
seam : (bs : List ℕ) (n : ℕ) → IsUtf8 bs → bs ≡ encode_utf8_all (take n (chars bs)) ++ encode_utf8_all (drop n (chars bs))
seam bs n u = sym (encodes-chars bs u) ∙ ap encode_utf8_all (sym (take-append-drop n (chars bs))) ∙ encodes-append (take n (chars bs)) (drop n (chars bs))

-- where the rest is, it begins behind the first characters
place : (bs rest : List ℕ) (n : ℕ) → IsUtf8 bs → rest ≡ encode_utf8_all (drop n (chars bs)) → length bs - length rest ≡ length (encode_utf8_all (take n (chars bs)))
place bs rest n u e =
    omega (arith, ap length e, ap length (seam bs n u), length-append (encode_utf8_all (take n (chars bs))) (encode_utf8_all (drop n (chars bs))))

pub rest-fits : (bs rest : List ℕ) (n : ℕ) → IsUtf8 bs → rest ≡ encode_utf8_all (drop n (chars bs)) → length rest ≤ length bs
rest-fits bs rest n u e =
    omega (arith, ap length e, ap length (seam bs n u), length-append (encode_utf8_all (take n (chars bs))) (encode_utf8_all (drop n (chars bs))))

pub cut_behind_columns : (bs rest : List ℕ) (n : ℕ) → IsUtf8 bs → rest ≡ encode_utf8_all (drop n (chars bs)) → IsCharBoundary bs (length bs - length rest)
cut_behind_columns bs rest n u e =
    rw (place bs rest n u e) (IsCharBoundary-at_seam bs _ _ (seam bs n u) (drop n (chars bs), ((parts-scalar bs n u).1, refl)))

pub chars-front : (bs rest : List ℕ) (n : ℕ) → IsUtf8 bs → rest ≡ encode_utf8_all (drop n (chars bs)) → chars (take (length bs - length rest) bs) ≡ take n (chars bs)
chars-front bs rest n u e =
    let front = encode_utf8_all (take n (chars bs)) in
    let back = encode_utf8_all (drop n (chars bs)) in
    ap (λ k. chars (take k bs)) (place bs rest n u e)
    ∙ ap (λ xs. chars (take (length front) xs)) (seam bs n u)
    ∙ ap chars (take-append_seam front back)
    ∙ chars-encodes (take n (chars bs)) (parts-scalar bs n u).0

pub chars-back : (bs rest : List ℕ) (n : ℕ) → IsUtf8 bs → rest ≡ encode_utf8_all (drop n (chars bs)) → chars (drop (length bs - length rest) bs) ≡ drop n (chars bs)
chars-back bs rest n u e =
    let front = encode_utf8_all (take n (chars bs)) in
    let back = encode_utf8_all (drop n (chars bs)) in
    ap (λ k. chars (drop k bs)) (place bs rest n u e)
    ∙ ap (λ xs. chars (drop (length front) xs)) (seam bs n u)
    ∙ ap chars (drop-append_seam front back)
    ∙ chars-encodes (drop n (chars bs)) (parts-scalar bs n u).1

-- a text has no character where it has no byte
none_of : (cs : List ℕ) → (length (encode_utf8_all cs) == 0) ≡ (length cs == 0)
none_of [] = refl
none_of (c ∷ cs) =
    ne_eqb (length (encode_utf8_all (c ∷ cs))) 0 (λ none. absurd (omega (arith, length-le-encodes (c ∷ cs), none)))
    ∙ sym (ne_eqb (length (c ∷ cs)) 0 (λ none. absurd (omega (arith, none))))

pub none-chars : (bs : List ℕ) → IsUtf8 bs → (length bs == 0) ≡ (length (chars bs) == 0)
none-chars bs u = ap (λ xs. length xs == 0) (sym (encodes-chars bs u)) ∙ none_of (chars bs)

-- ---- where the first characters are ASCII, each is a byte

ascii-parts : (bs : List ℕ) (i : ℕ) → IsUtf8 bs → i ≤ length bs → IsAscii (take i bs) → chars bs ≡ take i bs ++ chars (drop i bs)
ascii-parts bs i u within ascii =
    ap chars (sym (take-append-drop i bs))
    ∙ chars-append (take i bs) (drop i bs) (IsUtf8-from_ascii (take i bs) ascii)
    ∙ ap (λ front. front ++ chars (drop i bs)) (chars-IsAscii (take i bs) ascii)

pub ascii-cut : (bs : List ℕ) (i : ℕ) → IsUtf8 bs → i ≤ length bs → IsAscii (take i bs) → IsCharBoundary bs i
ascii-cut bs i u within ascii = IsCharBoundary-from_take bs i u within (IsUtf8-from_ascii (take i bs) ascii)

-- a text of fewer bytes is ASCII as a whole
ascii-whole : (bs : List ℕ) (i count : ℕ) → i ≡ min count (length bs) → length bs < count → IsAscii (take i bs) → (take i bs ≡ bs) × (chars bs ≡ bs)
ascii-whole bs i count is short ascii =
    let all : take i bs ≡ bs = take_all i bs (omega arith) in
    (all, chars-IsAscii bs (subst IsAscii all ascii))

ascii-length : (bs : List ℕ) (i count : ℕ) → i ≡ min count (length bs) → count ≤ length bs → length (take i bs) ≡ count
ascii-length bs i count is fits = let within : i ≤ length bs = omega arith in omega (arith, length-take-le i bs within)

pub ascii-front : (bs : List ℕ) (i count : ℕ) → IsUtf8 bs → i ≡ min count (length bs) → IsAscii (take i bs) → chars (take i bs) ≡ take count (chars bs)
ascii-front bs i count u is ascii = elim (cases_lt (length bs) count) [
  | inl short ↦
      let whole = ascii-whole bs i count is short ascii in
      ap chars whole.0 ∙ sym (take_all count (chars bs) (omega (arith, ap length whole.1)))
  | inr fits ↦
      chars-IsAscii (take i bs) ascii
      ∙ sym (take-append_seam (take i bs) (chars (drop i bs)))
      ∙ ap (λ n. take n (take i bs ++ chars (drop i bs))) (ascii-length bs i count is fits)
      ∙ ap (take count) (sym (ascii-parts bs i u (omega arith) ascii))
]

pub ascii-back : (bs : List ℕ) (i count : ℕ) → IsUtf8 bs → i ≡ min count (length bs) → IsAscii (take i bs) → chars (drop i bs) ≡ drop count (chars bs)
ascii-back bs i count u is ascii = elim (cases_lt (length bs) count) [
  | inl short ↦
      let whole = ascii-whole bs i count is short ascii in
      ap chars (drop_of_length-le bs (omega arith))
      ∙ chars-nil
      ∙ sym (drop_of_length-le (chars bs) (omega (arith, ap length whole.1)))
  | inr fits ↦
      sym (drop-append_seam (take i bs) (chars (drop i bs)))
      ∙ ap (λ n. drop n (take i bs ++ chars (drop i bs))) (ascii-length bs i count is fits)
      ∙ ap (drop count) (sym (ascii-parts bs i u (omega arith) ascii))
]

-- a text without bytes has no characters
pub chars-none : (bs rest : List ℕ) → rest ≡ bs → length rest ≡ 0 → chars bs ≡ []
chars-none [] rest same h = chars-nil
chars-none (b ∷ bs) rest same h = let some : length rest ≡ length (b ∷ bs) = ap length same in absurd (omega arith)
