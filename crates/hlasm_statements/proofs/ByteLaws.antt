-- Bytes at the front of a text that are characters.
use Rattle.std.proofs.Common.{◌≡◌, ◌∙◌, ℕ, ◌<◌, Bool, true, false, not, List, [], ◌∷◌, length, get_or, suc, refl, sym, ap, subst, inl, inr, arith}
use Rattle.std.specs.Prelude.{◌==◌, ◌||◌, chars, IsUtf8, nat_lt, position, slice_index, Option, Some, None}
use Rattle.std.specs.List.{prefix_len}
use Rattle.std.proofs.lemmas.Bool.{cases_Bool, and_parts, and_from, eqb-true, or_cases, true≢false, ltb-true, false_from_ne_true}
use Rattle.std.proofs.lemmas.Bool.Decides.{nat_tests}
use Rattle.std.proofs.lemmas.Str.{chars-nil}
use Rattle.hl_base.proofs.LineLaws.{chars-ascii, utf8_tail}
use Rattle.hlasm_statements.specs.Columns.{is_blank, is_ink}
use Rattle.hlasm_statements.specs.Reading.{is_ascii_ink}
use Rattle.hlasm_statements.proofs.ListLaws.{prefix_len-pass, prefix_len-stop, prefix_len-twice, length_found, length_all}
use Rattle.hlasm_statements.proofs.CharLaws.{front-chars}

pub blank_small : (b : ℕ) → is_blank b ≡ true → b < 128
blank_small b h = elim (or_cases (b == 32) (b == 9) h) [
  | inl blank ↦ let is : b ≡ 32 = eqb-true b 32 blank in omega arith
  | inr tab ↦ let is : b ≡ 9 = eqb-true b 9 tab in omega arith
]

-- whether the first character is a blank, by the first byte
first_blank : (bs : List ℕ) → IsUtf8 bs → is_blank (slice_index (chars bs) 0) ≡ is_blank (slice_index bs 0)
first_blank bs u =
    ap (λ b. b || (slice_index (chars bs) 0 == 9)) (front-chars bs 32 u (omega arith))
    ∙ ap (λ b. (slice_index bs 0 == 32) || b) (front-chars bs 9 u (omega arith))

front_other : (cs : List ℕ) → is_blank (slice_index cs 0) ≡ false → prefix_len is_blank cs ≡ 0
front_other [] h = refl
front_other (c ∷ cs) h = prefix_len-stop is_blank c cs h

pub blank-bytes : (bs : List ℕ) → IsUtf8 bs → prefix_len is_blank bs ≡ prefix_len is_blank (chars bs)
blank-bytes [] u = ap (prefix_len is_blank) (sym chars-nil)
blank-bytes (b ∷ bs) u = elim (cases_Bool (is_blank b)) [
  | inl blank ↦
      let small = blank_small b blank in
      prefix_len-pass is_blank b bs blank ∙ ap suc (blank-bytes bs (utf8_tail b bs small u))
      ∙ sym (ap (prefix_len is_blank) (chars-ascii b bs small u) ∙ prefix_len-pass is_blank b (chars bs) blank)
  | inr other ↦
      prefix_len-stop is_blank b bs other
      ∙ sym (front_other (chars (b ∷ bs)) (first_blank (b ∷ bs) u ∙ other))
]

pub ascii_parts : (b : ℕ) → is_ascii_ink b ≡ true → (b < 128) × (is_ink b ≡ true)
ascii_parts b h = let parts = and_parts (nat_lt b 128) (is_ink b) h in (ltb-true b 128 parts.0, parts.1)

not_ascii_ink : (b : ℕ) → b < 128 → is_ascii_ink b ≡ false → is_ink b ≡ false
not_ascii_ink b small h = false_from_ne_true (is_ink b) (λ yes.
    let below : nat_lt b 128 ≡ true = grind (arith, nat_tests) in
    true≢false (sym (and_from (nat_lt b 128) (is_ink b) below yes) ∙ h))

pub word-bytes : (bs : List ℕ) → IsUtf8 bs → get_or bs (prefix_len is_ascii_ink bs) 0 < 128 → prefix_len is_ascii_ink bs ≡ prefix_len is_ink (chars bs)
word-bytes [] u small = ap (prefix_len is_ink) (sym chars-nil)
word-bytes (b ∷ bs) u small = elim (cases_Bool (is_ascii_ink b)) [
  | inl plain ↦
      let parts = ascii_parts b plain in
      let P : ℕ → Type 0 = λ n. get_or (b ∷ bs) n 0 < 128 in
      let on : get_or bs (prefix_len is_ascii_ink bs) 0 < 128 = subst P (prefix_len-pass is_ascii_ink b bs plain) small in
      prefix_len-pass is_ascii_ink b bs plain ∙ ap suc (word-bytes bs (utf8_tail b bs parts.0 u) on)
      ∙ sym (ap (prefix_len is_ink) (chars-ascii b bs parts.0 u) ∙ prefix_len-pass is_ink b (chars bs) parts.1)
  | inr other ↦
      let P : ℕ → Type 0 = λ n. get_or (b ∷ bs) n 0 < 128 in
      let here : b < 128 = subst P (prefix_len-stop is_ascii_ink b bs other) small in
      prefix_len-stop is_ascii_ink b bs other
      ∙ sym (ap (prefix_len is_ink) (chars-ascii b bs here u) ∙ prefix_len-stop is_ink b (chars bs) (not_ascii_ink b here other))
]

-- the characters before the first blank, by bytes
pub word-at : (bs ds : List ℕ) (n : ℕ) → IsUtf8 bs → ds ≡ bs → n ≡ prefix_len is_ascii_ink ds → slice_index ds n < 128 → n ≡ prefix_len is_ink (chars bs)
word-at bs ds n u same counts small =
    let P : List ℕ → Type 0 = λ xs. get_or xs (prefix_len is_ascii_ink xs) 0 < 128 in
    let Q : ℕ → Type 0 = λ k. get_or ds k 0 < 128 in
    counts ∙ ap (prefix_len is_ascii_ink) same ∙ word-bytes bs u (subst P same (subst Q counts small))

pub blanks-at : (bs ds : List ℕ) (n : ℕ) → IsUtf8 bs → ds ≡ bs → n ≡ prefix_len is_blank ds → n ≡ prefix_len is_blank (chars bs)
blanks-at bs ds n u same counts = counts ∙ ap (prefix_len is_blank) same ∙ blank-bytes bs u

pub found-twice : (p : ℕ → Bool) (xs : List ℕ) (o : Option ℕ) (n : ℕ) → o ≡ position (λ x. not (p x)) xs → o ≡ Some n → n ≡ prefix_len p xs
found-twice p xs o n is some = length_found (λ x. not (p x)) xs o n is some ∙ prefix_len-twice p xs

pub all-twice : (p : ℕ → Bool) (xs : List ℕ) (o : Option ℕ) → o ≡ position (λ x. not (p x)) xs → o ≡ None → length xs ≡ prefix_len p xs
all-twice p xs o is none = length_all (λ x. not (p x)) xs o is none ∙ prefix_len-twice p xs
