-- The lines of a text, from its front.
use Rattle.std.proofs.Common.{◌≡◌, ◌∙◌, ℕ, ◌+◌, ◌<◌, true, false, not, List, [], ◌∷◌, ◌++◌, length, take, drop, get_or, refl, sym, inl, inr, ap, subst, arith, lit<, append-nil, take-append-drop, get_or-take}
use Rattle.std.specs.Prelude.{◌==◌, count_by, slice_index, encode_utf8_all, chars, IsUtf8, IsCharBoundary, position, nat_lt, encode_utf8, Some, None}
use Rattle.std.proofs.lemmas.List.Splits.{length-slice_split, join_with_byte-slice_split}
use Rattle.std.specs.List.{AllByRecursion, onto_first, position_or_len, join_with_byte}
use Rattle.std.proofs.lemmas.Option.{cond_some, none-some}
use Rattle.std.proofs.lemmas.List.Elements.{recursion_from_All}
use Rattle.std.proofs.lemmas.List.Sums.{prefix_len_passes, prefix_len_stops}
use Rattle.std.proofs.lemmas.List.Folds.{length-prefix_len}
use Rattle.std.proofs.lemmas.Bool.{ltb-true, ltb-false, not-true, not-false, eqb-true, true≢false, both_ways, or_parts, or_cases, and_parts, and_cases, false_from_ne_true}
use Rattle.std.proofs.lemmas.Str.{chars_past_char, encode_ascii, IsUtf8-past_char, IsUtf8-take, IsCharBoundary-before_ascii, IsCharBoundary-after_ascii, encodes-chars, chars-append}
use Rattle.hl_base.specs.Texts.{lines, with_line_feeds, begins_crlf}
use Rattle.hl_base.specs.Remaining.{ends_line}

-- a character within a line
abbrev pub IsWithin : ℕ → Type 0
IsWithin c = ends_line c ≡ false

pub lines-nil : lines [] ≡ [] ∷ []
unfolding lines
lines-nil = refl

-- a character that ends no line is the first of its line
pub lines-cons : (c : ℕ) (cs : List ℕ) → IsWithin c → lines (c ∷ cs) ≡ onto_first c (lines cs)
unfolding lines
lines-cons c cs h = let apart = or_parts (c == 10) (c == 13) h in rw (apart.1, apart.0) refl

pub lines-lf : (cs : List ℕ) → lines (10 ∷ cs) ≡ [] ∷ lines cs
unfolding lines
lines-lf cs = refl

pub lines-cr : (cs : List ℕ) → (slice_index cs 0 == 10) ≡ false → lines (13 ∷ cs) ≡ [] ∷ lines cs
unfolding lines
lines-cr cs h = rw h refl

pub lines-crlf : (cs : List ℕ) → lines (13 ∷ 10 ∷ cs) ≡ [] ∷ lines cs
unfolding lines
lines-crlf cs = refl

-- characters within a line are put before the first line of what follows
pub lines-append : (xs ys : List ℕ) (line : List ℕ) (rest : List (List ℕ)) → AllByRecursion IsWithin xs → lines ys ≡ line ∷ rest → lines (xs ++ ys) ≡ (xs ++ line) ∷ rest
lines-append [] ys line rest h e = e
lines-append (x ∷ xs) ys line rest h e = lines-cons x (xs ++ ys) h.0 ∙ ap (onto_first x) (lines-append xs ys line rest h.1 e)

-- an ASCII byte at the front is a character
pub chars-ascii : (b : ℕ) (bs : List ℕ) → b < 128 → IsUtf8 (b ∷ bs) → chars (b ∷ bs) ≡ b ∷ chars bs
chars-ascii b bs small u = chars_past_char (b ∷ bs) bs b u (ap (λ front. front ++ bs) (sym (encode_ascii b small)))

pub utf8_tail : (b : ℕ) (bs : List ℕ) → b < 128 → IsUtf8 (b ∷ bs) → IsUtf8 bs
utf8_tail b bs small u = IsUtf8-past_char (b ∷ bs) bs b u (ap (λ front. front ++ bs) (sym (encode_ascii b small)))

first_of : (cs : List ℕ) → (slice_index (encode_utf8_all cs) 0 == 10) ≡ false → (slice_index cs 0 == 10) ≡ false
first_of [] h = refl
first_of (c ∷ cs) h = false_from_ne_true (c == 10) (λ yes.
    let P : ℕ → Type 0 = λ x. (slice_index (encode_utf8_all (x ∷ cs)) 0 == 10) ≡ true in
    both_ways _ h (subst P (sym (eqb-true c 10 yes)) (rw (encode_ascii 10 (lit< tt)) refl)))

-- the first character is a LF only where the first byte is
pub first_char : (bs : List ℕ) → IsUtf8 bs → (slice_index bs 0 == 10) ≡ false → (slice_index (chars bs) 0 == 10) ≡ false
first_char bs u h = first_of (chars bs) (ap (λ xs. slice_index xs 0 == 10) (encodes-chars bs u) ∙ h)

pub lines-behind_crlf : (bs : List ℕ) → IsUtf8 bs → begins_crlf (slice_index bs 0) (drop 1 bs) ≡ true → lines (chars bs) ≡ [] ∷ lines (chars (drop 2 bs))
lines-behind_crlf [] u h = absurd (true≢false (sym h))
lines-behind_crlf (b ∷ []) u h = absurd (true≢false (sym (and_parts (b == 13) false h).1))
lines-behind_crlf (b ∷ d ∷ rest) u h =
    let is_cr : b ≡ 13 = eqb-true b 13 (and_parts (b == 13) (d == 10) h).0 in
    let is_lf : d ≡ 10 = eqb-true d 10 (and_parts (b == 13) (d == 10) h).1 in
    let small_b : b < 128 = omega arith in
    let small_d : d < 128 = omega arith in
    ap lines (chars-ascii b (d ∷ rest) small_b u ∙ ap (λ cs. b ∷ cs) (chars-ascii d rest small_d (utf8_tail b (d ∷ rest) small_b u)))
    ∙ rw (is_cr, is_lf) (lines-crlf (chars rest))

pub lines-behind_end : (bs : List ℕ) → IsUtf8 bs → ends_line (slice_index bs 0) ≡ true → begins_crlf (slice_index bs 0) (drop 1 bs) ≡ false → lines (chars bs) ≡ [] ∷ lines (chars (drop 1 bs))
lines-behind_end [] u h alone = absurd (true≢false (sym h))
lines-behind_end (b ∷ rest) u h alone = elim (or_cases (b == 10) (b == 13) h) [
  | inl lf ↦
      let is_lf : b ≡ 10 = eqb-true b 10 lf in
      let small : b < 128 = omega arith in
      ap lines (chars-ascii b rest small u) ∙ rw is_lf (lines-lf (chars rest))
  | inr cr ↦
      let is_cr : b ≡ 13 = eqb-true b 13 cr in
      let small : b < 128 = omega arith in
      ap lines (chars-ascii b rest small u) ∙ rw is_cr (lines-cr (chars rest) (elim (and_cases (b == 13) (slice_index rest 0 == 10) alone) [
        | inl other ↦ absurd (both_ways _ other cr)
        | inr apart ↦ first_char rest (utf8_tail b rest small u) apart
      ]))
]

pub cut_behind_crlf : (bs : List ℕ) → IsUtf8 bs → begins_crlf (slice_index bs 0) (drop 1 bs) ≡ true → IsCharBoundary bs 2
cut_behind_crlf [] u h = absurd (true≢false (sym h))
cut_behind_crlf (b ∷ []) u h = absurd (true≢false (sym (and_parts (b == 13) false h).1))
cut_behind_crlf (b ∷ d ∷ rest) u h =
    let is_lf : d ≡ 10 = eqb-true d 10 (and_parts (b == 13) (d == 10) h).1 in
    IsCharBoundary-after_ascii (b ∷ d ∷ rest) 1 u (omega arith) (let small : d < 128 = omega arith in small)

ends_small : (c : ℕ) → ends_line c ≡ true → c < 128
ends_small c h = elim (or_cases (c == 10) (c == 13) h) [
  | inl lf ↦ let is : c ≡ 10 = eqb-true c 10 lf in omega arith
  | inr cr ↦ let is : c ≡ 13 = eqb-true c 13 cr in omega arith
]

pub cut_behind_end : (bs : List ℕ) → IsUtf8 bs → ends_line (slice_index bs 0) ≡ true → IsCharBoundary bs 1
cut_behind_end [] u h = absurd (true≢false (sym h))
cut_behind_end (b ∷ rest) u h = IsCharBoundary-after_ascii (b ∷ rest) 0 u (omega arith) (ends_small b h)

-- where the first line end stands
pub found_end : (bs : List ℕ) (i : ℕ) → position ends_line bs ≡ Some i → (i < length bs) × (ends_line (slice_index bs i) ≡ true)
found_end bs i e =
    let at = cond_some (nat_lt (position_or_len ends_line bs) (length bs)) (position_or_len ends_line bs) i e in
    let inside : position_or_len ends_line bs < length bs = ltb-true _ _ at.0 in
    let ends : ends_line (get_or bs (position_or_len ends_line bs) 0) ≡ true = not-false _ (prefix_len_stops (λ c. not (ends_line c)) bs 0 inside) in
    rw (← at.1) (inside, ends)

-- all before it is within the line
pub within_before : (bs : List ℕ) (i : ℕ) → position ends_line bs ≡ Some i → AllByRecursion IsWithin (take i bs)
within_before bs i e =
    let at = cond_some (nat_lt (position_or_len ends_line bs) (length bs)) (position_or_len ends_line bs) i e in
    rw (← at.1) (recursion_from_All IsWithin _ (λ k d h.
    let below : k < position_or_len ends_line bs = omega (arith, length-prefix_len (λ c. not (ends_line c)) bs) in
    rw (get_or-take (position_or_len ends_line bs) bs k d below) (not-true _ (prefix_len_passes (λ c. not (ends_line c)) bs k d below))))

-- where there is no line end, all is within the line
pub within_all : (bs : List ℕ) → position ends_line bs ≡ None → AllByRecursion IsWithin bs
within_all bs e = recursion_from_All IsWithin bs (λ k d h.
    let whole : nat_lt (position_or_len ends_line bs) (length bs) ≡ false = false_from_ne_true _ (λ yes. none-some (position_or_len ends_line bs) (sym e ∙ rw yes refl)) in
    let below : k < position_or_len ends_line bs = omega (arith, ltb-false _ _ whole) in
    not-true _ (prefix_len_passes (λ c. not (ends_line c)) bs k d below))

within_parts : (xs ys : List ℕ) → AllByRecursion IsWithin (xs ++ ys) → AllByRecursion IsWithin xs × AllByRecursion IsWithin ys
within_parts [] ys h = (tt, h)
within_parts (x ∷ xs) ys h = let parts = within_parts xs ys h.1 in ((h.0, parts.0), parts.1)

-- bytes within a line are those of characters within a line
within_chars : (cs : List ℕ) → AllByRecursion IsWithin (encode_utf8_all cs) → AllByRecursion IsWithin cs
within_chars [] h = tt
within_chars (c ∷ cs) h =
    let parts = within_parts (encode_utf8 c) (encode_utf8_all cs) h in
    let inside : IsWithin c = false_from_ne_true (ends_line c) (λ yes.
    let Q : List ℕ → Type 0 = λ bytes. AllByRecursion IsWithin bytes in
    both_ways _ (subst Q (encode_ascii c (ends_small c yes)) parts.0).0 yes) in
    (inside, within_chars cs parts.1)

pub within_text : (bs : List ℕ) → IsUtf8 bs → AllByRecursion IsWithin bs → AllByRecursion IsWithin (chars bs)
within_text bs u h =
    let Q : List ℕ → Type 0 = λ bytes. AllByRecursion IsWithin bytes in
    within_chars (chars bs) (subst Q (sym (encodes-chars bs u)) h)

pub lines-one : (bs : List ℕ) → IsUtf8 bs → position ends_line bs ≡ None → lines (chars bs) ≡ chars bs ∷ []
lines-one bs u e = rw append-nil at (lines-append (chars bs) [] [] [] (within_text bs u (within_all bs e)) lines-nil)

pub cut_before_end : (bs : List ℕ) (i : ℕ) → position ends_line bs ≡ Some i → IsCharBoundary bs i
cut_before_end bs i e = let end = found_end bs i e in IsCharBoundary-before_ascii bs i end.0 (ends_small _ end.1)

pub lines-first : (bs : List ℕ) (i : ℕ) (rest : List (List ℕ)) → IsUtf8 bs → position ends_line bs ≡ Some i → lines (chars (drop i bs)) ≡ [] ∷ rest → lines (chars bs) ≡ chars (take i bs) ∷ rest
lines-first bs i rest u e h =
    let utf8 : IsUtf8 (take i bs) = IsUtf8-take bs i u (cut_before_end bs i e) in
    ap (λ xs. lines (chars xs)) (sym (take-append-drop i bs))
    ∙ ap lines (chars-append (take i bs) (drop i bs) utf8)
    ∙ rw append-nil at (lines-append (chars (take i bs)) (chars (drop i bs)) [] rest (within_text _ utf8 (within_before bs i e)) h)

-- one line more than line ends
pub length-lines : (text : List ℕ) → length (lines text) ≡ count_by (λ c. c == 10) (with_line_feeds text) + 1
unfolding lines
length-lines text = length-slice_split (λ c. c == 10) (with_line_feeds text)

-- the lines, joined by LFs
pub join-lines : (text : List ℕ) → join_with_byte 10 (lines text) ≡ with_line_feeds text
unfolding lines
join-lines text = join_with_byte-slice_split 10 (with_line_feeds text)
