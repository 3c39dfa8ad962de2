-- The two parts of a text that is split before a line, in bytes: forward, back, and where a line begins between them.
use Rattle.std.proofs.Common.{◌≡◌, ◌∙◌, ℕ, ◌+◌, ◌-◌, ◌<◌, ◌≤◌, Bool, true, false, List, [], ◌∷◌, ◌++◌, length, take, drop, get_or, refl, sym, inl, inr, ap, subst, arith, length-append, length-take, append_assoc, take-append-drop, get_or-take}
use Rattle.std.proofs.Math.Seq.{drop-append_seam}
use Rattle.std.proofs.lemmas.Bool.{and_parts, and_cases, or_cases, eqb-true, true≢false}
use Rattle.std.proofs.lemmas.List.{drop-drop, drop_more, drop_all}
use Rattle.std.proofs.lemmas.Str.{chars-append, chars-nil, encodes-chars, encodes-append, IsUtf8-take, IsUtf8-drop, IsCharBoundary-at_seam, IsCharBoundary-before_ascii, IsCharBoundary-after_ascii}
use Rattle.std.specs.List.{concat}
use Rattle.memchr.specs.Find.{IsLastByte, is_byte2}
use Rattle.std.specs.Prelude.{◌==◌, ◌||◌, ◌&&◌, not, Some, chars, IsUtf8, IsCharBoundary, encode_utf8_all, slice_index}
use Rattle.hl_base.proofs.LineLaws.{chars-ascii, first_char}
use Rattle.document_store.specs.Parts.{BeginsLine, parted, ends_behind}
use Rattle.document_store.specs.Places.{line_ends}
use Rattle.document_store.specs.Positions.{whole_lines, ends_line}
use Rattle.document_store.proofs.FromLemmas.{split_at_line}
use Rattle.document_store.proofs.PartLemmas.{begins-count, BeginsLine-back, BeginsLine-other, BeginsLine-within}

-- ---- a line end at a byte

end_is_ascii : (byte next : ℕ) → ((byte == 10 || byte == 13) && not (byte == 13 && next == 10)) ≡ true → byte < 128
end_is_ascii byte next h = elim (or_cases (byte == 10) (byte == 13) (and_parts (byte == 10 || byte == 13) (not (byte == 13 && next == 10)) h).0) [
  | inl lf ↦ omega (arith, eqb-true byte 10 lf)
  | inr cr ↦ omega (arith, eqb-true byte 13 cr)
]

end_byte : (byte : ℕ) → is_byte2 10 13 byte ≡ true → byte < 128
end_byte byte h = elim (or_cases (byte == 10) (byte == 13) h) [
  | inl lf ↦ omega (arith, eqb-true byte 10 lf)
  | inr cr ↦ omega (arith, eqb-true byte 13 cr)
]

-- a text may be cut behind the last LF or CR of its first bytes
pub cut_behind_last : (bs : List ℕ) (end last : ℕ) → IsUtf8 bs → end ≤ length bs → IsLastByte (is_byte2 10 13) (take end bs) (Some last) →
    IsCharBoundary bs (last + 1)
cut_behind_last bs end last u within h =
    let below : last < end = omega (arith, h.0.high, length-take end bs) in
    let byte : is_byte2 10 13 (get_or bs last 0) ≡ true = ap (is_byte2 10 13) (sym (get_or-take end bs last 0 below)) ∙ h.1 in
    IsCharBoundary-after_ascii bs last u (omega (arith, below, within)) (end_byte (get_or bs last 0) byte)

behind-last : (x : ℕ) (xs : List ℕ) (c : ℕ) (ys : List ℕ) → ends_behind x (xs ++ c ∷ []) ys ≡ ends_line c ys
behind-last x [] c ys = refl
behind-last x (d ∷ xs) c ys = behind-last d xs c ys

parted-last : (xs : List ℕ) (c : ℕ) (ys : List ℕ) → parted (xs ++ c ∷ []) ys ≡ ends_line c ys
parted-last [] c ys = refl
parted-last (x ∷ xs) c ys = behind-last x xs c ys

last_of : (bs : List ℕ) (last : ℕ) → 0 < length bs → last ≡ get_or bs (length bs - 1) 0 → bs ≡ take (length bs - 1) bs ++ last ∷ []
last_of bs last some is =
    sym (take-append-drop (length bs - 1) bs)
    ∙ ap (λ ys. take (length bs - 1) bs ++ ys)
    (drop_more bs (length bs - 1) 0 (omega (arith, some))
    ∙ ap (λ ys. get_or bs (length bs - 1) 0 ∷ ys) (drop_all (length bs - 1 + 1) bs (omega (arith, some)))
    ∙ ap (λ x. x ∷ []) (sym is))

ends_line-bytes : (last next : ℕ) (back : List ℕ) → IsUtf8 back → next ≡ slice_index back 0 →
    ((last == 10 || last == 13) && not (last == 13 && next == 10)) ≡ true → ends_line last (chars back) ≡ true
ends_line-bytes last next back u is h =
    let parts = and_parts (last == 10 || last == 13) (not (last == 13 && next == 10)) h in
    let apart : (last == 13 && next == 10) ≡ false = by_not (last == 13 && next == 10) parts.1 in
    let alone : (last == 13 && slice_index (chars back) 0 == 10) ≡ false = elim (and_cases (last == 13) (next == 10) apart) [
      | inl other ↦ rw other refl
      | inr first ↦ by_second (last == 13) (slice_index (chars back) 0 == 10) (first_char back u (ap (λ n. n == 10) (sym is) ∙ first))
    ] in
    rw (parts.0, alone) refl where
      by_not : (b : Bool) → not b ≡ true → b ≡ false
      by_not true e = absurd (true≢false (sym e))
      by_not false e = refl

      by_second : (a b : Bool) → b ≡ false → (a && b) ≡ false
      by_second true b e = e
      by_second false b e = refl

-- a line begins between two texts where the last byte of the first ends one
pub parted-bytes : (front back : List ℕ) (last next : ℕ) → IsUtf8 front → IsUtf8 back → 0 < length front →
    last ≡ get_or front (length front - 1) 0 → next ≡ slice_index back 0 →
    ((last == 10 || last == 13) && not (last == 13 && next == 10)) ≡ true → parted (chars front) (chars back) ≡ true
parted-bytes front back last next u v some is_last is_next h =
    let small : last < 128 = end_is_ascii last next h in
    let n : ℕ = length front - 1 in
    let before : IsUtf8 (take n front) = IsUtf8-take front n u (IsCharBoundary-before_ascii front n (omega (arith, some)) (omega (arith, is_last, small))) in
    let tail : IsUtf8 (last ∷ []) =
    subst IsUtf8 (drop_more front n 0 (omega (arith, some)) ∙ ap (λ ys. get_or front n 0 ∷ ys) (drop_all (n + 1) front (omega (arith, some))) ∙ ap (λ x. x ∷ []) (sym is_last))
    (IsUtf8-drop front n u (IsCharBoundary-before_ascii front n (omega (arith, some)) (omega (arith, is_last, small)))) in
    let spelled : chars front ≡ chars (take n front) ++ last ∷ [] =
    ap chars (last_of front last some is_last)
    ∙ chars-append (take n front) (last ∷ []) before
    ∙ ap (λ ys. chars (take n front) ++ ys) (chars-ascii last [] small tail ∙ ap (λ ys. last ∷ ys) chars-nil) in
    ap (λ xs. parted xs (chars back)) spelled
    ∙ parted-last (chars (take n front)) last (chars back)
    ∙ ends_line-bytes last next back v is_next h

-- ---- forward

module _ (back rest : List ℕ) (line : ℕ) (u : IsUtf8 back) (v : IsUtf8 rest) (h : whole_lines (chars rest) ≡ drop line (whole_lines (chars back))) where
  split_bytes : back ≡ encode_utf8_all (concat (take line (whole_lines (chars back)))) ++ rest
  split_bytes =
      sym (encodes-chars back u)
      ∙ ap encode_utf8_all (split_at_line (chars back) (chars rest) line (record { is = h }))
      ∙ encodes-append (concat (take line (whole_lines (chars back)))) (chars rest)
      ∙ ap (λ ys. encode_utf8_all (concat (take line (whole_lines (chars back)))) ++ ys) (encodes-chars rest v)

  over_size : length back - length rest ≡ length (encode_utf8_all (concat (take line (whole_lines (chars back)))))
  over_size = omega (arith, ap length split_bytes, length-append (encode_utf8_all (concat (take line (whole_lines (chars back))))) rest)

  pub over_cut : IsCharBoundary back (length back - length rest)
  over_cut =
      subst (IsCharBoundary back) (sym over_size)
      (IsCharBoundary-at_seam back (encode_utf8_all (concat (take line (whole_lines (chars back))))) rest split_bytes v)

  pub over_rest : drop (length back - length rest) back ≡ rest
  over_rest =
      ap (λ k. drop k back) over_size
      ∙ ap (drop (length (encode_utf8_all (concat (take line (whole_lines (chars back))))))) split_bytes
      ∙ drop-append_seam (encode_utf8_all (concat (take line (whole_lines (chars back))))) rest

same_bytes-ahead : (front back : List ℕ) (count : ℕ) → front ++ take count back ++ drop count back ≡ front ++ back
same_bytes-ahead front back count =
    append_assoc front (take count back) (drop count back) ∙ ap (λ ys. front ++ ys) (take-append-drop count back)

pub ahead_bytes : (front back rest : List ℕ) (count line wanted : ℕ) → line ≤ wanted →
    whole_lines (chars back) ≡ drop line (whole_lines (chars (front ++ back))) → whole_lines (chars rest) ≡ drop (wanted - line) (whole_lines (chars back)) →
    drop count back ≡ rest →
    whole_lines (chars (drop count back)) ≡ drop wanted (whole_lines (chars (front ++ take count back ++ drop count back)))
ahead_bytes front back rest count line wanted behind h g is =
    let all : line + (wanted - line) ≡ wanted = omega (arith, behind) in
    ap (λ ys. whole_lines (chars ys)) is ∙ g ∙ ap (drop (wanted - line)) h
    ∙ drop-drop (wanted - line) line (whole_lines (chars (front ++ back)))
    ∙ ap (λ k. drop k (whole_lines (chars (front ++ back)))) all
    ∙ ap (λ ys. drop wanted (whole_lines (chars ys))) (sym (same_bytes-ahead front back count))

-- ---- back

pub same_bytes-back : (front back : List ℕ) (at : ℕ) → take at front ++ (drop at front ++ back) ≡ front ++ back
same_bytes-back front back at =
    sym (append_assoc (take at front) (drop at front) back) ∙ ap (λ ys. ys ++ back) (take-append-drop at front)

pub size-back : (front back : List ℕ) (at : ℕ) → length (take at front) + length (drop at front ++ back) ≡ length front + length back
size-back front back at =
    sym (length-append (take at front) (drop at front ++ back)) ∙ ap length (same_bytes-back front back at) ∙ length-append front back

-- so many lines of the second part are what was moved
pub back_bytes : (front back : List ℕ) (at line lines : ℕ) → IsUtf8 front → IsUtf8 back → IsCharBoundary front at →
    whole_lines (chars back) ≡ drop line (whole_lines (chars (front ++ back))) → parted (chars (take at front)) (chars (drop at front ++ back)) ≡ true →
    whole_lines (chars back) ≡ drop lines (whole_lines (chars (drop at front ++ back))) →
    whole_lines (chars (drop at front ++ back)) ≡ drop (line - lines) (whole_lines (chars (take at front ++ (drop at front ++ back))))
back_bytes front back at line lines u v cut h g behind =
    let before : IsUtf8 (take at front) = IsUtf8-take front at u cut in
    let moved : IsUtf8 (drop at front) = IsUtf8-drop front at u cut in
    let first : List ℕ = chars (take at front) in
    let over : List ℕ = chars (drop at front) in
    let parts : chars front ≡ first ++ over = ap chars (sym (take-append-drop at front)) ∙ chars-append (take at front) (drop at front) before in
    let whole : chars (front ++ back) ≡ (first ++ over) ++ chars back = chars-append front back u ∙ ap (λ ys. ys ++ chars back) parts in
    let rest : chars (drop at front ++ back) ≡ over ++ chars back = chars-append (drop at front) back moved in
    let all : chars (take at front ++ (drop at front ++ back)) ≡ first ++ (over ++ chars back) =
    chars-append (take at front) (drop at front ++ back) before ∙ ap (λ ys. first ++ ys) rest in
    let count : lines ≡ line_ends (length over) (over ++ chars back) = begins-count lines over (chars back) (behind ∙ ap (λ t. drop lines (whole_lines t)) rest) in
    ap whole_lines rest
    ∙ BeginsLine-back line lines first over (chars back) (h ∙ ap (λ t. drop line (whole_lines t)) whole) (ap (parted first) (sym rest) ∙ g) count
    ∙ ap (λ t. drop (line - lines) (whole_lines t)) (sym all)

-- ---- where the second part was changed

pub stays_before : (front back earlier : List ℕ) (line : ℕ) → IsUtf8 front → parted (chars front) (chars back) ≡ true → BeginsLine line (chars front) earlier →
    whole_lines (chars back) ≡ drop line (whole_lines (chars (front ++ back)))
stays_before front back earlier line u h g =
    BeginsLine-other line (chars front) earlier (chars back) g h ∙ ap (λ t. drop line (whole_lines t)) (sym (chars-append front back u))

-- nothing parts what follows
pub parted-nothing : (front back : List ℕ) → length front ≡ 0 → parted (chars front) (chars back) ≡ true
parted-nothing [] back h = ap (λ xs. parted xs (chars back)) chars-nil
parted-nothing (b ∷ front) back h = absurd (omega (arith, h))

-- ---- a line of the first part

pub within_bytes : (front back : List ℕ) (at line wanted : ℕ) → IsUtf8 front → IsUtf8 back → IsCharBoundary front at →
    whole_lines (chars back) ≡ drop line (whole_lines (chars (front ++ back))) → whole_lines (chars (drop at front)) ≡ drop wanted (whole_lines (chars front)) →
    whole_lines (chars (drop at front ++ back)) ≡ drop wanted (whole_lines (chars (take at front ++ (drop at front ++ back))))
within_bytes front back at line wanted u v cut h g =
    let before : IsUtf8 (take at front) = IsUtf8-take front at u cut in
    let behind : IsUtf8 (drop at front) = IsUtf8-drop front at u cut in
    let first : List ℕ = chars (take at front) in
    let over : List ℕ = chars (drop at front) in
    let parts : chars front ≡ first ++ over = ap chars (sym (take-append-drop at front)) ∙ chars-append (take at front) (drop at front) before in
    let whole : chars (front ++ back) ≡ (first ++ over) ++ chars back = chars-append front back u ∙ ap (λ ys. ys ++ chars back) parts in
    let rest : chars (drop at front ++ back) ≡ over ++ chars back = chars-append (drop at front) back behind in
    let all : chars (take at front ++ (drop at front ++ back)) ≡ first ++ (over ++ chars back) =
    chars-append (take at front) (drop at front ++ back) before ∙ ap (λ ys. first ++ ys) rest in
    ap whole_lines rest
    ∙ BeginsLine-within wanted line first over (chars back) (g ∙ ap (λ t. drop wanted (whole_lines t)) parts) (h ∙ ap (λ t. drop line (whole_lines t)) whole)
    ∙ ap (λ t. drop wanted (whole_lines t)) (sym all)
