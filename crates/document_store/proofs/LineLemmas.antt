-- The lines of a text with their ends, from its front.
use Rattle.std.proofs.Common.{◌≡◌, ◌∙◌, ℕ, ◌<◌, true, false, cond, List, [], ◌∷◌, ◌++◌, take, drop, get_or, refl, sym, inl, inr, ap, arith, append-nil, take-append-drop, map, get_or-drop, add-zero}
use Rattle.std.specs.Prelude.{◌==◌, slice_index, chars, IsUtf8, position, Some, None}
use Rattle.std.specs.List.{AllByRecursion, onto_first, concat}
use Rattle.std.proofs.lemmas.Bool.{eqb-true, true≢false, both_ways, or_parts, or_cases, and_parts, and_cases, cases_Bool}
use Rattle.std.proofs.lemmas.Str.{IsUtf8-take, IsUtf8-drop, chars-append}
use Rattle.hl_base.specs.Texts.{lines, begins_crlf}
use Rattle.hl_base.specs.Remaining as remaining
use Rattle.hl_base.proofs.LineLaws.{IsWithin, chars-ascii, utf8_tail, first_char, within_text, within_before, within_all, cut_before_end, found_end, lines-nil, lines-cons, lines-lf, lines-cr, lines-crlf, lines-one, lines-first, lines-behind_crlf, lines-behind_end}
use Rattle.document_store.specs.Positions.{ends_line, whole_lines, line_of}

-- a character that ends no line is the first of its line
pub whole_lines-cons : (c : ℕ) (cs : List ℕ) → IsWithin c → whole_lines (c ∷ cs) ≡ onto_first c (whole_lines cs)
whole_lines-cons c cs h = let apart = or_parts (c == 10) (c == 13) h in rw (apart.1, apart.0) refl

pub whole_lines-lf : (cs : List ℕ) → whole_lines (10 ∷ cs) ≡ (10 ∷ []) ∷ whole_lines cs
whole_lines-lf cs = refl

pub whole_lines-cr : (cs : List ℕ) → (slice_index cs 0 == 10) ≡ false → whole_lines (13 ∷ cs) ≡ (13 ∷ []) ∷ whole_lines cs
whole_lines-cr cs h = rw h refl

pub whole_lines-crlf : (cs : List ℕ) → whole_lines (13 ∷ 10 ∷ cs) ≡ (13 ∷ 10 ∷ []) ∷ whole_lines cs
whole_lines-crlf cs = refl

-- characters within a line are put before the first line of what follows
pub whole_lines-append : (xs ys line : List ℕ) (rest : List (List ℕ)) → AllByRecursion IsWithin xs → whole_lines ys ≡ line ∷ rest → whole_lines (xs ++ ys) ≡ (xs ++ line) ∷ rest
whole_lines-append [] ys line rest h e = e
whole_lines-append (x ∷ xs) ys line rest h e = whole_lines-cons x (xs ++ ys) h.0 ∙ ap (onto_first x) (whole_lines-append xs ys line rest h.1 e)

-- the lines with their ends, joined, are the text
concat-onto_first : (c : ℕ) (xss : List (List ℕ)) → concat (onto_first c xss) ≡ c ∷ concat xss
concat-onto_first c [] = refl
concat-onto_first c (xs ∷ xss) = refl

pub concat-whole_lines : (text : List ℕ) → concat (whole_lines text) ≡ text
concat-whole_lines [] = refl
concat-whole_lines (c ∷ rest) = elim (ends_line c rest) as (λ b. concat (cond b ((c ∷ []) ∷ whole_lines rest) (onto_first c (whole_lines rest))) ≡ c ∷ rest) [
  | true ↦ ap (λ xs. c ∷ xs) (concat-whole_lines rest)
  | false ↦ concat-onto_first c (whole_lines rest) ∙ ap (λ xs. c ∷ xs) (concat-whole_lines rest)
]

-- bytes that begin with CR LF
pub whole_lines-behind_crlf : (bs : List ℕ) → IsUtf8 bs → begins_crlf (slice_index bs 0) (drop 1 bs) ≡ true → whole_lines (chars (drop 2 bs)) ≡ drop 1 (whole_lines (chars bs))
whole_lines-behind_crlf [] u h = absurd (true≢false (sym h))
whole_lines-behind_crlf (b ∷ []) u h = absurd (true≢false (sym (and_parts (b == 13) false h).1))
whole_lines-behind_crlf (b ∷ d ∷ rest) u h =
    let is_cr : b ≡ 13 = eqb-true b 13 (and_parts (b == 13) (d == 10) h).0 in
    let is_lf : d ≡ 10 = eqb-true d 10 (and_parts (b == 13) (d == 10) h).1 in
    let small_b : b < 128 = omega arith in
    let small_d : d < 128 = omega arith in
    let spelled : chars (b ∷ d ∷ rest) ≡ b ∷ d ∷ chars rest = chars-ascii b (d ∷ rest) small_b u ∙ ap (λ cs. b ∷ cs) (chars-ascii d rest small_d (utf8_tail b (d ∷ rest) small_b u)) in
    sym (ap (λ cs. drop 1 (whole_lines cs)) spelled ∙ rw (is_cr, is_lf) (ap (drop 1) (whole_lines-crlf (chars rest))))

-- bytes that begin with another line end
pub whole_lines-behind_end : (bs : List ℕ) → IsUtf8 bs → remaining.ends_line (slice_index bs 0) ≡ true → begins_crlf (slice_index bs 0) (drop 1 bs) ≡ false → whole_lines (chars (drop 1 bs)) ≡ drop 1 (whole_lines (chars bs))
whole_lines-behind_end [] u h alone = absurd (true≢false (sym h))
whole_lines-behind_end (b ∷ rest) u h alone = elim (or_cases (b == 10) (b == 13) h) [
  | inl lf ↦
      let is_lf : b ≡ 10 = eqb-true b 10 lf in
      let small : b < 128 = omega arith in
      sym (ap (λ cs. drop 1 (whole_lines cs)) (chars-ascii b rest small u) ∙ rw is_lf (ap (drop 1) (whole_lines-lf (chars rest))))
  | inr cr ↦
      let is_cr : b ≡ 13 = eqb-true b 13 cr in
      let small : b < 128 = omega arith in
      sym (ap (λ cs. drop 1 (whole_lines cs)) (chars-ascii b rest small u) ∙ rw is_cr (ap (drop 1) (whole_lines-cr (chars rest) (elim (and_cases (b == 13) (slice_index rest 0 == 10) alone) [
        | inl other ↦ absurd (both_ways _ other cr)
        | inr apart ↦ first_char rest (utf8_tail b rest small u) apart
      ]))))
]

-- a text without a line end is one line
pub whole_lines-one : (bs : List ℕ) → IsUtf8 bs → position remaining.ends_line bs ≡ None → whole_lines (chars bs) ≡ chars bs ∷ []
whole_lines-one bs u e = rw append-nil at (whole_lines-append (chars bs) [] [] [] (within_text bs u (within_all bs e)) refl)

-- what stands before the first line end is of the first line
pub whole_lines-first : (bs : List ℕ) (i : ℕ) (line : List ℕ) (rest : List (List ℕ)) → IsUtf8 bs → position remaining.ends_line bs ≡ Some i → whole_lines (chars (drop i bs)) ≡ line ∷ rest → whole_lines (chars bs) ≡ (chars (take i bs) ++ line) ∷ rest
whole_lines-first bs i line rest u e h =
    let utf8 : IsUtf8 (take i bs) = IsUtf8-take bs i u (cut_before_end bs i e) in
    ap (λ xs. whole_lines (chars xs)) (sym (take-append-drop i bs))
    ∙ ap whole_lines (chars-append (take i bs) (drop i bs) utf8)
    ∙ whole_lines-append (chars (take i bs)) (chars (drop i bs)) line rest (within_text _ utf8 (within_before bs i e)) h

-- a whole line without its end: what stands before its first LF or CR
abbrev pub without_end : List ℕ → List ℕ
without_end [] = []
without_end (c ∷ rest) = cond (remaining.ends_line c) [] (c ∷ without_end rest)

map-onto_first : (c : ℕ) (xss : List (List ℕ)) → IsWithin c → map without_end (onto_first c xss) ≡ onto_first c (map without_end xss)
map-onto_first c [] h = rw h refl
map-onto_first c (xs ∷ xss) h = rw h refl

-- the lines are the whole lines without their ends
pub lines-whole : (text : List ℕ) → lines text ≡ map without_end (whole_lines text)
lines-whole [] = lines-nil
lines-whole (c ∷ []) = elim (cases_Bool (remaining.ends_line c)) [
  | inl ends ↦ elim (or_cases (c == 10) (c == 13) ends) [
    | inl lf ↦ let is_lf : c ≡ 10 = eqb-true c 10 lf in rw is_lf (lines-lf [] ∙ ap (λ xss. [] ∷ xss) lines-nil)
    | inr cr ↦ let is_cr : c ≡ 13 = eqb-true c 13 cr in rw is_cr (lines-cr [] refl ∙ ap (λ xss. [] ∷ xss) lines-nil)
  ]
  | inr within ↦ lines-cons c [] within ∙ ap (onto_first c) lines-nil ∙ sym (ap (map without_end) (whole_lines-cons c [] within) ∙ map-onto_first c (whole_lines []) within)
]
lines-whole (c ∷ d ∷ rest) = elim (cases_Bool (remaining.ends_line c)) [
  | inl ends ↦ elim (or_cases (c == 10) (c == 13) ends) [
    | inl lf ↦ let is_lf : c ≡ 10 = eqb-true c 10 lf in rw is_lf (lines-lf (d ∷ rest) ∙ ap (λ xss. [] ∷ xss) (lines-whole (d ∷ rest)))
    | inr cr ↦ let is_cr : c ≡ 13 = eqb-true c 13 cr in elim (cases_Bool (d == 10)) [
      | inl next ↦ let is_lf : d ≡ 10 = eqb-true d 10 next in rw (is_cr, is_lf) (lines-crlf rest ∙ ap (λ xss. [] ∷ xss) (lines-whole rest))
      | inr apart ↦ rw is_cr (lines-cr (d ∷ rest) apart ∙ ap (λ xss. [] ∷ xss) (lines-whole (d ∷ rest)) ∙ sym (ap (map without_end) (whole_lines-cr (d ∷ rest) apart)))
    ]
  ]
  | inr within ↦ lines-cons c (d ∷ rest) within ∙ ap (onto_first c) (lines-whole (d ∷ rest)) ∙ sym (ap (map without_end) (whole_lines-cons c (d ∷ rest) within) ∙ map-onto_first c (whole_lines (d ∷ rest)) within)
]

-- a text has a first line
pub record IsCons (lines : List (List ℕ)) : Type 0 where
  pub first : List ℕ
  pub others : List (List ℕ)
  pub is : lines ≡ first ∷ others

IsCons-onto_first : (c : ℕ) (xss : List (List ℕ)) → IsCons (onto_first c xss)
IsCons-onto_first c [] = record { first = _; others = _; is = refl }
IsCons-onto_first c (xs ∷ xss) = record { first = _; others = _; is = refl }

pub whole_lines-some : (text : List ℕ) → IsCons (whole_lines text)
whole_lines-some [] = record { first = _; others = _; is = refl }
whole_lines-some (c ∷ rest) = elim (ends_line c rest) as (λ b. IsCons (cond b ((c ∷ []) ∷ whole_lines rest) (onto_first c (whole_lines rest)))) [
  | true ↦ record { first = _; others = _; is = refl }
  | false ↦ IsCons-onto_first c (whole_lines rest)
]

-- what stands in front of the first line end changes nothing behind it
pub whole_lines-behind_first : (bs : List ℕ) (i : ℕ) → IsUtf8 bs → position remaining.ends_line bs ≡ Some i → drop 1 (whole_lines (chars (drop i bs))) ≡ drop 1 (whole_lines (chars bs))
whole_lines-behind_first bs i u e =
    let some = whole_lines-some (chars (drop i bs)) in
    ap (drop 1) some.is ∙ sym (ap (drop 1) (whole_lines-first bs i some.first some.others u e some.is))

-- what stands in front of the first line end is the first line
pub line_of-first : (bs : List ℕ) (i : ℕ) → IsUtf8 bs → position remaining.ends_line bs ≡ Some i → chars (take i bs) ≡ line_of (chars bs) 0
line_of-first bs i u e =
    let rest_utf8 : IsUtf8 (drop i bs) = IsUtf8-drop bs i u (cut_before_end bs i e) in
    let front : slice_index (drop i bs) 0 ≡ slice_index bs i = rw (get_or-drop i bs 0 0, add-zero) refl in
    let ends : remaining.ends_line (slice_index (drop i bs) 0) ≡ true = ap remaining.ends_line front ∙ (found_end bs i e).1 in
    let first : (rest : List (List ℕ)) → lines (chars (drop i bs)) ≡ [] ∷ rest → chars (take i bs) ≡ line_of (chars bs) 0 =
    λ rest h. sym (ap (λ xss. get_or xss 0 []) (lines-first bs i rest u e h)) in
    elim (cases_Bool (begins_crlf (slice_index (drop i bs) 0) (drop 1 (drop i bs)))) [
      | inl crlf ↦ first _ (lines-behind_crlf (drop i bs) rest_utf8 crlf)
      | inr alone ↦ first _ (lines-behind_end (drop i bs) rest_utf8 ends alone)
    ]

pub line_of-one : (bs : List ℕ) → IsUtf8 bs → position remaining.ends_line bs ≡ None → chars bs ≡ line_of (chars bs) 0
line_of-one bs u e = sym (ap (λ xss. get_or xss 0 []) (lines-one bs u e))
