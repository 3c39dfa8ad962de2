-- What stands in a text from a line on.
use Rattle.std.proofs.Common.{◌≡◌, ◌∙◌, ℕ, zero, suc, ◌+◌, ◌<◌, true, false, cond, List, [], ◌∷◌, ◌++◌, length, take, drop, get_or, refl, sym, inl, inr, ap, subst, arith, map, get_or-drop, length-drop, add-zero, take-append-drop, append-nil, append_assoc, length-append}
use Rattle.std.proofs.Math.Seq.{drop-nil}
use Rattle.std.specs.Prelude.{◌==◌}
use Rattle.std.specs.List.{onto_first, concat}
use Rattle.std.proofs.lemmas.Bool.{eqb-true, cases_Bool, or_cases}
use Rattle.std.proofs.lemmas.List.{drop_more, get_or-map, drop-drop, drop_all, length-map, drop-map}
use Rattle.hl_base.specs.Texts.{lines}
use Rattle.hl_base.specs.Remaining as remaining
use Rattle.hl_base.proofs.LineLaws.{IsWithin}
use Rattle.document_store.specs.Positions.{whole_lines, line_of, last_line, line_start}
use Rattle.document_store.proofs.LineLemmas.{IsCons, without_end, lines-whole, whole_lines-some, whole_lines-cons, whole_lines-cr, concat-whole_lines}

-- a text is what stands in another from a line on
pub record IsFrom (text : List ℕ) (line : ℕ) (rest : List ℕ) : Type 0 where
  pub is : whole_lines rest ≡ drop line (whole_lines text)

-- what stands behind its first line end stands from the next line on
pub IsFrom-next : (text rest next : List ℕ) (line : ℕ) → IsFrom text line rest → whole_lines next ≡ drop 1 (whole_lines rest) → IsFrom text (line + 1) next
IsFrom-next text rest next line from h = record { is = h ∙ ap (drop 1) from.is ∙ drop-drop 1 line (whole_lines text) }

pub length-lines_whole : (text : List ℕ) → length (lines text) ≡ length (whole_lines text)
length-lines_whole text = ap length (lines-whole text) ∙ length-map (whole_lines text) without_end

-- a line from which something stands is there
pub IsFrom-within : (text rest : List ℕ) (line : ℕ) → IsFrom text line rest → line < length (lines text)
IsFrom-within text rest line from =
    let some = whole_lines-some rest in
    let e : length (drop line (whole_lines text)) ≡ length (some.first ∷ some.others) = ap length (sym from.is ∙ some.is) in
    omega (arith, e, length-drop line (whole_lines text), length-lines_whole text)

-- where its first line has no end, it is the last
pub IsFrom-last : (text rest : List ℕ) (line : ℕ) → IsFrom text line rest → [] ≡ drop 1 (whole_lines rest) → length (lines text) ≡ line + 1
IsFrom-last text rest line from h =
    let e : 0 ≡ length (drop (line + 1) (whole_lines text)) = ap length (h ∙ ap (drop 1) from.is ∙ drop-drop 1 line (whole_lines text)) in
    omega (arith, e, length-drop (line + 1) (whole_lines text), length-lines_whole text, IsFrom-within text rest line from)

-- no line stands behind the last
pub drop-past_last : (text rest : List ℕ) (line past : ℕ) → IsFrom text line rest → [] ≡ drop 1 (whole_lines rest) → line < past → [] ≡ drop past (whole_lines text)
drop-past_last text rest line past from h behind =
    sym (drop_all past (whole_lines text) (omega (arith, IsFrom-last text rest line from h, length-lines_whole text)))

-- its first line is the text's line
pub line_of-from : (text rest : List ℕ) (line : ℕ) → IsFrom text line rest → line_of rest 0 ≡ line_of text line
line_of-from text rest line from =
    ap (λ xss. get_or xss 0 []) (lines-whole rest ∙ ap (map without_end) from.is ∙ sym (drop-map without_end line (whole_lines text)) ∙ ap (drop line) (sym (lines-whole text)))
    ∙ get_or-drop line (lines text) 0 [] ∙ rw add-zero refl

nil_not_one : (m : ℕ) (x : List ℕ) → drop m [] ≡ x ∷ [] → ⊥
nil_not_one m x h = let e : [] ≡ x ∷ [] = sym (drop-nil m) ∙ h in cc

-- the last of some lines has no end
pub IsBareLast : List (List ℕ) → Type 0
IsBareLast xss = (n : ℕ) (x : List ℕ) → drop n xss ≡ x ∷ [] → without_end x ≡ x

cons_not_nil : (x : List ℕ) (xss : List (List ℕ)) → xss ≡ [] → IsCons xss → ⊥
cons_not_nil x xss nil some = let e : [] ≡ some.first ∷ some.others = sym nil ∙ some.is in cc

bare-cons : (y : List ℕ) (xss : List (List ℕ)) → IsCons xss → IsBareLast xss → IsBareLast (y ∷ xss)
unfolding IsBareLast
bare-cons y xss some bare zero x h = absurd (cons_not_nil y xss (ap (drop 1) h) some)
bare-cons y xss some bare (suc m) x h = bare m x h

bare-onto : (c : ℕ) (f : List ℕ) (others : List (List ℕ)) → IsWithin c → IsBareLast (f ∷ others) → IsBareLast ((c ∷ f) ∷ others)
unfolding IsBareLast
bare-onto c f others within bare zero x h =
    let first : c ∷ f ≡ x = cc in
    let alone : others ≡ [] = ap (drop 1) h in
    let kept : without_end f ≡ f = bare 0 f (ap (λ o. f ∷ o) alone) in
    subst (λ (xs : List ℕ). without_end xs ≡ xs) first (rw within (ap (λ xs. c ∷ xs) kept))
bare-onto c f others within bare (suc m) x h = bare (suc m) x h

bare-within : (c : ℕ) (rest : List ℕ) → IsWithin c → IsBareLast (whole_lines rest) → IsBareLast (whole_lines (c ∷ rest))
bare-within c rest within bare =
    let some = whole_lines-some rest in
    subst IsBareLast (sym (whole_lines-cons c rest within ∙ ap (onto_first c) some.is)) (bare-onto c some.first some.others within (subst IsBareLast some.is bare))

bare-nil : IsBareLast ([] ∷ [])
unfolding IsBareLast
bare-nil zero x h = let e : [] ≡ x = cc in subst (λ (xs : List ℕ). without_end xs ≡ xs) e refl
bare-nil (suc m) x h = absurd (nil_not_one m x h)

pub last_is_bare : (text : List ℕ) → IsBareLast (whole_lines text)
last_is_bare [] = bare-nil
last_is_bare (c ∷ []) = elim (cases_Bool (remaining.ends_line c)) [
  | inl ends ↦ elim (or_cases (c == 10) (c == 13) ends) [
    | inl lf ↦ let is_lf : c ≡ 10 = eqb-true c 10 lf in rw is_lf (bare-cons (10 ∷ []) ([] ∷ []) (whole_lines-some []) bare-nil)
    | inr cr ↦ let is_cr : c ≡ 13 = eqb-true c 13 cr in rw is_cr (bare-cons (13 ∷ []) ([] ∷ []) (whole_lines-some []) bare-nil)
  ]
  | inr within ↦ bare-within c [] within bare-nil
]
last_is_bare (c ∷ d ∷ rest) = elim (cases_Bool (remaining.ends_line c)) [
  | inl ends ↦ elim (or_cases (c == 10) (c == 13) ends) [
    | inl lf ↦ let is_lf : c ≡ 10 = eqb-true c 10 lf in rw is_lf (bare-cons (10 ∷ []) (whole_lines (d ∷ rest)) (whole_lines-some (d ∷ rest)) (last_is_bare (d ∷ rest)))
    | inr cr ↦ let is_cr : c ≡ 13 = eqb-true c 13 cr in elim (cases_Bool (d == 10)) [
      | inl next ↦ let is_lf : d ≡ 10 = eqb-true d 10 next in rw (is_cr, is_lf) (bare-cons (13 ∷ 10 ∷ []) (whole_lines rest) (whole_lines-some rest) (last_is_bare rest))
      | inr apart ↦ rw is_cr (subst IsBareLast (sym (whole_lines-cr (d ∷ rest) apart)) (bare-cons (13 ∷ []) (whole_lines (d ∷ rest)) (whole_lines-some (d ∷ rest)) (last_is_bare (d ∷ rest))))
    ]
  ]
  | inr within ↦ bare-within c (d ∷ rest) within (last_is_bare (d ∷ rest))
]

concat-append : (xss yss : List (List ℕ)) → concat (xss ++ yss) ≡ concat xss ++ concat yss
concat-append [] yss = refl
concat-append (x ∷ xss) yss = ap (λ xs. x ++ xs) (concat-append xss yss) ∙ sym (append_assoc x (concat xss) (concat yss))

concat-append_one : (xss : List (List ℕ)) (x : List ℕ) → concat (xss ++ x ∷ []) ≡ concat xss ++ x
concat-append_one [] x = append-nil x
concat-append_one (y ∷ xss) x = ap (λ xs. y ++ xs) (concat-append_one xss x) ∙ sym (append_assoc y (concat xss) x)

-- a text is what stands before its last line, and that line
pub end_place : (text : List ℕ) → line_start text (last_line text) + length (line_of text (last_line text)) ≡ length text
unfolding IsBareLast
end_place text =
    let some = whole_lines-some text in
    let positive : length (whole_lines text) ≡ suc (length some.others) = ap length some.is in
    let count : length (lines text) ≡ length (whole_lines text) = length-lines_whole text in
    let n : ℕ = last_line text in
    let within : n < length (whole_lines text) = omega (arith, positive, count) in
    let whole : whole_lines text ≡ take n (whole_lines text) ++ drop n (whole_lines text) = sym (take-append-drop n (whole_lines text)) in
    let tail : drop n (whole_lines text) ≡ get_or (whole_lines text) n [] ∷ [] =
    drop_more (whole_lines text) n [] within ∙ ap (λ xs. get_or (whole_lines text) n [] ∷ xs) (drop_all (n + 1) (whole_lines text) (omega (arith, count, positive))) in
    let line : line_of text n ≡ get_or (whole_lines text) n [] =
    ap (λ xss. get_or xss n []) (lines-whole text) ∙ get_or-map without_end (whole_lines text) n [] [] within ∙ last_is_bare text n _ tail in
    let joined : concat (take n (whole_lines text)) ++ get_or (whole_lines text) n [] ≡ text =
    sym (concat-append_one (take n (whole_lines text)) (get_or (whole_lines text) n []))
    ∙ ap concat (ap (λ xs. take n (whole_lines text) ++ xs) (sym tail) ∙ sym whole) ∙ concat-whole_lines text in
    ap (λ xs. length (concat (take n (whole_lines text))) + length xs) line
    ∙ sym (length-append (concat (take n (whole_lines text))) (get_or (whole_lines text) n []))
    ∙ ap length joined

-- a whole line begins with the line
pub record BeginsWith (text front : List ℕ) : Type 0 where
  pub others : List ℕ
  pub is : text ≡ front ++ others

pub BeginsWith-without_end : (line : List ℕ) → BeginsWith line (without_end line)
BeginsWith-without_end [] = record { others = []; is = refl }
BeginsWith-without_end (c ∷ rest) = let later = BeginsWith-without_end rest in elim (remaining.ends_line c) as (λ b. BeginsWith (c ∷ rest) (cond b [] (c ∷ without_end rest))) [
  | true ↦ record { others = c ∷ rest; is = refl }
  | false ↦ record { others = later.others; is = ap (λ xs. c ∷ xs) later.is }
]

-- a text begins with its first line
pub begins_with_line : (text : List ℕ) → BeginsWith text (line_of text 0)
begins_with_line text =
    let some = whole_lines-some text in
    let front = BeginsWith-without_end some.first in
    let line : line_of text 0 ≡ without_end some.first = ap (λ xss. get_or xss 0 []) (lines-whole text ∙ ap (map without_end) some.is) in
    record {
      others = front.others ++ concat some.others;
      is = sym (concat-whole_lines text) ∙ ap concat some.is ∙ ap (λ xs. xs ++ concat some.others) front.is
          ∙ append_assoc (without_end some.first) front.others (concat some.others)
          ∙ ap (λ xs. xs ++ (front.others ++ concat some.others)) (sym line);
    }

-- a text is what stands before a line, and what stands from it on
pub split_at_line : (text rest : List ℕ) (line : ℕ) → IsFrom text line rest → text ≡ concat (take line (whole_lines text)) ++ rest
split_at_line text rest line from =
    sym (concat-whole_lines text)
    ∙ ap concat (sym (take-append-drop line (whole_lines text)))
    ∙ concat-append (take line (whole_lines text)) (drop line (whole_lines text))
    ∙ ap (λ xs. concat (take line (whole_lines text)) ++ xs) (ap concat (sym from.is) ∙ concat-whole_lines rest)
