-- Texts of printed lines, and a change within one of them.
use Rattle.std.proofs.Common.{◌≡◌, ◌∙◌, ℕ, zero, suc, ◌+◌, ◌-◌, ◌<◌, ◌≤◌, ◌==◌, ◌&&◌, Bool, true, false, List, [], ◌∷◌, ◌++◌, Some, length, take, drop, refl, ap, sym, subst, arith, append_assoc, length-append, inl, inr, if◌then◌else◌}
use Rattle.std.specs.Prelude.{nat_lt, slice_get, encode_utf8_all}
use Rattle.std.specs.List.{list_all, concat, slice_split, onto_first}
use Rattle.std.specs.Str.{IsAscii}
use Rattle.std.proofs.lemmas.Bool.{ltb-true, lt-ltb, le-ltb}
use Rattle.std.proofs.lemmas.Bool.Decides.{eqb_tells, nat_tests}
use Rattle.std.proofs.lemmas.Str.Ascii.{IsAscii-nil, IsAscii-cons}
use Rattle.std.proofs.lemmas.Str.{IsAscii-append}
use Rattle.std.proofs.Math.Numerals.{sub-one}
use Rattle.std.proofs.Math.Seq.{take-append_seam, take-append-add, drop-append_seam, drop-append-add}
use Rattle.hl_base.specs.Texts.{lines, with_line_feeds, unit_width}
use Rattle.hl_base.specs.declared.edit.Position.{Position}
use Rattle.hl_base.specs.declared.edit.Edit.{Edit}
use Rattle.document_store.specs.Positions.{whole_lines, line_start, characters_before, place_of}
use Rattle.document_store.specs.Edits.{edited}
use Rattle.bulk_script.specs.Texts.{text_of}

-- ---- printed characters

-- a character of ASCII that ends no line
abbrev pub is_printed : ℕ → Bool
is_printed c = nat_lt 31 c && nat_lt c 128

abbrev pub IsPrinted : List ℕ → Type 0
IsPrinted line = list_all is_printed line ≡ true

-- lines of these
abbrev pub ArePrinted : List (List ℕ) → Type 0
ArePrinted [] = Unit {0}
ArePrinted (line ∷ lines) = IsPrinted line × ArePrinted lines

pub both_hold : (a b : Bool) → (a && b) ≡ true → (a ≡ true) × (b ≡ true)
both_hold true true e = (refl, refl)
both_hold true false e = (refl, e)
both_hold false b e = let bad : false ≡ true = e in (bad, cc)

both_true : (a b : Bool) → a ≡ true → b ≡ true → (a && b) ≡ true
both_true true b p q = q
both_true false b p q = p

-- within the bounds
above : (c : ℕ) → is_printed c ≡ true → 31 < c
above c p = ltb-true 31 c (both_hold (nat_lt 31 c) (nat_lt c 128) p).0

pub below : (c : ℕ) → is_printed c ≡ true → c < 128
below c p = ltb-true c 128 (both_hold (nat_lt 31 c) (nat_lt c 128) p).1

other : (a b : ℕ) → (a ≡ b → ⊥) → (a == b) ≡ false
other a b apart = elim (eqb_tells a b) [ inl h ↦ absurd (apart h.1) | inr h ↦ h.0 ]

no_line_feed : (c : ℕ) → is_printed c ≡ true → (c == 10) ≡ false
no_line_feed c p = let low = above c p in other c 10 (λ e. let bad : 31 < 10 = subst (λ z. 31 < z) e low in omega arith)

no_return : (c : ℕ) → is_printed c ≡ true → (c == 13) ≡ false
no_return c p = let low = above c p in other c 13 (λ e. let bad : 31 < 13 = subst (λ z. 31 < z) e low in omega arith)

one_wide : (c : ℕ) → is_printed c ≡ true → unit_width c ≡ 1
one_wide c p = let low : c < 65536 = (let l = below c p in omega arith) in rw (lt-ltb c 65536 low) refl

pub IsPrinted-append : (xs ys : List ℕ) → IsPrinted xs → IsPrinted ys → IsPrinted (xs ++ ys)
IsPrinted-append [] ys p q = q
IsPrinted-append (c ∷ xs) ys p q =
    let parts = both_hold (is_printed c) (list_all is_printed xs) p in
    both_true (is_printed c) (list_all is_printed (xs ++ ys)) parts.0 (IsPrinted-append xs ys parts.1 q)

pub IsAscii-from_printed : (xs : List ℕ) → IsPrinted xs → IsAscii xs
IsAscii-from_printed [] p = IsAscii-nil
IsAscii-from_printed (c ∷ xs) p =
    let parts = both_hold (is_printed c) (list_all is_printed xs) p in
    IsAscii-cons c xs (below c parts.0) (IsAscii-from_printed xs parts.1)

-- ---- a line in front

-- it is the first line with its end
pub whole_line_first : (line rest : List ℕ) → IsPrinted line → whole_lines (line ++ 10 ∷ rest) ≡ (line ++ 10 ∷ []) ∷ whole_lines rest
whole_line_first [] rest p = refl
whole_line_first (c ∷ line) rest p =
    let parts = both_hold (is_printed c) (list_all is_printed line) p in
    rw (no_line_feed c parts.0, no_return c parts.0, whole_line_first line rest parts.1) refl

-- and the first without it
split_first : (line rest : List ℕ) → IsPrinted line
    → slice_split (λ c. c == 10) (with_line_feeds (line ++ 10 ∷ rest)) ≡ line ∷ slice_split (λ c. c == 10) (with_line_feeds rest)
split_first [] rest p = refl
split_first (c ∷ line) rest p =
    let parts = both_hold (is_printed c) (list_all is_printed line) p in
    rw (no_return c parts.0, no_line_feed c parts.0, split_first line rest parts.1) refl

pub line_first : (line rest : List ℕ) → IsPrinted line → lines (line ++ 10 ∷ rest) ≡ line ∷ lines rest
unfolding lines
line_first line rest p = split_first line rest p

-- so many units of it are as many characters
pub units_are_characters : (unit : ℕ) (line : List ℕ) → IsPrinted line → unit ≤ length line → characters_before unit line ≡ unit
units_are_characters unit [] p within = omega arith
units_are_characters zero (c ∷ line) p within =
    let parts = both_hold (is_printed c) (list_all is_printed line) p in
    ap (λ w. if nat_lt 0 w then 0 else suc (characters_before (0 - w) line)) (one_wide c parts.0)
units_are_characters (suc unit) (c ∷ line) p within =
    let parts = both_hold (is_printed c) (list_all is_printed line) p in
    let past : nat_lt (suc unit) 1 ≡ false = le-ltb (suc unit) 1 (omega arith) in
    let less : suc unit - 1 ≡ unit = omega arith in
    ap (λ w. if nat_lt (suc unit) w then 0 else suc (characters_before (suc unit - w) line)) (one_wide c parts.0)
    ∙ ap (λ b. if b then 0 else suc (characters_before (suc unit - 1) line)) past
    ∙ ap (λ n. suc (characters_before n line)) less
    ∙ ap suc (units_are_characters unit line parts.1 (omega arith))

-- ---- lines in front

in_front : (line : List ℕ) (lines : List (List ℕ)) (rest : List ℕ) → text_of (line ∷ lines) ++ rest ≡ line ++ 10 ∷ (text_of lines ++ rest)
in_front line lines rest = append_assoc line (10 ∷ text_of lines) rest

-- the line behind them
pub line_behind : (before : List (List ℕ)) (rest : List ℕ) → ArePrinted before → slice_get (lines (text_of before ++ rest)) (length before) ≡ slice_get (lines rest) 0
line_behind [] rest p = refl
line_behind (line ∷ before) rest p =
    ap (λ text. slice_get (lines text) (suc (length before))) (in_front line before rest)
    ∙ ap (λ all. slice_get all (suc (length before))) (line_first line (text_of before ++ rest) p.0)
    ∙ line_behind before rest p.1

-- what stands before it
text_before : (before : List (List ℕ)) (rest : List ℕ) → ArePrinted before → concat (take (length before) (whole_lines (text_of before ++ rest))) ≡ text_of before
text_before [] rest p = refl
text_before (line ∷ before) rest p =
    ap (λ text. concat (take (suc (length before)) (whole_lines text))) (in_front line before rest)
    ∙ ap (λ all. concat (take (suc (length before)) all)) (whole_line_first line (text_of before ++ rest) p.0)
    ∙ ap (λ text. (line ++ 10 ∷ []) ++ text) (text_before before rest p.1)
    ∙ append_assoc line (10 ∷ []) (text_of before)

-- where a column of a line behind others is
pub place_in_line : (before : List (List ℕ)) (line rest : List ℕ) (unit : ℕ) → ArePrinted before → IsPrinted line → unit ≤ length line
    → place_of (text_of before ++ (line ++ 10 ∷ rest)) (record { line = length before; character = unit }) ≡ length (text_of before) + unit
place_in_line before line rest unit p q within =
    let found : slice_get (lines (text_of before ++ (line ++ 10 ∷ rest))) (length before) ≡ Some line =
    line_behind before (line ++ 10 ∷ rest) p ∙ ap (λ all. slice_get all 0) (line_first line rest q) in
    rw (found, text_before before (line ++ 10 ∷ rest) p, units_are_characters unit line q within) refl

-- ---- a change

-- what stands between a front of a line and its end becomes another text
pub line_changed : (before : List (List ℕ)) (front old rest new : List ℕ) → ArePrinted before → IsPrinted (front ++ old)
    → edited (text_of before ++ ((front ++ old) ++ 10 ∷ rest)) (record {
      from = Some (record { line = length before; character = length front });
      to = Some (record { line = length before; character = length (front ++ old) });
      text = new;
    }) ≡ text_of before ++ ((front ++ new) ++ 10 ∷ rest)
line_changed before front old rest new p q =
    let whole : List ℕ = text_of before ++ ((front ++ old) ++ 10 ∷ rest) in
    let short : length front ≤ length (front ++ old) = omega (arith, length-append front old) in
    let start = place_in_line before (front ++ old) rest (length front) p q short in
    let stop = place_in_line before (front ++ old) rest (length (front ++ old)) p q (omega arith) in
    let head : take (length (text_of before) + length front) whole ≡ text_of before ++ front =
    take-append-add (text_of before) ((front ++ old) ++ 10 ∷ rest) (length front)
    ∙ ap (λ z. text_of before ++ take (length front) z) (append_assoc front old (10 ∷ rest))
    ∙ ap (λ z. text_of before ++ z) (take-append_seam front (old ++ 10 ∷ rest)) in
    let tail : drop (length (text_of before) + length (front ++ old)) whole ≡ 10 ∷ rest =
    drop-append-add (text_of before) ((front ++ old) ++ 10 ∷ rest) (length (front ++ old))
    ∙ drop-append_seam (front ++ old) (10 ∷ rest) in
    ap (λ n. take n whole ++ new ++ drop (place_of whole (record { line = length before; character = length (front ++ old) })) whole) start
    ∙ ap (λ n. take (length (text_of before) + length front) whole ++ new ++ drop n whole) stop
    ∙ ap (λ z. z ++ new ++ drop (length (text_of before) + length (front ++ old)) whole) head
    ∙ ap (λ z. (text_of before ++ front) ++ new ++ z) tail
    ∙ ap (λ z. z ++ 10 ∷ rest) (append_assoc (text_of before) front new)
    ∙ append_assoc (text_of before) (front ++ new) (10 ∷ rest)
