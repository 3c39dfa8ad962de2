-- Places of a text in bytes and in characters.
use Rattle.std.proofs.Common.{◌≡◌, ◌∙◌, ℕ, zero, suc, ◌+◌, ◌-◌, ◌*◌, ◌<◌, ◌≤◌, Bool, true, false, cond, List, [], ◌∷◌, ◌++◌, length, take, drop, get_or, refl, sym, inl, inr, ap, arith, map, length-append, length-drop, take-append-drop, append-nil, zero-add, add_assoc}
use Rattle.std.proofs.Math.Seq.{take-nil, drop-nil, take-length, take-append_seam, drop-append_seam}
use Rattle.std.proofs.lemmas.List.{take-append-le, take_more, at_drop_more, at_drop_all, drop-drop}
use Rattle.std.proofs.lemmas.List.Sums.{sum_by-append}
use Rattle.hl_base.proofs.UnitLaws.{units-cons}
use Rattle.hl_base.proofs.LineLaws.{IsWithin, chars-ascii, utf8_tail, lines-cons}
use Rattle.std.proofs.lemmas.Bool.{and_parts, lt-ltb, le-ltb, cases_lt, ltb-false, ltb-true, or_parts, eqb-true, true≢false}
use lib.Utf8.{scalars, scalar}
use Rattle.std.proofs.Math.Nat.{suc-add}
use Rattle.std.proofs.lemmas.Bool.Decides.{nat_tests}
use Rattle.document_store.proofs.LineLemmas.{whole_lines-some, without_end, lines-whole, concat-whole_lines}
use Rattle.std.specs.Prelude.{◌==◌, ◌||◌, ◌&&◌, not, slice_index, nat_lt, min, encode_utf8, encode_utf8_all, chars, IsUtf8, IsCharBoundary, slice_get, Some}
use Rattle.std.specs.List.{concat, onto_first}
use Rattle.std.specs.Char.{len_utf8}
use Rattle.std.proofs.lemmas.Str.{encode_ascii, encodes-chars, encodes-append, IsCharBoundary-at_seam, scalars-chars, chars-encodes, length-encode, length-le-encodes}
use Rattle.hl_base.specs.Texts.{lines, unit_width, units}
use Rattle.std.proofs.lemmas.Option.{slice_get-get_or, slice_get_past, get_or_from_slice_get}
use Rattle.hl_base.specs.declared.edit.Position.{Position}
use Rattle.document_store.specs.Positions.{whole_lines, characters_before, line_of, line_start, last_line, end_of, spot_of, place_of, position_of}
use Rattle.document_store.proofs.FromLemmas.{IsFrom, IsFrom-within, line_of-from, split_at_line, begins_with_line, end_place, length-lines_whole, BeginsWith-without_end}
use Rattle.document_store.specs.Places.{bytes_before, is_plain, ArePlain}
use Rattle.document_store.specs.Edits.{is_after}

-- a text is its first characters and the others, in bytes
pub bytes_split : (bs : List ℕ) (n : ℕ) → IsUtf8 bs → bs ≡ encode_utf8_all (take n (chars bs)) ++ encode_utf8_all (drop n (chars bs))
bytes_split bs n u = sym (encodes-chars bs u) ∙ ap encode_utf8_all (sym (take-append-drop n (chars bs))) ∙ encodes-append (take n (chars bs)) (drop n (chars bs))

-- the bytes before a character are within the text
pub bytes_before-le : (bs : List ℕ) (n : ℕ) → IsUtf8 bs → bytes_before (chars bs) n ≤ length bs
bytes_before-le bs n u =
    let whole : length bs ≡ length (encode_utf8_all (take n (chars bs)) ++ encode_utf8_all (drop n (chars bs))) = ap length (bytes_split bs n u) in
    omega (arith, whole, length-append (encode_utf8_all (take n (chars bs))) (encode_utf8_all (drop n (chars bs))))

-- the first characters are the first bytes, and the others the others
pub take-bytes_before : (bs : List ℕ) (n : ℕ) → IsUtf8 bs → take (bytes_before (chars bs) n) bs ≡ encode_utf8_all (take n (chars bs))
take-bytes_before bs n u = ap (take (bytes_before (chars bs) n)) (bytes_split bs n u) ∙ take-append_seam (encode_utf8_all (take n (chars bs))) (encode_utf8_all (drop n (chars bs)))

pub drop-bytes_before : (bs : List ℕ) (n : ℕ) → IsUtf8 bs → drop (bytes_before (chars bs) n) bs ≡ encode_utf8_all (drop n (chars bs))
drop-bytes_before bs n u = ap (drop (bytes_before (chars bs) n)) (bytes_split bs n u) ∙ drop-append_seam (encode_utf8_all (take n (chars bs))) (encode_utf8_all (drop n (chars bs)))

-- characters within a text of characters
scalars_parts : (xs ys : List ℕ) → scalars (xs ++ ys) ≡ true → (scalars xs ≡ true) × (scalars ys ≡ true)
scalars_parts [] ys h = (refl, h)
scalars_parts (x ∷ xs) ys h =
    let parts = and_parts (scalar x) (scalars (xs ++ ys)) h in
    let rest = scalars_parts xs ys parts.1 in
    (rw (parts.0, rest.0) refl, rest.1)

scalars_cut : (bs : List ℕ) (n : ℕ) → IsUtf8 bs → (scalars (take n (chars bs)) ≡ true) × (scalars (drop n (chars bs)) ≡ true)
scalars_cut bs n u = scalars_parts (take n (chars bs)) (drop n (chars bs)) (ap scalars (take-append-drop n (chars bs)) ∙ scalars-chars bs u)

-- a text may be cut before a character
pub IsCharBoundary-bytes_before : (bs : List ℕ) (n : ℕ) → IsUtf8 bs → IsCharBoundary bs (bytes_before (chars bs) n)
IsCharBoundary-bytes_before bs n u =
    IsCharBoundary-at_seam bs (encode_utf8_all (take n (chars bs))) (encode_utf8_all (drop n (chars bs))) (bytes_split bs n u)
    (drop n (chars bs), ((scalars_cut bs n u).1, refl))

pub chars-take_before : (bs : List ℕ) (n : ℕ) → IsUtf8 bs → chars (take (bytes_before (chars bs) n) bs) ≡ take n (chars bs)
chars-take_before bs n u = ap chars (take-bytes_before bs n u) ∙ chars-encodes (take n (chars bs)) (scalars_cut bs n u).0

pub chars-drop_before : (bs : List ℕ) (n : ℕ) → IsUtf8 bs → chars (drop (bytes_before (chars bs) n) bs) ≡ drop n (chars bs)
chars-drop_before bs n u = ap chars (drop-bytes_before bs n u) ∙ chars-encodes (drop n (chars bs)) (scalars_cut bs n u).1

-- the bytes before a character behind the first part of a text
pub bytes_before-append : (xs ys : List ℕ) (m : ℕ) → bytes_before (xs ++ ys) (length xs + m) ≡ length (encode_utf8_all xs) + bytes_before ys m
bytes_before-append [] ys m = ap (bytes_before ys) (zero-add m) ∙ sym (zero-add (bytes_before ys m))
bytes_before-append (x ∷ xs) ys m =
    let one : suc (length xs) + m ≡ suc (length xs + m) = suc-add (length xs) m in
    rw one
    (length-append (encode_utf8 x) (encode_utf8_all (take (length xs + m) (xs ++ ys)))
    ∙ ap (λ k. length (encode_utf8 x) + k) (bytes_before-append xs ys m)
    ∙ sym (add_assoc (length (encode_utf8 x)) (length (encode_utf8_all xs)) (bytes_before ys m))
    ∙ ap (λ k. k + bytes_before ys m) (sym (length-append (encode_utf8 x) (encode_utf8_all xs))))

-- the bytes before a character of the first part of a text
pub bytes_before-front : (xs ys : List ℕ) (m : ℕ) → m ≤ length xs → bytes_before (xs ++ ys) m ≡ bytes_before xs m
bytes_before-front xs ys m h = ap (λ zs. length (encode_utf8_all zs)) (take-append-le m xs ys h)

pub bytes_before-all : (cs : List ℕ) → bytes_before cs (length cs) ≡ length (encode_utf8_all cs)
bytes_before-all cs = ap (λ zs. length (encode_utf8_all zs)) (take-length cs)

-- the bytes before the next character
pub bytes_before-next : (cs : List ℕ) (n c : ℕ) → (n < length cs) × (c ≡ get_or cs n c) → bytes_before cs (n + 1) ≡ bytes_before cs n + len_utf8 c
bytes_before-next cs n c h =
    ap (λ zs. length (encode_utf8_all zs)) (take_more cs n c h.0 ∙ ap (λ x. take n cs ++ x ∷ []) (sym h.1))
    ∙ ap length (encodes-append (take n cs) (c ∷ []))
    ∙ length-append (encode_utf8_all (take n cs)) (encode_utf8_all (c ∷ []))
    ∙ ap (λ k. bytes_before cs n + k) (ap length (append-nil (encode_utf8 c)) ∙ length-encode c)

-- how many units a character takes
pub unit_width_is : (c w : ℕ) → (c < 65536 → w ≡ 1) → (65536 ≤ c → w ≡ 2) → w ≡ unit_width c
unit_width_is c w narrow wide = elim (cases_lt c 65536) [
  | inl low ↦ rw (lt-ltb c 65536 low) (narrow low)
  | inr high ↦ rw (le-ltb c 65536 high) (wide high)
]

suc-one : (n : ℕ) → suc n ≡ 1 + n
suc-one n = omega arith

one_less : (n : ℕ) → 0 < n → n ≡ suc (n - 1)
one_less n h = omega arith

-- a unit that is reached by the next character
pub characters_before-stop : (unit c : ℕ) (rest : List ℕ) → unit < unit_width c → characters_before unit (c ∷ rest) ≡ 0
characters_before-stop unit c rest h = rw (lt-ltb unit (unit_width c) h) refl

pub characters_before-go : (unit c : ℕ) (rest : List ℕ) → unit_width c ≤ unit → characters_before unit (c ∷ rest) ≡ suc (characters_before (unit - unit_width c) rest)
characters_before-go unit c rest h = rw (le-ltb unit (unit_width c) h) refl

-- the next character of a line lies behind the unit, or before it
pub characters_before-behind : (cs : List ℕ) (n c left : ℕ) → (n < length cs) × (c ≡ get_or cs n c) → left < unit_width c → characters_before left (drop n cs) ≡ 0
characters_before-behind cs n c left h small =
    at_drop_more (characters_before left) cs n c h.0
    ∙ ap (λ x. characters_before left (x ∷ drop (n + 1) cs)) (sym h.1)
    ∙ characters_before-stop left c (drop (n + 1) cs) small

pub characters_before-next : (cs : List ℕ) (n c left : ℕ) → (n < length cs) × (c ≡ get_or cs n c) → unit_width c ≤ left → characters_before left (drop n cs) ≡ 1 + characters_before (left - unit_width c) (drop (n + 1) cs)
characters_before-next cs n c left h reached =
    at_drop_more (characters_before left) cs n c h.0
    ∙ ap (λ x. characters_before left (x ∷ drop (n + 1) cs)) (sym h.1)
    ∙ characters_before-go left c (drop (n + 1) cs) reached
    ∙ suc-one (characters_before (left - unit_width c) (drop (n + 1) cs))

pub characters_before-ended : (cs : List ℕ) (n left : ℕ) → length cs ≤ n → characters_before left (drop n cs) ≡ 0
characters_before-ended cs n left h = at_drop_all (characters_before left) cs n h

-- no more characters stand before a unit than there are
pub characters_before-le : (cs : List ℕ) (unit : ℕ) → characters_before unit cs ≤ length cs
characters_before-le [] unit = omega arith
characters_before-le (c ∷ rest) unit = elim (nat_lt unit (unit_width c)) as (λ b. cond b 0 (suc (characters_before (unit - unit_width c) rest)) ≤ suc (length rest)) [
  | true ↦ omega arith
  | false ↦ omega (arith, characters_before-le rest (unit - unit_width c))
]

-- the width of the next character among those that are left
pub units-take_next : (cs : List ℕ) (n c left : ℕ) → (n < length cs) × (c ≡ get_or cs n c) → 0 < left → units (take left (drop n cs)) ≡ unit_width c + units (take (left - 1) (drop (n + 1) cs))
units-take_next cs n c left h some =
    at_drop_more (λ xs. units (take left xs)) cs n c h.0
    ∙ ap (λ x. units (take left (x ∷ drop (n + 1) cs))) (sym h.1)
    ∙ ap (λ k. units (take k (c ∷ drop (n + 1) cs))) (one_less left some)
    ∙ units-cons c (take (left - 1) (drop (n + 1) cs))

pub units-take_none : (cs : List ℕ) (n left : ℕ) → length cs ≤ n → units (take left (drop n cs)) ≡ 0
units-take_none cs n left h = at_drop_all (λ xs. units (take left xs)) cs n h ∙ ap units (take-nil left)

pub units-take_le : (cs : List ℕ) (n : ℕ) → units (take n cs) ≤ units cs
units-take_le cs n =
    omega (arith, sum_by-append unit_width (take n cs) (drop n cs), ap units (take-append-drop n cs))

-- a position whose line is there
pub spot_of-there : (text : List ℕ) (at : Position) → at.line < length (lines text) → spot_of text at ≡ record { line = at.line; before = characters_before at.character (line_of text at.line) }
spot_of-there text at h = rw (slice_get-get_or (lines text) at.line [] h) refl

-- a position behind the last line
pub spot_of-past : (text : List ℕ) (at : Position) → length (lines text) ≤ at.line → spot_of text at ≡ end_of text
spot_of-past text at h = rw (slice_get_past (lines text) at.line h) refl

pub place_of-past : (text : List ℕ) (at : Position) → length (lines text) ≤ at.line → place_of text at ≡ length text
place_of-past text at h = ap (λ spot. line_start text spot.line + spot.before) (spot_of-past text at h) ∙ end_place text

pub place_of-there : (text : List ℕ) (at : Position) → at.line < length (lines text) → place_of text at ≡ line_start text at.line + characters_before at.character (line_of text at.line)
place_of-there text at h = ap (λ spot. line_start text spot.line + spot.before) (spot_of-there text at h)

-- the bytes before a position whose line's rest is there
pub bytes_before-place : (text rest : List ℕ) (at : Position) → IsFrom text at.line rest →
    bytes_before text (place_of text at) + length (encode_utf8_all rest) ≡ length (encode_utf8_all text) + bytes_before (line_of rest 0) (characters_before at.character (line_of rest 0))
bytes_before-place text rest at from =
    let m : ℕ = characters_before at.character (line_of rest 0) in
    let front : List ℕ = concat (take at.line (whole_lines text)) in
    let split : text ≡ front ++ rest = split_at_line text rest at.line from in
    let line : line_of rest 0 ≡ line_of text at.line = line_of-from text rest at.line from in
    let place : place_of text at ≡ length front + m =
    place_of-there text at (IsFrom-within text rest at.line from) ∙ ap (λ l. length front + characters_before at.character l) (sym line) in
    let first = begins_with_line rest in
    let inner : bytes_before rest m ≡ bytes_before (line_of rest 0) m =
    ap (λ xs. bytes_before xs m) first.is ∙ bytes_before-front (line_of rest 0) first.others m (characters_before-le (line_of rest 0) at.character) in
    let outer : bytes_before text (place_of text at) ≡ length (encode_utf8_all front) + bytes_before rest m =
    ap (bytes_before text) place ∙ ap (λ xs. bytes_before xs (length front + m)) split ∙ bytes_before-append front rest m in
    let whole : length (encode_utf8_all text) ≡ length (encode_utf8_all front) + length (encode_utf8_all rest) =
    ap (λ xs. length (encode_utf8_all xs)) split ∙ ap length (encodes-append front rest) ∙ length-append (encode_utf8_all front) (encode_utf8_all rest) in
    omega (arith, inner, outer, whole)

-- the bytes before a position behind the last line
pub bytes_before-past : (text : List ℕ) (at : Position) → [] ≡ drop at.line (whole_lines text) → bytes_before text (place_of text at) ≡ length (encode_utf8_all text)
bytes_before-past text at h =
    let past : length (lines text) ≤ at.line =
    let e : 0 ≡ length (drop at.line (whole_lines text)) = ap length h in
    omega (arith, e, length-drop at.line (whole_lines text), length-lines_whole text) in
    ap (bytes_before text) (place_of-past text at past) ∙ bytes_before-all text

-- what stands from a line on is no longer than the text
pub text_of_rest : (bs rest : List ℕ) (line : ℕ) → IsUtf8 bs → IsUtf8 rest → IsFrom (chars bs) line (chars rest) → length rest ≤ length bs
text_of_rest bs rest line u v from =
    let whole : encode_utf8_all (chars bs) ≡ encode_utf8_all (concat (take line (whole_lines (chars bs)))) ++ encode_utf8_all (chars rest) =
    ap encode_utf8_all (split_at_line (chars bs) (chars rest) line from) ∙ encodes-append (concat (take line (whole_lines (chars bs)))) (chars rest) in
    omega (
      arith,
      ap length whole,
      ap length (encodes-chars bs u),
      ap length (encodes-chars rest v),
      length-append (encode_utf8_all (concat (take line (whole_lines (chars bs))))) (encode_utf8_all (chars rest)),
    )

-- the bytes before a position, from what stands from its line on
pub place_in_bytes : (bs rest : List ℕ) (at : Position) (before : ℕ) → IsUtf8 bs → IsUtf8 rest → IsFrom (chars bs) at.line (chars rest) →
    before ≡ bytes_before (line_of (chars rest) 0) (characters_before at.character (line_of (chars rest) 0)) →
    length bs - length rest + before ≡ bytes_before (chars bs) (place_of (chars bs) at)
place_in_bytes bs rest at before u v from is =
    omega (arith, bytes_before-place (chars bs) (chars rest) at from, ap length (encodes-chars bs u), ap length (encodes-chars rest v), text_of_rest bs rest at.line u v from, is)

-- all bytes of a text stand before its end
pub bytes_before-end : (bs : List ℕ) → IsUtf8 bs → length bs ≡ bytes_before (chars bs) (length (chars bs))
bytes_before-end bs u = sym (bytes_before-all (chars bs) ∙ ap length (encodes-chars bs u))

-- and before a position behind the last line
pub place_past_bytes : (bs : List ℕ) (at : Position) → IsUtf8 bs → [] ≡ drop at.line (whole_lines (chars bs)) → length bs ≡ bytes_before (chars bs) (place_of (chars bs) at)
place_past_bytes bs at u h = sym (bytes_before-past (chars bs) at h ∙ ap length (encodes-chars bs u))

-- a line from another on
pub drop-behind : (line later : ℕ) (xss : List (List ℕ)) → line ≤ later → drop (later - line) (drop line xss) ≡ drop later xss
drop-behind line later xss h = drop-drop (later - line) line xss ∙ ap (λ n. drop n xss) (omega arith)

pub drop-past : (line later : ℕ) (xss : List (List ℕ)) → line ≤ later → [] ≡ drop line xss → [] ≡ drop later xss
drop-past line later xss h past = sym (drop-nil (later - line)) ∙ ap (drop (later - line)) past ∙ drop-behind line later xss h

-- the line of a position that lies behind no other is no earlier
pub lines_in_order : (from to : Position) → is_after from to ≡ false → from.line ≤ to.line
lines_in_order from to h = ltb-false to.line from.line (or_parts (nat_lt to.line from.line) _ h).0

pub whole_lines-positive : (text : List ℕ) → 0 < length (whole_lines text)
whole_lines-positive text = let some = whole_lines-some text in omega (arith, ap length some.is)

pub eqb_self : (n : ℕ) → (n == n) ≡ true
eqb_self n = grind (arith, nat_tests)

pub eqb-false_from : (a b : ℕ) → a < b → (a == b) ≡ false
eqb-false_from a b h = grind (arith, nat_tests)

-- the line where a position lies, and how much of it stands before the position
pub spot_of-line : (text : List ℕ) (at : Position) (number : ℕ) → number ≡ min at.line (last_line text) → number ≡ (spot_of text at).line
spot_of-line text at number is = elim (cases_lt at.line (length (lines text))) [
  | inl there ↦ let line : at.line ≡ (spot_of text at).line = ap (λ spot. spot.line) (sym (spot_of-there text at there)) in (omega (arith, is)) ∙ line
  | inr past ↦ let line : last_line text ≡ (spot_of text at).line = ap (λ spot. spot.line) (sym (spot_of-past text at past)) in (omega (arith, is)) ∙ line
]

pub spot_of-before : (text : List ℕ) (at : Position) (number : ℕ) → number ≡ min at.line (last_line text) →
    cond (number == at.line) (characters_before at.character (line_of text number)) (length (line_of text number)) ≡ (spot_of text at).before
spot_of-before text at number is = elim (cases_lt at.line (length (lines text))) [
  | inl there ↦
      let same : number ≡ at.line = omega (arith, is) in
      rw same (rw (eqb_self at.line) (ap (λ spot. spot.before) (sym (spot_of-there text at there))))
  | inr past ↦
      let last : number ≡ last_line text = omega (arith, is) in
      let some : 0 < length (lines text) = omega (arith, length-lines_whole text, whole_lines-positive text) in
      let other : (number == at.line) ≡ false = eqb-false_from number at.line (omega (arith, last)) in
      rw other (ap (λ n. length (line_of text n)) last ∙ ap (λ spot. spot.before) (sym (spot_of-past text at past)))
]

take-take_length : (n : ℕ) (xs : List ℕ) → take (length (take n xs)) xs ≡ take n xs
take-take_length zero xs = refl
take-take_length (suc n) [] = refl
take-take_length (suc n) (x ∷ xs) = ap (λ ys. x ∷ ys) (take-take_length n xs)

-- the position of a column: its line, and how wide the columns before it are
pub position_of-is : (text : List ℕ) (line column number : ℕ) → number ≡ min line (last_line text) →
    record { line = number; character = cond (number == line) (units (take (column - 1) (line_of text number))) (units (line_of text number)) } ≡ position_of text line column
position_of-is text line column number is = elim (cases_lt line (length (lines text))) [
  | inl there ↦
      let same : number ≡ line = omega (arith, is) in
      rw same (rw (eqb_self line) (rw (slice_get-get_or (lines text) line [] there) (ap (λ xs. record { line = line; character = units xs }) (sym (take-take_length (column - 1) (line_of text line))))))
  | inr past ↦
      let last : number ≡ last_line text = omega (arith, is) in
      let some : 0 < length (lines text) = omega (arith, length-lines_whole text, whole_lines-positive text) in
      let other : (number == line) ≡ false = eqb-false_from number line (omega (arith, last)) in
      rw other (rw (slice_get_past (lines text) line past) (rw last (ap (λ xs. record { line = last_line text; character = units xs }) (sym (take-length (line_of text (last_line text)))))))
]

-- a line has no more characters than its text
line_in_lines : (xss : List (List ℕ)) (n : ℕ) → length (get_or (map without_end xss) n []) ≤ length (concat xss)
line_in_lines [] n = omega arith
line_in_lines (xs ∷ xss) zero =
    let front = BeginsWith-without_end xs in
    omega (arith, ap length front.is, length-append (without_end xs) front.others, length-append xs (concat xss))
line_in_lines (xs ∷ xss) (suc n) = omega (arith, line_in_lines xss n, length-append xs (concat xss))

pub length-line_of : (text : List ℕ) (n : ℕ) → length (line_of text n) ≤ length text
length-line_of text n =
    omega (arith, ap (λ xss. length (get_or xss n [])) (lines-whole text), line_in_lines (whole_lines text) n, ap length (concat-whole_lines text))

-- so it has few characters, and few units
pub length-line_bytes : (bs : List ℕ) (n : ℕ) → IsUtf8 bs → length (line_of (chars bs) n) ≤ length bs
length-line_bytes bs n u = omega (arith, length-line_of (chars bs) n, length-le-encodes (chars bs), ap length (encodes-chars bs u))

width_le_two : (c : ℕ) → unit_width c ≤ 2
width_le_two c = grind (arith, nat_tests)

pub units-le_double : (cs : List ℕ) → units cs ≤ 2 * length cs
units-le_double [] = omega arith
units-le_double (c ∷ cs) = omega (arith, units-cons c cs, width_le_two c, units-le_double cs)

-- what is counted in a line is no more than all of it
pub before_is_within : (line : List ℕ) (unit : ℕ) (b : Bool) → cond b (characters_before unit line) (length line) ≤ length line
before_is_within line unit true = characters_before-le line unit
before_is_within line unit false = omega arith

pub units_are_within : (line : List ℕ) (n : ℕ) (b : Bool) → cond b (units (take n line)) (units line) ≤ 2 * length line
units_are_within line n true = omega (arith, units-take_le line n, units-le_double line)
units_are_within line n false = units-le_double line

-- a line that was found has no more characters before a unit than its text has bytes
pub before-le_bytes : (bs line : List ℕ) (at : Position) → IsUtf8 bs → slice_get (lines (chars bs)) at.line ≡ Some line →
    characters_before at.character line ≤ length bs
before-le_bytes bs line at u is =
    let found = get_or_from_slice_get (lines (chars bs)) at.line line [] is in
    omega (arith, before_is_within line at.character true, ap length found, length-line_bytes bs at.line u)

-- ---- characters of one byte

first-onto : (c : ℕ) (xss : List (List ℕ)) → get_or (onto_first c xss) 0 [] ≡ c ∷ get_or xss 0 []
first-onto c [] = refl
first-onto c (xs ∷ xss) = refl

width-positive : (c : ℕ) → 0 < unit_width c
width-positive c = grind (arith, nat_tests)

width-ascii : (c : ℕ) → c < 128 → unit_width c ≡ 1
width-ascii c small = rw (lt-ltb c 65536 (omega (arith, small))) refl

not_true : (b : Bool) → not b ≡ true → b ≡ false
not_true true e = absurd (true≢false (sym e))
not_true false e = refl

-- the first line of a text that begins with a character of it
line_of-cons : (c : ℕ) (cs : List ℕ) → IsWithin c → line_of (c ∷ cs) 0 ≡ c ∷ line_of cs 0
line_of-cons c cs within = ap (λ xss. get_or xss 0 []) (lines-cons c cs within) ∙ first-onto c (lines cs)

before-nothing : (line : List ℕ) → characters_before 0 line ≡ 0
before-nothing [] = refl
before-nothing (c ∷ rest) = characters_before-stop 0 c rest (width-positive c)

-- where the first bytes are characters of the first line, as many units of it are as many characters and bytes
plain : (n : ℕ) (bs : List ℕ) → IsUtf8 bs → n ≤ length bs → ((k : ℕ) → k < n → is_plain (slice_index bs k) ≡ true) →
    (characters_before n (line_of (chars bs) 0) ≡ n) × (bytes_before (line_of (chars bs) 0) n ≡ n)
plain zero bs u within all = (before-nothing (line_of (chars bs) 0), refl)
plain (suc n) [] u within all = absurd (omega (arith, within))
plain (suc n) (b ∷ rest) u within all =
    let parts = and_parts (nat_lt b 128) (not (b == 10 || b == 13)) (all 0 (omega arith)) in
    let small : b < 128 = ltb-true b 128 parts.0 in
    let line : line_of (chars (b ∷ rest)) 0 ≡ b ∷ line_of (chars rest) 0 =
    ap (λ cs. line_of cs 0) (chars-ascii b rest small u) ∙ line_of-cons b (chars rest) (not_true (b == 10 || b == 13) parts.1) in
    let later = plain n rest (utf8_tail b rest small u) (omega (arith, within)) (λ k below. all (suc k) (omega (arith, below))) in
    let width : unit_width b ≡ 1 = width-ascii b small in
    let left : suc n - unit_width b ≡ n = omega (arith, width) in (
      ap (characters_before (suc n)) line
          ∙ characters_before-go (suc n) b (line_of (chars rest) 0) (omega (arith, width))
          ∙ ap (λ k. suc (characters_before k (line_of (chars rest) 0))) left
          ∙ ap suc later.0,
      ap (λ l. bytes_before l (suc n)) line
          ∙ ap (λ e. length (e ++ encode_utf8_all (take n (line_of (chars rest) 0)))) (encode_ascii b small)
          ∙ ap suc later.1,
    )

pub plain_bytes : (bs : List ℕ) (n : ℕ) → IsUtf8 bs → ArePlain n bs → n ≡ bytes_before (line_of (chars bs) 0) (characters_before n (line_of (chars bs) 0))
plain_bytes bs n u h =
    let both = plain n bs u h.within h.all in
    sym (ap (bytes_before (line_of (chars bs) 0)) both.0 ∙ both.1)

-- positions of one line and one character are one
pub same_position : (a b : Position) → (a.line == b.line && a.character == b.character) ≡ true → a ≡ b
same_position a b h =
    let parts = and_parts (a.line == b.line) (a.character == b.character) h in
    let place : ℕ → ℕ → Position = λ line character. record { line = line; character = character } in
    ap (λ l. place l a.character) (eqb-true a.line b.line parts.0) ∙ ap (place b.line) (eqb-true a.character b.character parts.1)
