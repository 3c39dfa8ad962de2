-- Of two places that are in order the first lies no later: so a change replaces what stands between them.
use Rattle.hl_base.specs.declared.edit.Edit.{Edit}
use Rattle.document_store.specs.Edits.{edited}
use Rattle.document_store.proofs.EditLemmas.{length-edited}
use Rattle.std.proofs.Common.{drop, length-drop}
use Rattle.std.proofs.lemmas.List.{length-take}
use Rattle.std.proofs.Common.{eq-eqb, ◌≡◌, ◌∙◌, ℕ, zero, suc, ◌+◌, ◌-◌, ◌<◌, ◌≤◌, false, List, [], ◌∷◌, length, take, get_or, map, refl, sym, inl, inr, ap, arith, length-append, Option, Some, None}
use Rattle.std.specs.Prelude.{◌==◌, ◌&&◌, nat_lt, encode_utf8, encode_utf8_all, chars, IsUtf8}
use Rattle.std.specs.List.{concat}
use Rattle.std.proofs.lemmas.Bool.{cases_lt, ltb-false, or_parts}
use Rattle.hl_base.specs.Texts.{lines, unit_width}
use Rattle.hl_base.specs.declared.edit.Position.{Position}
use Rattle.document_store.specs.Positions.{whole_lines, characters_before, line_of, line_start, place_of}
use Rattle.document_store.specs.Places.{bytes_before}
use Rattle.document_store.specs.Edits.{is_after, is_backward, start_of, stop_of}
use Rattle.document_store.proofs.LineLemmas.{without_end, lines-whole, concat-whole_lines}
use Rattle.document_store.proofs.FromLemmas.{BeginsWith-without_end}
use Rattle.document_store.proofs.PlaceLemmas.{characters_before-stop, characters_before-go, characters_before-le, place_of-there, place_of-past, lines_in_order, bytes_before-le}

-- a later unit has no fewer characters before it
characters_before-mono : (cs : List ℕ) (unit later : ℕ) → unit ≤ later → characters_before unit cs ≤ characters_before later cs
characters_before-mono [] unit later h = omega arith
characters_before-mono (c ∷ rest) unit later h = elim (cases_lt unit (unit_width c)) [
  | inl before ↦ omega (arith, characters_before-stop unit c rest before)
  | inr behind ↦
      let within : unit_width c ≤ later = omega arith in
      let fewer : unit - unit_width c ≤ later - unit_width c = omega arith in
      omega (
        arith,
        characters_before-go unit c rest behind,
        characters_before-go later c rest within,
        characters_before-mono rest (unit - unit_width c) (later - unit_width c) fewer,
      )
]

-- a line ends no later than a later one begins
line_before : (xss : List (List ℕ)) (a b : ℕ) → a < b →
    length (concat (take a xss)) + length (get_or (map without_end xss) a []) ≤ length (concat (take b xss))
line_before xss a zero h = absurd (omega arith)
line_before [] zero (suc b) h = omega arith
line_before [] (suc a) (suc b) h = omega arith
line_before (xs ∷ xss) zero (suc b) h =
    let front = BeginsWith-without_end xs in
    omega (arith, ap length front.is, length-append (without_end xs) front.others, length-append xs (concat (take b xss)))
line_before (xs ∷ xss) (suc a) (suc b) h =
    let less : a < b = omega arith in
    omega (arith, line_before xss a b less, length-append xs (concat (take a xss)), length-append xs (concat (take b xss)))

-- and no later than the text
line_within : (xss : List (List ℕ)) (a : ℕ) →
    length (concat (take a xss)) + length (get_or (map without_end xss) a []) ≤ length (concat xss)
line_within [] zero = omega arith
line_within [] (suc a) = omega arith
line_within (xs ∷ xss) zero =
    let front = BeginsWith-without_end xs in
    omega (arith, ap length front.is, length-append (without_end xs) front.others, length-append xs (concat xss))
line_within (xs ∷ xss) (suc a) =
    omega (arith, line_within xss a, length-append xs (concat (take a xss)), length-append xs (concat xss))

-- the same of a text's lines
line_of-before : (text : List ℕ) (a b : ℕ) → a < b → line_start text a + length (line_of text a) ≤ line_start text b
line_of-before text a b h =
    omega (arith, line_before (whole_lines text) a b h, ap (λ xss. length (get_or xss a [])) (lines-whole text))

line_of-within : (text : List ℕ) (a : ℕ) → line_start text a + length (line_of text a) ≤ length text
line_of-within text a =
    omega (arith, line_within (whole_lines text) a, ap (λ xss. length (get_or xss a [])) (lines-whole text), ap length (concat-whole_lines text))

-- no place lies behind the text
pub place_of-le : (text : List ℕ) (at : Position) → place_of text at ≤ length text
place_of-le text at = elim (cases_lt at.line (length (lines text))) [
  | inl there ↦ omega (arith, place_of-there text at there, characters_before-le (line_of text at.line) at.character, line_of-within text at.line)
  | inr past ↦ omega (arith, place_of-past text at past)
]

-- in one line the units are in order
pub units_in_order : (from to : Position) → is_after from to ≡ false → from.line ≡ to.line → from.character ≤ to.character
units_in_order from to h same =
    let tests : ((from.line == to.line) && nat_lt to.character from.character) ≡ false = (or_parts (nat_lt to.line from.line) _ h).1 in
    ltb-false to.character from.character (ap (λ b. b && nat_lt to.character from.character) (sym (eq-eqb from.line to.line same)) ∙ tests)

places_there : (text : List ℕ) (from to : Position) → is_after from to ≡ false → to.line < length (lines text) →
    place_of text from ≤ place_of text to
places_there text from to h there =
    let earlier : from.line ≤ to.line = lines_in_order from to h in
    let also : from.line < length (lines text) = omega arith in
    elim (cases_lt from.line to.line) [
      | inl less ↦
          omega (
            arith,
            place_of-there text from also,
            place_of-there text to there,
            characters_before-le (line_of text from.line) from.character,
            line_of-before text from.line to.line less,
          )
      | inr more ↦
          let same : from.line ≡ to.line = omega arith in
          omega (
            arith,
            place_of-there text from also,
            place_of-there text to there ∙ ap (λ n. line_start text n + characters_before to.character (line_of text n)) (sym same),
            characters_before-mono (line_of text from.line) from.character to.character (units_in_order from to h same),
          )
    ]

pub places_in_order : (text : List ℕ) (from to : Position) → is_after from to ≡ false → place_of text from ≤ place_of text to
places_in_order text from to h = elim (cases_lt to.line (length (lines text))) [
  | inl there ↦ places_there text from to h there
  | inr past ↦ omega (arith, place_of-past text to past, place_of-le text from)
]

-- no fewer bytes stand before a later character
bytes_before-mono : (cs : List ℕ) (n m : ℕ) → n ≤ m → bytes_before cs n ≤ bytes_before cs m
bytes_before-mono cs zero m h = omega arith
bytes_before-mono cs (suc n) zero h = absurd (omega arith)
bytes_before-mono [] (suc n) (suc m) h = omega arith
bytes_before-mono (c ∷ cs) (suc n) (suc m) h =
    let less : n ≤ m = omega arith in
    omega (
      arith,
      bytes_before-mono cs n m less,
      length-append (encode_utf8 c) (encode_utf8_all (take n cs)),
      length-append (encode_utf8 c) (encode_utf8_all (take m cs)),
    )

-- a change begins no later than it ends
edit_in_order : (text : List ℕ) (from to : Option Position) → is_backward from to ≡ false → start_of text from ≤ stop_of text to
edit_in_order text (Some from) (Some to) h = places_in_order text from to h
edit_in_order text (Some from) None h = place_of-le text from
edit_in_order text None (Some to) h = omega arith
edit_in_order text None None h = omega arith

pub span_in_order : (bs : List ℕ) (from to : Option Position) (start stop : ℕ) → is_backward from to ≡ false →
    start ≡ bytes_before (chars bs) (start_of (chars bs) from) → stop ≡ bytes_before (chars bs) (stop_of (chars bs) to) → start ≤ stop
span_in_order bs from to start stop h e f =
    omega (arith, e, f, bytes_before-mono (chars bs) (start_of (chars bs) from) (stop_of (chars bs) to) (edit_in_order (chars bs) from to h))

pub span_within : (bs : List ℕ) (to : Option Position) (stop : ℕ) → IsUtf8 bs →
    stop ≡ bytes_before (chars bs) (stop_of (chars bs) to) → stop ≤ length bs
span_within bs to stop u f = omega (arith, f, bytes_before-le bs (stop_of (chars bs) to) u)

-- how long a text is after a change
pub edited_length : (bs : List ℕ) (edit : Edit) (start stop : ℕ) → IsUtf8 bs → is_backward edit.from edit.to ≡ false →
    start ≡ bytes_before (chars bs) (start_of (chars bs) edit.from) → stop ≡ bytes_before (chars bs) (stop_of (chars bs) edit.to) →
    length (encode_utf8_all (edited (chars bs) edit)) ≡ length bs - (stop - start) + length (encode_utf8_all edit.text)
edited_length bs edit start stop u h e f =
    omega (
      arith,
      length-edited bs edit (take start bs) (drop stop bs) start stop u e f refl refl,
      length-take start bs,
      length-drop stop bs,
      span_in_order bs edit.from edit.to start stop h e f,
      span_within bs edit.to stop u f,
    )
