-- Header lines: one more behind others, and what the bytes of a line that is not yet whole are.
use Rattle.std.proofs.Common.{◌≡◌, ℕ, ◌+◌, ◌*◌, ◌<◌, ◌≤◌, true, List, [], ◌∷◌, ◌++◌, length, take, drop, get_or, map, Option, Some, None, refl, sym, ◌∙◌, ap, subst, arith, rules, append_assoc, length-append, drop-cons}
use Rattle.std.proofs.lemmas.Grind.{flat_map-append}
use Rattle.std.proofs.lemmas.List.{append-nil, take_more, take-append-drop, take_all, length-take-le, length-map, map_push}
use Rattle.std.proofs.lemmas.List.Elements.{All-nil, All-push}
use Rattle.std.specs.Char.{digit_value, to_ascii_lowercase}
use Rattle.std.specs.List.{All, AllPass}
use Rattle.std.specs.Str.Parse.{AllDigits, digits_value, digits_value_after}
use Rattle.rpc_framing.specs.Frames.{is_name_byte, is_blank, is_printed, length_name, IsName, IsLengthName, IsField, SaysLength, IsOtherLine, SayOneLength, line_end, ended}
use Rattle.rpc_framing.proofs.Lists.{same_length}

-- ---- lines

-- lines that say this length, or lines of other names
abbrev pub HasLines : Option ℕ → List (List ℕ) → Type 0
HasLines None lines = All IsOtherLine lines
HasLines (Some n) lines = SayOneLength lines n

-- a line of another name behind them
pub HasLines-other : (known : Option ℕ) (lines : List (List ℕ)) (line : List ℕ) → HasLines known lines → IsOtherLine line → HasLines known (lines ++ line ∷ [])
HasLines-other None lines line has other = All-push IsOtherLine lines line has other
HasLines-other (Some n) lines line has other = record {
  before = has.before;
  line = has.line;
  behind = has.behind ++ line ∷ [];
  others_before = has.others_before;
  says = has.says;
  others_behind = All-push IsOtherLine has.behind line has.others_behind other;
  is = ap (λ t. t ++ line ∷ []) has.is ∙ append_assoc has.before (has.line ∷ has.behind) (line ∷ []);
}

-- the line of the length behind them
pub SayOneLength-push : (lines : List (List ℕ)) (line : List ℕ) (n : ℕ) → All IsOtherLine lines → SaysLength line n → SayOneLength (lines ++ line ∷ []) n
SayOneLength-push lines line n others says = record {
  before = lines;
  line = line;
  behind = [];
  others_before = others;
  says = says;
  others_behind = All-nil IsOtherLine;
  is = refl;
}

-- the bytes of one line more
pub ended-push : (lines : List (List ℕ)) (line : List ℕ) → ended (lines ++ line ∷ []) ≡ ended lines ++ (line ++ line_end)
ended-push lines line =
    flat_map-append (λ (line : List ℕ). line ++ line_end) lines (line ∷ []) ∙ ap (λ t. ended lines ++ t) (append-nil (line ++ line_end))

-- ---- names

-- the length of the name of the length's line
pub length-length_name : length length_name ≡ 14
unfolding length_name
length-length_name = refl

-- a name's bytes that are so many of the length's name
pub record Agrees (seen : ℕ) (part : List ℕ) : Type 0 where
  pub all : AllPass is_name_byte part
  pub same : map to_ascii_lowercase part ≡ take seen length_name
  pub short : seen ≤ 14

-- a name's bytes that the length's name does not begin with
pub record Differs (part : List ℕ) : Type 0 where
  pub named : IsName part
  pub other : (z : List ℕ) → map to_ascii_lowercase part ++ z ≡ length_name → ⊥

-- how many bytes those are
pub length-Agrees : (seen : ℕ) (part : List ℕ) → Agrees seen part → length part ≡ seen
length-Agrees seen part h =
    let short = h.short in
    let size = length-length_name in
    sym (length-map part to_ascii_lowercase) ∙ ap length h.same ∙ length-take-le seen length_name (omega arith)

-- nothing of a name
pub Agrees-nil : Agrees 0 []
Agrees-nil = record { all = All-nil (λ x. is_name_byte x ≡ true); same = refl; short = omega arith }

-- one byte more of a name
pub IsName-push : (part : List ℕ) (byte : ℕ) → AllPass is_name_byte part → is_name_byte byte ≡ true → IsName (part ++ byte ∷ [])
IsName-push part byte all named = record {
  some = omega (arith, length-append part (byte ∷ []));
  all = All-push (λ x. is_name_byte x ≡ true) part byte all named;
}

lowered : (part : List ℕ) (byte : ℕ) → map to_ascii_lowercase (part ++ byte ∷ []) ≡ map to_ascii_lowercase part ++ to_ascii_lowercase byte ∷ []
lowered part byte = map_push to_ascii_lowercase part byte

pub Agrees-push : (seen : ℕ) (part : List ℕ) (byte : ℕ) → Agrees seen part → is_name_byte byte ≡ true → seen < 14 → get_or length_name seen 0 ≡ to_ascii_lowercase byte → Agrees (seen + 1) (part ++ byte ∷ [])
Agrees-push seen part byte h named less is =
    let size = length-length_name in
    record {
      all = All-push (λ x. is_name_byte x ≡ true) part byte h.all named;
      same = lowered part byte ∙ ap (λ t. t ++ to_ascii_lowercase byte ∷ []) h.same
          ∙ ap (λ c. take seen length_name ++ c ∷ []) (sym is) ∙ sym (take_more length_name seen 0 (omega arith));
      short = omega arith;
    }

-- the next byte of the length's name
next_byte : (seen : ℕ) (c : ℕ) (z : List ℕ) → take seen length_name ++ (c ∷ z) ≡ length_name → seen ≤ 14 → (seen < 14) × (get_or length_name seen 0 ≡ c)
next_byte seen c z e short =
    let size = length-length_name in
    let front : length (take seen length_name) ≡ seen = length-take-le seen length_name (omega arith) in
    let less : seen < 14 = omega (arith, ap length e, length-append (take seen length_name) (c ∷ z)) in
    let rest = same_length (take seen length_name) (c ∷ z) (take seen length_name) (drop seen length_name) refl (e ∙ sym (take-append-drop seen length_name)) in
    let first = rest.1 ∙ drop-cons length_name seen 0 (omega arith) in
    (less, cc)

pub Differs-push : (seen : ℕ) (part : List ℕ) (byte : ℕ) → Agrees seen part → is_name_byte byte ≡ true → (seen < 14 → get_or length_name seen 0 ≡ to_ascii_lowercase byte → ⊥) → Differs (part ++ byte ∷ [])
Differs-push seen part byte h named differs = record {
  named = IsName-push part byte h.all named;
  other = λ z e.
      let whole : take seen length_name ++ (to_ascii_lowercase byte ∷ z) ≡ length_name =
      sym (append_assoc (take seen length_name) (to_ascii_lowercase byte ∷ []) z)
      ∙ ap (λ t. (t ++ to_ascii_lowercase byte ∷ []) ++ z) (sym h.same) ∙ ap (λ t. t ++ z) (sym (lowered part byte)) ∙ e in
      let next = next_byte seen (to_ascii_lowercase byte) z whole h.short in
      differs next.0 next.1;
}

pub Differs-more : (part : List ℕ) (byte : ℕ) → Differs part → is_name_byte byte ≡ true → Differs (part ++ byte ∷ [])
Differs-more part byte h named = record {
  named = IsName-push part byte h.named.all named;
  other = λ z e.
      h.other (to_ascii_lowercase byte ∷ z)
      (sym (append_assoc (map to_ascii_lowercase part) (to_ascii_lowercase byte ∷ []) z) ∙ ap (λ t. t ++ z) (sym (lowered part byte)) ∙ e);
}

-- all of the length's name, or less of it
pub IsLengthName-Agrees : (part : List ℕ) → Agrees 14 part → IsLengthName part
IsLengthName-Agrees part h = let size = length-length_name in record { same = h.same ∙ take_all 14 length_name (omega arith) }

pub Agrees-IsLengthName : (seen : ℕ) (part : List ℕ) → Agrees seen part → IsLengthName part → seen ≡ 14
Agrees-IsLengthName seen part h named =
    let size = length-length_name in
    let all : length part ≡ 14 = sym (length-map part to_ascii_lowercase) ∙ ap length named.same ∙ size in
    sym (length-Agrees seen part h) ∙ all

pub Differs-IsLengthName : (part : List ℕ) → Differs part → IsLengthName part → ⊥
Differs-IsLengthName part h named = h.other [] (append-nil (map to_ascii_lowercase part) ∙ named.same)

pub IsName-Agrees : (seen : ℕ) (part : List ℕ) → Agrees seen part → 0 < seen → IsName part
IsName-Agrees seen part h some = record { some = (let size = length-Agrees seen part h in omega arith); all = h.all }

-- ---- a line that is not yet whole

-- these lines, and then this part of one
pub record Begun (known : Option ℕ) (bytes part : List ℕ) : Type 0 where
  pub lines : List (List ℕ)
  pub has : HasLines known lines
  pub is : bytes ≡ ended lines ++ part

pub Begun-push : (known : Option ℕ) (bytes part : List ℕ) (byte : ℕ) → Begun known bytes part → Begun known (bytes ++ byte ∷ []) (part ++ byte ∷ [])
Begun-push known bytes part byte h = record {
  lines = h.lines;
  has = h.has;
  is = ap (λ t. t ++ byte ∷ []) h.is ∙ append_assoc (ended h.lines) part (byte ∷ []);
}

-- the length's name, a colon, blanks, and digits
pub record LengthPart (count value : ℕ) (part : List ℕ) : Type 0 where
  pub name : List ℕ
  pub digits : List ℕ
  pub field : IsField part name digits
  pub named : IsLengthName name
  pub all : AllDigits 10 digits
  pub counted : length digits ≡ count
  pub few : count ≤ 10
  pub valued : digits_value 10 digits ≡ value
  pub bound : value ≤ 16777216

-- another name, a colon and blanks
pub record GapPart (part : List ℕ) : Type 0 where
  pub name : List ℕ
  pub field : IsField part name []
  pub other : IsLengthName name → ⊥

-- a colon behind a name
IsField-colon : (name : List ℕ) → IsName name → IsField (name ++ 58 ∷ []) name []
IsField-colon name named = record { blanks = []; named = named; blank = All-nil (λ x. is_blank x ≡ true); is = refl }

pub LengthPart-colon : (name : List ℕ) → IsName name → IsLengthName name → LengthPart 0 0 (name ++ 58 ∷ [])
LengthPart-colon name named length_named = record {
  name = name;
  digits = [];
  field = IsField-colon name named;
  named = length_named;
  all = search rules;
  counted = refl;
  few = omega arith;
  valued = refl;
  bound = omega arith;
}

pub GapPart-colon : (name : List ℕ) → IsName name → (IsLengthName name → ⊥) → GapPart (name ++ 58 ∷ [])
GapPart-colon name named other = record { name = name; field = IsField-colon name named; other = other }

-- one blank more
IsField-blank : (line name : List ℕ) (byte : ℕ) → IsField line name [] → is_blank byte ≡ true → IsField (line ++ byte ∷ []) name []
IsField-blank line name byte h blank = record {
  blanks = h.blanks ++ byte ∷ [];
  named = h.named;
  blank = All-push (λ x. is_blank x ≡ true) h.blanks byte h.blank blank;
  is = ap (λ t. t ++ byte ∷ []) (h.is ∙ ap (λ t. name ++ 58 ∷ t) (append-nil h.blanks)) ∙ append_assoc name (58 ∷ h.blanks) (byte ∷ []) ∙ ap (λ t. name ++ 58 ∷ t) (sym (append-nil (h.blanks ++ byte ∷ [])));
}

-- one byte more of the value
pub IsField-value : (line name value : List ℕ) (byte : ℕ) → IsField line name value → IsField (line ++ byte ∷ []) name (value ++ byte ∷ [])
IsField-value line name value byte h = record {
  blanks = h.blanks;
  named = h.named;
  blank = h.blank;
  is = ap (λ t. t ++ byte ∷ []) h.is ∙ append_assoc name (58 ∷ (h.blanks ++ value)) (byte ∷ []) ∙ ap (λ t. name ++ 58 ∷ t) (append_assoc h.blanks value (byte ∷ []));
}

pub GapPart-blank : (part : List ℕ) (byte : ℕ) → GapPart part → is_blank byte ≡ true → GapPart (part ++ byte ∷ [])
GapPart-blank part byte h blank = record { name = h.name; field = IsField-blank part h.name byte h.field blank; other = h.other }

pub IsOtherLine-gap : (part : List ℕ) → GapPart part → IsOtherLine part
IsOtherLine-gap part h = record { name = h.name; value = []; field = h.field; other = h.other; printed = All-nil (λ x. is_printed x ≡ true) }

pub IsOtherLine-push : (part : List ℕ) (byte : ℕ) → IsOtherLine part → is_printed byte ≡ true → IsOtherLine (part ++ byte ∷ [])
IsOtherLine-push part byte h printed = record {
  name = h.name;
  value = h.value ++ byte ∷ [];
  field = IsField-value part h.name h.value byte h.field;
  other = h.other;
  printed = All-push (λ x. is_printed x ≡ true) h.value byte h.printed printed;
}

-- a list of no elements
nil_of : (xs : List ℕ) → length xs ≡ 0 → xs ≡ []
nil_of [] e = refl
nil_of (x ∷ xs) e = absurd (omega arith)

pub LengthPart-blank : (value : ℕ) (part : List ℕ) (byte : ℕ) → LengthPart 0 value part → is_blank byte ≡ true → LengthPart 0 value (part ++ byte ∷ [])
LengthPart-blank value part byte h blank =
    let none : h.digits ≡ [] = nil_of h.digits h.counted in
    let P : List ℕ → Type 0 = λ t. IsField part h.name t in
    record {
      name = h.name;
      digits = [];
      field = IsField-blank part h.name byte (subst P none h.field) blank;
      named = h.named;
      all = search rules;
      counted = refl;
      few = omega arith;
      valued = ap (digits_value 10) (sym none) ∙ h.valued;
      bound = h.bound;
    }

-- one digit more is digits
pub AllDigits-push : (ds : List ℕ) (d : ℕ) → AllDigits 10 ds → digit_value d < 10 → AllDigits 10 (ds ++ d ∷ [])
AllDigits-push [] d all h = search rules
AllDigits-push (c ∷ ds) d all h = (all.0, AllDigits-push ds d all.1 h)

-- and its value
pub value-push : (v : ℕ) (ds : List ℕ) (d : ℕ) → digits_value_after 10 v (ds ++ d ∷ []) ≡ digits_value_after 10 v ds * 10 + digit_value d
value-push v [] d = refl
value-push v (c ∷ ds) d = value-push (v * 10 + digit_value c) ds d

pub LengthPart-digit : (count value : ℕ) (part : List ℕ) (byte : ℕ) → LengthPart count value part → digit_value byte < 10 → count < 10 → value * 10 + digit_value byte ≤ 16777216 → LengthPart (count + 1) (value * 10 + digit_value byte) (part ++ byte ∷ [])
LengthPart-digit count value part byte h digit few small = record {
  name = h.name;
  digits = h.digits ++ byte ∷ [];
  field = IsField-value part h.name h.digits byte h.field;
  named = h.named;
  all = AllDigits-push h.digits byte h.all digit;
  counted = (let counted = h.counted in omega (arith, length-append h.digits (byte ∷ [])));
  few = omega arith;
  valued = value-push 0 h.digits byte ∙ ap (λ n. n * 10 + digit_value byte) h.valued;
  bound = small;
}

pub SaysLength-part : (count value : ℕ) (part : List ℕ) → LengthPart count value part → 0 < count → SaysLength part value
SaysLength-part count value part h some = record {
  name = h.name;
  digits = h.digits;
  field = h.field;
  named = h.named;
  numeral = ((let counted = h.counted in omega arith), h.all);
  few = (let counted = h.counted in let few = h.few in omega arith);
  value = h.valued;
  bound = h.bound;
}

pub value-LengthPart : (count value : ℕ) (part : List ℕ) → LengthPart count value part → count ≡ 0 → value ≡ 0
value-LengthPart count value part h none =
    let nothing : h.digits ≡ [] = nil_of h.digits (h.counted ∙ none) in
    sym h.valued ∙ ap (digits_value 10) nothing
