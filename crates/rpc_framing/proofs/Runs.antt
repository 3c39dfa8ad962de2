-- A whole line brings a header from its beginning to the next line's, and a whole header comes to its end.
use Rattle.std.proofs.Common.{◌≡◌, ℕ, ◌+◌, ◌-◌, ◌*◌, ◌<◌, ◌≤◌, inl, inr, true, false, Bool, List, [], ◌∷◌, ◌++◌, length, Option, Some, None, refl, sym, ◌∙◌, ap, subst, arith, append_assoc}
use Rattle.std.proofs.lemmas.Grind.{flat_map-append}
use Rattle.std.proofs.lemmas.List.{append-nil}
use Rattle.std.proofs.lemmas.List.Elements.{All-head, All-tail}
use Rattle.std.proofs.lemmas.Bool.Decides.{nat_tests}
use Rattle.std.proofs.lemmas.Bool.{cases_Bool, eqb-true, ne_eqb, both_ways, or_cases}
use Rattle.std.specs.Prelude.{option_and_then, nat_lt, nat_le, ◌==◌}
use Rattle.std.specs.Char.{digit_value, is_ascii_digit}
use Rattle.std.specs.List.{All, AllPass}
use Rattle.std.specs.Str.Parse.{AllDigits, digits_value_after}
use Rattle.rpc_framing.specs.Frames.{is_name_byte, is_blank, is_printed, IsLengthName, IsField, SaysLength, IsOtherLine, SayOneLength, line_end, ended}
use Rattle.rpc_framing.specs.Places.{place_after, in_name}
use Rattle.rpc_framing.specs.declared.place.Place.{Place}
use Rattle.rpc_framing.specs.declared.place.Place.TheVariants.{Line, Name, OtherName, Digits, Gap, Value, Whole}
use Rattle.rpc_framing.proofs.Lines.{Agrees, Agrees-nil, Agrees-push, Differs, Differs-push, Differs-more, IsLengthName-Agrees, Agrees-IsLengthName, Differs-IsLengthName}
use Rattle.rpc_framing.proofs.Moves.{digit, name_goes}
use Rattle.rpc_framing.proofs.Says.{places, places-then, places-first}

-- ---- bytes of different kinds

-- a byte that passes a test is none that does not
pub differs_from : (test : ℕ → Bool) (c byte : ℕ) → test c ≡ false → test byte ≡ true → (byte == c) ≡ false
differs_from test c byte fails passes = elim (cases_Bool (byte == c)) [
  | inr other ↦ other
  | inl same ↦ absurd (let is : test byte ≡ test c = ap test (eqb-true byte c same) in both_ways (test byte) (is ∙ fails) passes)
]

pub no_name_colon : is_name_byte 58 ≡ false
unfolding is_name_byte
no_name_colon = refl

no_name_return : is_name_byte 13 ≡ false
unfolding is_name_byte
no_name_return = refl

no_blank_return : is_blank 13 ≡ false
unfolding is_blank
no_blank_return = refl

not_printed_return : is_printed 13 ≡ false
unfolding is_printed
not_printed_return = refl

pub blank_is_no_digit : (byte : ℕ) → is_blank byte ≡ true → is_ascii_digit byte ≡ false
unfolding is_blank
blank_is_no_digit byte blank = elim (or_cases (byte == 32) (byte == 9) blank) [
  | inl space ↦ rw (eqb-true byte 32 space) refl
  | inr tab ↦ rw (eqb-true byte 9 tab) refl
]

-- ---- names

-- where a name's bytes bring the beginning of a line
data Named (known : Option ℕ) (part : List ℕ) (q : Place) : Type 0 where
  agreeing : (seen : ℕ) → q ≡ Name seen known → Agrees seen part → Named known part q
  differing : q ≡ OtherName known → Differs part → Named known part q

name_one : (seen : ℕ) (known : Option ℕ) (part : List ℕ) (byte : ℕ) → Agrees seen part → is_name_byte byte ≡ true → (q : Place) × (in_name seen known byte ≡ Some q) × Named known (part ++ byte ∷ []) q
name_one seen known part byte agrees is =
    let goes = name_goes seen known byte is in
    let move = goes.2 in (
      goes.0,
      goes.1,
      elim move.to [
        | inl same ↦ agreeing (seen + 1) same.2 (Agrees-push seen part byte agrees is same.0 same.1)
        | inr differs ↦ differing differs.1 (Differs-push seen part byte agrees is differs.0)
      ],
    )

name_next : (known : Option ℕ) (p : Place) (part : List ℕ) (byte : ℕ) → Named known part p → is_name_byte byte ≡ true → (q : Place) × (place_after p byte ≡ Some q) × Named known (part ++ byte ∷ []) q
unfolding place_after
name_next known p part byte named is =
    let no_colon : (byte == 58) ≡ false = differs_from is_name_byte 58 byte no_name_colon is in
    elim named [
      | agreeing seen at agrees ↦ let one = name_one seen known part byte agrees is in (one.0, (rw (at, no_colon) one.1), one.2)
      | differing at differs ↦ (OtherName known, (rw (at, no_colon, is) refl), differing refl (Differs-more part byte differs is))
    ]

name_run : (xs : List ℕ) (known : Option ℕ) (p : Place) (part : List ℕ) → Named known part p → AllPass is_name_byte xs → (q : Place) × (places p xs ≡ Some q) × Named known (part ++ xs) q
name_run [] known p part named all =
    let P : List ℕ → Type 0 = λ t. Named known t p in
    (p, refl, subst P (sym (append-nil part)) named)
name_run (x ∷ xs) known p part named all =
    let one = name_next known p part x named (All-head (λ b. is_name_byte b ≡ true) x xs all) in
    let rest = name_run xs known one.0 (part ++ x ∷ []) one.2 (All-tail (λ b. is_name_byte b ≡ true) x xs all) in
    let P : List ℕ → Type 0 = λ t. Named known t rest.0 in
    (rest.0, places-first p one.0 rest.0 x xs one.1 rest.1, subst P (append_assoc part (x ∷ []) xs) rest.2)

line_first : (known : Option ℕ) (byte : ℕ) → is_name_byte byte ≡ true → place_after (Line known) byte ≡ in_name 0 known byte
unfolding place_after
line_first None byte is = refl
line_first (Some n) byte is = let no_return : (byte == 13) ≡ false = differs_from is_name_byte 13 byte no_name_return is in rw no_return refl

line_name : (known : Option ℕ) (name : List ℕ) → 0 < length name → AllPass is_name_byte name → (q : Place) × (places (Line known) name ≡ Some q) × Named known name q
line_name known [] some all = absurd (omega arith)
line_name known (x ∷ xs) some all =
    let is = All-head (λ b. is_name_byte b ≡ true) x xs all in
    let one = name_one 0 known [] x Agrees-nil is in
    let rest = name_run xs known one.0 (x ∷ []) one.2 (All-tail (λ b. is_name_byte b ≡ true) x xs all) in
    (rest.0, places-first (Line known) one.0 rest.0 x xs (line_first known x is ∙ one.1) rest.1, rest.2)

-- the colon behind the length's name, and behind another
length_colon : (part : List ℕ) (q : Place) → Named None part q → IsLengthName part → place_after q 58 ≡ Some (Digits 0 0)
unfolding place_after
length_colon part q named is = elim named [
  | agreeing seen at agrees ↦ rw (at, Agrees-IsLengthName seen part agrees is) refl
  | differing at differs ↦ absurd (Differs-IsLengthName part differs is)
]

other_colon : (known : Option ℕ) (part : List ℕ) (q : Place) → Named known part q → (IsLengthName part → ⊥) → place_after q 58 ≡ Some (Gap known)
unfolding place_after
other_colon known part q named other = elim named [
  | agreeing seen at agrees ↦
      let P : ℕ → Type 0 = λ k. Agrees k part in
      let less : (seen == 14) ≡ false = ne_eqb seen 14 (λ whole. other (IsLengthName-Agrees part (subst P whole agrees))) in
      rw (at, less) refl
  | differing at differs ↦ rw at refl
]

-- ---- values

gap_blank : (known : Option ℕ) (byte : ℕ) → is_blank byte ≡ true → place_after (Gap known) byte ≡ Some (Gap known)
unfolding place_after
gap_blank known byte is = rw is refl

gap_run : (known : Option ℕ) (blanks : List ℕ) → AllPass is_blank blanks → places (Gap known) blanks ≡ Some (Gap known)
gap_run known [] all = refl
gap_run known (x ∷ xs) all =
    places-first (Gap known) (Gap known) (Gap known) x xs (gap_blank known x (All-head (λ b. is_blank b ≡ true) x xs all)) (gap_run known xs (All-tail (λ b. is_blank b ≡ true) x xs all))

data InValue (known : Option ℕ) (q : Place) : Type 0 where
  in_gap : q ≡ Gap known → InValue known q
  in_value : q ≡ Value known → InValue known q

value_next : (known : Option ℕ) (p : Place) (byte : ℕ) → InValue known p → is_printed byte ≡ true → (q : Place) × (place_after p byte ≡ Some q) × InValue known q
unfolding place_after
value_next known p byte within is =
    let no_return : (byte == 13) ≡ false = differs_from is_printed 13 byte not_printed_return is in
    elim within [
      | in_gap at ↦ elim (cases_Bool (is_blank byte)) [
        | inl blank ↦ (Gap known, (rw (at, blank) refl), in_gap refl)
        | inr none ↦ (Value known, (rw (at, none, no_return, is) refl), in_value refl)
      ]
      | in_value at ↦ (Value known, (rw (at, no_return, is) refl), in_value refl)
    ]

value_run : (value : List ℕ) (known : Option ℕ) (p : Place) → InValue known p → AllPass is_printed value → (q : Place) × (places p value ≡ Some q) × InValue known q
value_run [] known p within all = (p, refl, within)
value_run (x ∷ xs) known p within all =
    let one = value_next known p x within (All-head (λ b. is_printed b ≡ true) x xs all) in
    let rest = value_run xs known one.0 one.2 (All-tail (λ b. is_printed b ≡ true) x xs all) in
    (rest.0, places-first p one.0 rest.0 x xs one.1 rest.1, rest.2)

value_ends : (known : Option ℕ) (q : Place) → InValue known q → places q line_end ≡ Some (Line known)
unfolding place_after is_blank
value_ends known q within = elim within [ in_gap at ↦ rw at refl | in_value at ↦ rw at refl ]

-- ---- lengths

before_digits : (byte : ℕ) → is_blank byte ≡ true → place_after (Digits 0 0) byte ≡ Some (Digits 0 0)
unfolding place_after
before_digits byte is = rw (blank_is_no_digit byte is, is) refl

blanks_run : (blanks : List ℕ) → AllPass is_blank blanks → places (Digits 0 0) blanks ≡ Some (Digits 0 0)
blanks_run [] all = refl
blanks_run (x ∷ xs) all =
    places-first (Digits 0 0) (Digits 0 0) (Digits 0 0) x xs (before_digits x (All-head (λ b. is_blank b ≡ true) x xs all)) (blanks_run xs (All-tail (λ b. is_blank b ≡ true) x xs all))

-- a number does not shrink by more digits
value_grows : (v : ℕ) (ds : List ℕ) → v ≤ digits_value_after 10 v ds
value_grows v [] = omega arith
value_grows v (d ∷ ds) = omega (arith, value_grows (v * 10 + digit_value d) ds)

-- one digit more
digit_goes : (c v d : ℕ) → digit_value d < 10 → c < 10 → v * 10 + digit_value d ≤ 16777216 → place_after (Digits c v) d ≡ Some (Digits (c + 1) (v * 10 + digit_value d))
unfolding place_after
digit_goes c v d h few small =
    let is = digit d h in
    let short : nat_lt c 10 ≡ true = grind (arith, nat_tests) in
    let within : nat_le (v * 10 + (d - 48)) 16777216 ≡ true = rw (sym is.1) (grind (arith, nat_tests)) in
    rw (is.0, short, within, is.1) refl

-- more digits
digits_go : (c v : ℕ) (ds : List ℕ) → AllDigits 10 ds → c + length ds ≤ 10 → digits_value_after 10 v ds ≤ 16777216 → places (Digits c v) ds ≡ Some (Digits (c + length ds) (digits_value_after 10 v ds))
digits_go c v [] all few small = let e : c ≡ c + 0 = omega arith in cc
digits_go c v (d ∷ ds) all few small =
    let w : ℕ = v * 10 + digit_value d in
    let grows : w ≤ digits_value_after 10 w ds = value_grows w ds in
    let first : place_after (Digits c v) d ≡ Some (Digits (c + 1) w) = digit_goes c v d all.0 (omega arith) (omega arith) in
    let others : places (Digits (c + 1) w) ds ≡ Some (Digits (c + 1 + length ds) (digits_value_after 10 w ds)) = digits_go (c + 1) w ds all.1 (omega arith) small in
    let e : c + 1 + length ds ≡ c + length (d ∷ ds) = omega arith in
    rw first (others ∙ ap (λ k. Some (Digits k (digits_value_after 10 w ds))) e)

digits_end : (c v : ℕ) → 0 < c → places (Digits c v) line_end ≡ Some (Line (Some v))
unfolding place_after
digits_end c v some = let e : (c == 0) ≡ false = grind (arith, nat_tests) in rw e refl

-- ---- lines

-- the name, the colon and the blanks of the length's line
pub length_field_goes : (line name digits tail : List ℕ) → IsField line name digits → IsLengthName name → places (Line None) (line ++ tail) ≡ places (Digits 0 0) (digits ++ tail)
length_field_goes line name digits tail f is =
    let named = f.named in
    let at = line_name None name named.some named.all in
    let parts : line ++ tail ≡ name ++ 58 ∷ (f.blanks ++ (digits ++ tail)) =
    ap (λ t. t ++ tail) f.is ∙ append_assoc name (58 ∷ (f.blanks ++ digits)) tail ∙ ap (λ t. name ++ 58 ∷ t) (append_assoc f.blanks digits tail) in
    ap (places (Line None)) parts
    ∙ places-then (Line None) at.0 name (58 ∷ (f.blanks ++ (digits ++ tail))) at.1
    ∙ ap (option_and_then (λ r. places r (f.blanks ++ (digits ++ tail)))) (length_colon name at.0 at.2 is)
    ∙ places-then (Digits 0 0) (Digits 0 0) f.blanks (digits ++ tail) (blanks_run f.blanks f.blank)

length_line_goes : (line : List ℕ) (n : ℕ) → SaysLength line n → places (Line None) (line ++ line_end) ≡ Some (Line (Some n))
length_line_goes line n h =
    let numbers : places (Digits 0 0) h.digits ≡ Some (Digits (0 + length h.digits) n) =
    rw (← h.value) (digits_go 0 0 h.digits h.numeral.1 (let few = h.few in omega arith) (let bound = h.bound in let value = h.value in omega arith)) in
    length_field_goes line h.name h.digits line_end h.field h.named
    ∙ places-then (Digits 0 0) (Digits (0 + length h.digits) n) h.digits line_end numbers
    ∙ digits_end (0 + length h.digits) n (let some = h.numeral.0 in omega arith)

other_line_goes : (known : Option ℕ) (line : List ℕ) → IsOtherLine line → places (Line known) (line ++ line_end) ≡ Some (Line known)
other_line_goes known line h =
    let f = h.field in
    let named = f.named in
    let at = line_name known h.name named.some named.all in
    let value = value_run h.value known (Gap known) (in_gap refl) h.printed in
    let parts : line ++ line_end ≡ h.name ++ 58 ∷ (f.blanks ++ (h.value ++ line_end)) =
    ap (λ t. t ++ line_end) f.is ∙ append_assoc h.name (58 ∷ (f.blanks ++ h.value)) line_end ∙ ap (λ t. h.name ++ 58 ∷ t) (append_assoc f.blanks h.value line_end) in
    ap (places (Line known)) parts
    ∙ places-then (Line known) at.0 h.name (58 ∷ (f.blanks ++ (h.value ++ line_end))) at.1
    ∙ ap (option_and_then (λ r. places r (f.blanks ++ (h.value ++ line_end)))) (other_colon known h.name at.0 at.2 h.other)
    ∙ places-then (Gap known) (Gap known) f.blanks (h.value ++ line_end) (gap_run known f.blanks f.blank)
    ∙ places-then (Gap known) value.0 h.value line_end value.1
    ∙ value_ends known value.0 value.2

pub other_lines_go : (known : Option ℕ) (lines : List (List ℕ)) → All IsOtherLine lines → places (Line known) (ended lines) ≡ Some (Line known)
other_lines_go known [] all = refl
other_lines_go known (line ∷ lines) all =
    places-then (Line known) (Line known) (line ++ line_end) (ended lines) (other_line_goes known line (All-head IsOtherLine line lines all))
    ∙ other_lines_go known lines (All-tail IsOtherLine line lines all)

lines_go : (lines : List (List ℕ)) (n : ℕ) → SayOneLength lines n → places (Line None) (ended lines) ≡ Some (Line (Some n))
lines_go lines n h =
    let parts : ended lines ≡ ended h.before ++ ((h.line ++ line_end) ++ ended h.behind) =
    ap ended h.is ∙ flat_map-append (λ (line : List ℕ). line ++ line_end) h.before (h.line ∷ h.behind) in
    ap (places (Line None)) parts
    ∙ places-then (Line None) (Line None) (ended h.before) ((h.line ++ line_end) ++ ended h.behind) (other_lines_go None h.before h.others_before)
    ∙ places-then (Line None) (Line (Some n)) (h.line ++ line_end) (ended h.behind) (length_line_goes h.line n h.says)
    ∙ other_lines_go (Some n) h.behind h.others_behind

-- A whole header comes to its end, with the length that it says.
pub lines_end : (lines : List (List ℕ)) (n : ℕ) → SayOneLength lines n → places (Line None) (ended lines ++ line_end) ≡ Some (Whole n)
unfolding place_after
lines_end lines n h = places-then (Line None) (Line (Some n)) (ended lines) line_end (lines_go lines n h) ∙ refl
