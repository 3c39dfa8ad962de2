-- Where a byte takes a place in a header: the tests of each place, read as facts.
use Rattle.std.proofs.Common.{◌≡◌, ℕ, ◌+◌, ◌-◌, ◌*◌, ◌<◌, ◌≤◌, ◌⊎◌, inl, inr, true, false, Bool, get_or, Option, Some, None, refl, arith}
use Rattle.std.proofs.lemmas.Bool.Decides.{nat_tests}
use Rattle.std.proofs.lemmas.Bool.{cases_Bool, ltb-true, leb-true, eqb-true, eqb-false, and_parts, both_ways}
use Rattle.std.proofs.lemmas.Str.Parse.{digit_from_value}
use Rattle.std.specs.Prelude.{nat_lt, nat_le, ◌==◌, ◌&&◌, if◌then◌else◌}
use Rattle.std.specs.Char.{digit_value, is_ascii_digit, to_ascii_lowercase}
use Rattle.std.specs.Int.{IsInRange}
use Rattle.rpc_framing.specs.Frames.{is_name_byte, is_blank, is_printed, length_name}
use Rattle.rpc_framing.specs.Places.{place_after, in_name, first_length, after_colon, after_digit, beside_digits, after_value, after_return}
use Rattle.rpc_framing.specs.declared.place.Place.{Place}
use Rattle.rpc_framing.specs.declared.place.Place.TheVariants.{Line, Name, OtherName, Digits, Gap, Value, Return, LastReturn, Whole}

-- one of two, by a test
pub pick : {A : Type 0} (b : Bool) (x y : Option A) (q : A) → (if b then x else y) ≡ Some q → ((b ≡ true) × (x ≡ Some q)) ⊎ ((b ≡ false) × (y ≡ Some q))
pick true x y q e = inl (refl, e)
pick false x y q e = inr (refl, e)

-- what a decimal digit is
pub digit : (d : ℕ) → digit_value d < 10 → (is_ascii_digit d ≡ true) × (digit_value d ≡ d - 48)
digit d h = let r : IsInRange 48 57 d = digit_from_value d h in (grind (arith, nat_tests), grind (arith, nat_tests))

pub digit_back : (d : ℕ) → is_ascii_digit d ≡ true → (digit_value d < 10) × (digit_value d ≡ d - 48)
digit_back d h = (grind (arith, nat_tests), grind (arith, nat_tests))

-- ---- names

pub record NameMove (seen : ℕ) (known : Option ℕ) (byte : ℕ) (q : Place) : Type 0 where
  pub named : is_name_byte byte ≡ true
  pub to : ((seen < 14) × (get_or length_name seen 0 ≡ to_ascii_lowercase byte) × (q ≡ Name (seen + 1) known))
      ⊎ ((seen < 14 → get_or length_name seen 0 ≡ to_ascii_lowercase byte → ⊥) × (q ≡ OtherName known))

-- the place behind a name's byte
pub name_goes : (seen : ℕ) (known : Option ℕ) (byte : ℕ) → is_name_byte byte ≡ true → (q : Place) × (in_name seen known byte ≡ Some q) × NameMove seen known byte q
name_goes seen known byte named =
    elim (cases_Bool (nat_lt seen 14)) [
      | inr far ↦
          let is : in_name seen known byte ≡ Some (OtherName known) = rw (named, far) refl in
          (OtherName known, is, record { named = named; to = inr ((λ less same. let near : nat_lt seen 14 ≡ true = grind (arith, nat_tests) in both_ways (nat_lt seen 14) far near), refl) })
      | inl near ↦ elim (cases_Bool (get_or length_name seen 0 == to_ascii_lowercase byte)) [
        | inl same ↦
            let is : in_name seen known byte ≡ Some (Name (seen + 1) known) = rw (named, near, same) refl in
            (Name (seen + 1) known, is, record { named = named; to = inl (ltb-true seen 14 near, eqb-true (get_or length_name seen 0) (to_ascii_lowercase byte) same, refl) })
        | inr other ↦
            let is : in_name seen known byte ≡ Some (OtherName known) = rw (named, near, other) refl in
            (OtherName known, is, record { named = named; to = inr ((λ less same. eqb-false (get_or length_name seen 0) (to_ascii_lowercase byte) other same), refl) })
      ]
    ]

pub name_moves : (seen : ℕ) (known : Option ℕ) (byte : ℕ) (q : Place) → in_name seen known byte ≡ Some q → NameMove seen known byte q
name_moves seen known byte q e =
    elim (cases_Bool (is_name_byte byte)) [
      | inr other ↦ absurd (let f : None ≡ Some q = rw other at e in cc)
      | inl named ↦
          let goes = name_goes seen known byte named in
          let same : goes.0 ≡ q = (let is = goes.1 in cc) in
          let P : Place → Type 0 = λ p. NameMove seen known byte p in
          rw (← same) goes.2
    ]

-- ---- the other places

-- a line begins with a name, or the empty line where the length is known
pub data LineMove (byte : ℕ) (known : Option ℕ) (q : Place) : Type 0 where
  in_a_name : NameMove 0 known byte q → LineMove byte known q
  empty_line : (n : ℕ) → known ≡ Some n → byte ≡ 13 → q ≡ LastReturn n → LineMove byte known q

pub line_moves : (known : Option ℕ) (byte : ℕ) (q : Place) → place_after (Line known) byte ≡ Some q → LineMove byte known q
unfolding place_after
line_moves None byte q e = in_a_name (name_moves 0 None byte q e)
line_moves (Some n) byte q e = elim (pick (byte == 13) (Some (LastReturn n)) (in_name 0 (Some n) byte) q e) [
  | inl r ↦ empty_line n refl (eqb-true byte 13 r.0) (let is = r.1 in cc)
  | inr m ↦ in_a_name (name_moves 0 (Some n) byte q m.1)
]

-- behind the length's name a length, once; behind another a value; and else a name's byte
pub data NamedMove (seen : ℕ) (known : Option ℕ) (byte : ℕ) (q : Place) : Type 0 where
  name_more : NameMove seen known byte q → NamedMove seen known byte q
  length_colon : byte ≡ 58 → seen ≡ 14 → known ≡ None → q ≡ Digits 0 0 → NamedMove seen known byte q
  other_colon : byte ≡ 58 → (seen ≡ 14 → ⊥) → q ≡ Gap known → NamedMove seen known byte q

first_known : (known : Option ℕ) (q : Place) → first_length known ≡ Some q → (known ≡ None) × (q ≡ Digits 0 0)
first_known None q e = (refl, (cc))
first_known (Some n) q e = absurd cc

pub named_moves : (seen : ℕ) (known : Option ℕ) (byte : ℕ) (q : Place) → place_after (Name seen known) byte ≡ Some q → NamedMove seen known byte q
unfolding place_after
named_moves seen known byte q e = elim (pick (byte == 58) (after_colon seen known) (in_name seen known byte) q e) [
  | inr m ↦ name_more (name_moves seen known byte q m.1)
  | inl c ↦ elim (pick (seen == 14) (first_length known) (Some (Gap known)) q c.1) [
    | inl whole ↦ let first = first_known known q whole.1 in length_colon (eqb-true byte 58 c.0) (eqb-true seen 14 whole.0) first.0 first.1
    | inr part ↦ other_colon (eqb-true byte 58 c.0) (eqb-false seen 14 part.0) (let is = part.1 in cc)
  ]
]

pub data OtherMove (known : Option ℕ) (byte : ℕ) (q : Place) : Type 0 where
  name_ends : byte ≡ 58 → q ≡ Gap known → OtherMove known byte q
  name_goes_on : is_name_byte byte ≡ true → q ≡ OtherName known → OtherMove known byte q

pub other_moves : (known : Option ℕ) (byte : ℕ) (q : Place) → place_after (OtherName known) byte ≡ Some q → OtherMove known byte q
unfolding place_after
other_moves known byte q e = elim (pick (byte == 58) (Some (Gap known)) (if is_name_byte byte then Some (OtherName known) else None) q e) [
  | inl c ↦ name_ends (eqb-true byte 58 c.0) (let is = c.1 in cc)
  | inr m ↦ elim (pick (is_name_byte byte) (Some (OtherName known)) None q m.1) [
    | inl letter ↦ name_goes_on letter.0 (let is = letter.1 in cc)
    | inr none ↦ absurd (let is = none.1 in cc)
  ]
]

pub data DigitsMove (count value byte : ℕ) (q : Place) : Type 0 where
  digit_more : digit_value byte < 10 → count < 10 → value * 10 + digit_value byte ≤ 16777216 → q ≡ Digits (count + 1) (value * 10 + digit_value byte) → DigitsMove count value byte q
  blank_more : count ≡ 0 → is_blank byte ≡ true → q ≡ Digits count value → DigitsMove count value byte q
  digits_end : (count ≡ 0 → ⊥) → byte ≡ 13 → q ≡ Return (Some value) → DigitsMove count value byte q

digit_moves : (count value byte : ℕ) (q : Place) → is_ascii_digit byte ≡ true → after_digit count value (byte - 48) ≡ Some q → DigitsMove count value byte q
digit_moves count value byte q is_digit e =
    elim (pick (nat_lt count 10 && nat_le (value * 10 + (byte - 48)) 16777216) (Some (Digits (count + 1) (value * 10 + (byte - 48)))) None q e) [
      | inr none ↦ absurd (let is = none.1 in cc)
      | inl fits ↦
          let d = digit_back byte is_digit in
          let parts = and_parts (nat_lt count 10) (nat_le (value * 10 + (byte - 48)) 16777216) fits.0 in
          let small = leb-true (value * 10 + (byte - 48)) 16777216 parts.1 in
          let same = d.1 in
          digit_more d.0 (ltb-true count 10 parts.0) (omega arith) (let is = fits.1 in cc)
    ]

pub digits_moves : (count value byte : ℕ) (q : Place) → place_after (Digits count value) byte ≡ Some q → DigitsMove count value byte q
unfolding place_after
digits_moves count value byte q e = elim (pick (is_ascii_digit byte) (after_digit count value (byte - 48)) (beside_digits count value byte) q e) [
  | inl d ↦ digit_moves count value byte q d.0 d.1
  | inr b ↦ elim (pick (count == 0) (if is_blank byte then Some (Digits count value) else None) (if byte == 13 then Some (Return (Some value)) else None) q b.1) [
    | inl none ↦ elim (pick (is_blank byte) (Some (Digits count value)) None q none.1) [
      | inl blank ↦ blank_more (eqb-true count 0 none.0) blank.0 (let is = blank.1 in cc)
      | inr dead ↦ absurd (let is = dead.1 in cc)
    ]
    | inr some ↦ elim (pick (byte == 13) (Some (Return (Some value))) None q some.1) [
      | inl last ↦ digits_end (eqb-false count 0 some.0) (eqb-true byte 13 last.0) (let is = last.1 in cc)
      | inr dead ↦ absurd (let is = dead.1 in cc)
    ]
  ]
]

pub data ValueMove (known : Option ℕ) (byte : ℕ) (q : Place) : Type 0 where
  value_ends : byte ≡ 13 → q ≡ Return known → ValueMove known byte q
  value_more : is_printed byte ≡ true → q ≡ Value known → ValueMove known byte q

value_test : (known : Option ℕ) (byte : ℕ) (q : Place) → after_value known byte ≡ Some q → ValueMove known byte q
value_test known byte q e = elim (pick (byte == 13) (Some (Return known)) (if is_printed byte then Some (Value known) else None) q e) [
  | inl c ↦ value_ends (eqb-true byte 13 c.0) (let is = c.1 in cc)
  | inr m ↦ elim (pick (is_printed byte) (Some (Value known)) None q m.1) [
    | inl p ↦ value_more p.0 (let is = p.1 in cc)
    | inr none ↦ absurd (let is = none.1 in cc)
  ]
]

pub value_moves : (known : Option ℕ) (byte : ℕ) (q : Place) → place_after (Value known) byte ≡ Some q → ValueMove known byte q
unfolding place_after
value_moves known byte q e = value_test known byte q e

pub gap_moves : (known : Option ℕ) (byte : ℕ) (q : Place) → place_after (Gap known) byte ≡ Some q → ((is_blank byte ≡ true) × (q ≡ Gap known)) ⊎ ValueMove known byte q
unfolding place_after
gap_moves known byte q e = elim (pick (is_blank byte) (Some (Gap known)) (after_value known byte) q e) [
  | inl blank ↦ inl (blank.0, (let is = blank.1 in cc))
  | inr m ↦ inr (value_test known byte q m.1)
]

return_test : (next : Place) (byte : ℕ) (q : Place) → after_return next byte ≡ Some q → (byte ≡ 10) × (q ≡ next)
return_test next byte q e = elim (pick (byte == 10) (Some next) None q e) [
  | inl feed ↦ (eqb-true byte 10 feed.0, (let is = feed.1 in cc))
  | inr none ↦ absurd (let is = none.1 in cc)
]

pub return_moves : (known : Option ℕ) (byte : ℕ) (q : Place) → place_after (Return known) byte ≡ Some q → (byte ≡ 10) × (q ≡ Line known)
unfolding place_after
return_moves known byte q e = return_test (Line known) byte q e

pub last_return_moves : (n byte : ℕ) (q : Place) → place_after (LastReturn n) byte ≡ Some q → (byte ≡ 10) × (q ≡ Whole n)
unfolding place_after
last_return_moves n byte q e = return_test (Whole n) byte q e

pub whole_moves : (n byte : ℕ) (q : Place) → place_after (Whole n) byte ≡ Some q → ⊥
unfolding place_after
whole_moves n byte q e = cc
