-- What the bytes of a header are where it has come to a place, and so what a whole header says.
use Rattle.std.proofs.Common.{◌≡◌, ℕ, ◌<◌, inl, inr, List, [], ◌∷◌, ◌++◌, Option, Some, None, refl, sym, ◌∙◌, ap, subst, arith, append_assoc}
use Rattle.std.proofs.lemmas.List.{append-nil}
use Rattle.std.proofs.lemmas.List.Elements.{All-nil}
use Rattle.std.specs.Prelude.{option_and_then}
use Rattle.rpc_framing.specs.Frames.{IsOtherLine, SayOneLength, line_end, ended}
use Rattle.rpc_framing.specs.Places.{place_after}
use Rattle.rpc_framing.specs.declared.place.Place.{Place}
use Rattle.rpc_framing.specs.declared.place.Place.TheVariants.{Line, Name, OtherName, Digits, Gap, Value, Return, LastReturn, Whole}
use Rattle.rpc_framing.proofs.Lines.{HasLines, HasLines-other, SayOneLength-push, ended-push, Agrees, Agrees-nil, Agrees-push, Differs, Differs-push, Differs-more, IsLengthName-Agrees, Agrees-IsLengthName, Differs-IsLengthName, IsName-Agrees, Begun, Begun-push, LengthPart, LengthPart-colon, LengthPart-blank, LengthPart-digit, SaysLength-part, GapPart, GapPart-colon, GapPart-blank, IsOtherLine-gap, IsOtherLine-push}
use Rattle.rpc_framing.proofs.Moves.{NameMove, in_a_name, empty_line, line_moves, name_more, length_colon, other_colon, named_moves, name_ends, name_goes_on, other_moves, digit_more, blank_more, digits_end, digits_moves, ValueMove, value_ends, value_more, value_moves, gap_moves, return_moves, last_return_moves, whole_moves}

-- ---- the places of a list of bytes

-- the place behind these bytes
abbrev pub places : Place → List ℕ → Option Place
places place [] = Some place
places place (byte ∷ bytes) = option_and_then (λ next. places next bytes) (place_after place byte)

-- the value between two steps that may fail
pub some_first : {A B : Type 0} (f : A → Option B) (o : Option A) (y : B) → option_and_then f o ≡ Some y → (x : A) × (o ≡ Some x) × (f x ≡ Some y)
some_first f None y e = absurd cc
some_first f (Some x) y e = (x, refl, e)

pub places-append : (p : Place) (xs ys : List ℕ) → places p (xs ++ ys) ≡ option_and_then (λ q. places q ys) (places p xs)
places-append p [] ys = refl
places-append p (x ∷ xs) ys =
    elim (place_after p x) as (λ o. option_and_then (λ q. places q (xs ++ ys)) o ≡ option_and_then (λ q. places q ys) (option_and_then (λ q. places q xs) o))
    [ None ↦ refl | Some q ↦ places-append q xs ys ]

-- The place behind the bytes that bring a header to another.
pub places-then : (p q : Place) (xs ys : List ℕ) → places p xs ≡ Some q → places p (xs ++ ys) ≡ places q ys
places-then p q xs ys e = places-append p xs ys ∙ ap (option_and_then (λ r. places r ys)) e

pub places-one : (p q : Place) (byte : ℕ) → place_after p byte ≡ Some q → places p (byte ∷ []) ≡ Some q
places-one p q byte e = ap (option_and_then (λ r. places r [])) e

pub places-first : (p q r : Place) (byte : ℕ) (bytes : List ℕ) → place_after p byte ≡ Some q → places q bytes ≡ Some r → places p (byte ∷ bytes) ≡ Some r
places-first p q r byte bytes e f = ap (option_and_then (λ s. places s bytes)) e ∙ f

-- ---- what the bytes are

abbrev pub Says : Place → List ℕ → Type 0
Says (Line known) bytes = Begun known bytes []
Says (Name seen known) bytes = (part : List ℕ) × Begun known bytes part × Agrees seen part × (0 < seen)
Says (OtherName known) bytes = (part : List ℕ) × Begun known bytes part × Differs part
Says (Digits count value) bytes = (part : List ℕ) × Begun None bytes part × LengthPart count value part
Says (Gap known) bytes = (part : List ℕ) × Begun known bytes part × GapPart part
Says (Value known) bytes = (part : List ℕ) × Begun known bytes part × IsOtherLine part
Says (Return known) bytes = (lines : List (List ℕ)) × HasLines known lines × (bytes ++ 10 ∷ [] ≡ ended lines)
Says (LastReturn n) bytes = (lines : List (List ℕ)) × SayOneLength lines n × (bytes ≡ ended lines ++ 13 ∷ [])
Says (Whole n) bytes = (lines : List (List ℕ)) × SayOneLength lines n × (bytes ≡ ended lines ++ line_end)

-- the end of a line that has begun
line_ends : (known : Option ℕ) (bytes part : List ℕ) (h : Begun known bytes part) → (bytes ++ 13 ∷ []) ++ 10 ∷ [] ≡ ended (h.lines ++ part ∷ [])
line_ends known bytes part h =
    append_assoc bytes (13 ∷ []) (10 ∷ []) ∙ ap (λ t. t ++ line_end) h.is ∙ append_assoc (ended h.lines) part line_end ∙ sym (ended-push h.lines part)

other_ends : (known : Option ℕ) (bytes part : List ℕ) → Begun known bytes part → IsOtherLine part → Says (Return known) (bytes ++ 13 ∷ [])
other_ends known bytes part h line = (h.lines ++ part ∷ [], HasLines-other known h.lines part h.has line, line_ends known bytes part h)

-- a byte of a name
name_step : (seen : ℕ) (known : Option ℕ) (q : Place) (bytes part : List ℕ) (byte : ℕ) → Begun known bytes part → Agrees seen part → NameMove seen known byte q → Says q (bytes ++ byte ∷ [])
name_step seen known q bytes part byte h agrees m = elim m.to [
  | inl same ↦ rw same.2 (part ++ byte ∷ [], Begun-push known bytes part byte h, Agrees-push seen part byte agrees m.named same.0 same.1, (omega arith))
  | inr differs ↦ rw differs.1 (part ++ byte ∷ [], Begun-push known bytes part byte h, Differs-push seen part byte agrees m.named differs.0)
]

-- a byte of a value, or its end
value_step : (known : Option ℕ) (q : Place) (bytes part : List ℕ) (byte : ℕ) → Begun known bytes part → IsOtherLine part → ValueMove known byte q → Says q (bytes ++ byte ∷ [])
value_step known q bytes part byte h line m = elim m [
  | value_ends is to ↦ rw (to, is) (other_ends known bytes part h line)
  | value_more is to ↦ rw to (part ++ byte ∷ [], Begun-push known bytes part byte h, IsOtherLine-push part byte line is)
]

-- one byte more
says_step : (p q : Place) (bytes : List ℕ) (byte : ℕ) → Says p bytes → place_after p byte ≡ Some q → Says q (bytes ++ byte ∷ [])
says_step (Line known) q bytes byte h e = elim (line_moves known byte q e) [
  | in_a_name m ↦ name_step 0 known q bytes [] byte h Agrees-nil m
  | empty_line n is_known is to ↦
      let P : Option ℕ → Type 0 = λ o. HasLines o h.lines in
      rw (to, is) (h.lines, subst P is_known h.has, ap (λ t. t ++ 13 ∷ []) (h.is ∙ append-nil (ended h.lines)))
]
says_step (Name seen known) q bytes byte h e = elim (named_moves seen known byte q e) [
  | name_more m ↦ name_step seen known q bytes h.0 byte h.1 h.2 m
  | length_colon is whole first to ↦
      let P : Option ℕ → Type 0 = λ o. Begun o bytes h.0 in
      let Q : ℕ → Type 0 = λ k. Agrees k h.0 in
      let named : LengthPart 0 0 (h.0 ++ 58 ∷ []) = LengthPart-colon h.0 (IsName-Agrees seen h.0 h.2 h.3) (IsLengthName-Agrees h.0 (subst Q whole h.2)) in
      rw (to, is) (h.0 ++ 58 ∷ [], Begun-push None bytes h.0 58 (subst P first h.1), named)
  | other_colon is part to ↦
      rw (to, is) (h.0 ++ 58 ∷ [], Begun-push known bytes h.0 58 h.1, GapPart-colon h.0 (IsName-Agrees seen h.0 h.2 h.3) (λ whole. part (Agrees-IsLengthName seen h.0 h.2 whole)))
]
says_step (OtherName known) q bytes byte h e = elim (other_moves known byte q e) [
  | name_ends is to ↦ rw (to, is) (h.0 ++ 58 ∷ [], Begun-push known bytes h.0 58 h.1, GapPart-colon h.0 (let d = h.2 in d.named) (Differs-IsLengthName h.0 h.2))
  | name_goes_on is to ↦ rw to (h.0 ++ byte ∷ [], Begun-push known bytes h.0 byte h.1, Differs-more h.0 byte h.2 is)
]
says_step (Digits count value) q bytes byte h e = elim (digits_moves count value byte q e) [
  | digit_more is few small to ↦ rw to (h.0 ++ byte ∷ [], Begun-push None bytes h.0 byte h.1, LengthPart-digit count value h.0 byte h.2 is few small)
  | blank_more none is to ↦
      let P : ℕ → Type 0 = λ k. LengthPart k value h.0 in
      let Q : ℕ → Type 0 = λ k. LengthPart k value (h.0 ++ byte ∷ []) in
      rw to (h.0 ++ byte ∷ [], Begun-push None bytes h.0 byte h.1, subst Q (sym none) (LengthPart-blank value h.0 byte (subst P none h.2) is))
  | digits_end some is to ↦
      let begun = h.1 in
      let line = SaysLength-part count value h.0 h.2 (omega arith) in
      rw (to, is) (begun.lines ++ h.0 ∷ [], SayOneLength-push begun.lines h.0 value begun.has line, line_ends None bytes h.0 begun)
]
says_step (Gap known) q bytes byte h e = elim (gap_moves known byte q e) [
  | inl blank ↦ rw blank.1 (h.0 ++ byte ∷ [], Begun-push known bytes h.0 byte h.1, GapPart-blank h.0 byte h.2 blank.0)
  | inr m ↦ value_step known q bytes h.0 byte h.1 (IsOtherLine-gap h.0 h.2) m
]
says_step (Value known) q bytes byte h e = value_step known q bytes h.0 byte h.1 h.2 (value_moves known byte q e)
says_step (Return known) q bytes byte h e =
    let m = return_moves known byte q e in
    rw (m.1, m.0) (record { lines = h.0; has = h.1; is = h.2 ∙ sym (append-nil (ended h.0)) })
says_step (LastReturn n) q bytes byte h e =
    let m = last_return_moves n byte q e in
    rw (m.1, m.0) (h.0, h.1, ap (λ t. t ++ 10 ∷ []) h.2 ∙ append_assoc (ended h.0) (13 ∷ []) (10 ∷ []))
says_step (Whole n) q bytes byte h e = absurd (whole_moves n byte q e)

-- more bytes, one after the other
says_from : (p q : Place) (bytes tail : List ℕ) → Says p bytes → places p tail ≡ Some q → Says q (bytes ++ tail)
says_from p q bytes [] h e = rw append-nil (let P : Place → Type 0 = λ r. Says r bytes in subst P (let f : p ≡ q = cc in f) h)
says_from p q bytes (byte ∷ tail) h e =
    let first = some_first (λ r. places r tail) (place_after p byte) q e in
    let P : List ℕ → Type 0 = λ b. Says q b in
    subst P (append_assoc bytes (byte ∷ []) tail) (says_from first.0 q (bytes ++ byte ∷ []) tail (says_step p first.0 bytes byte h first.1) first.2)

-- What bytes are that bring a header to a place.
pub Says-places : (q : Place) (bytes : List ℕ) → places (Line None) bytes ≡ Some q → Says q bytes
Says-places q bytes e = says_from (Line None) q [] bytes (record { lines = []; has = All-nil IsOtherLine; is = refl }) e
