-- The byte with which a length passes the greatest, at its place.
use Rattle.std.proofs.Common.{◌≡◌, ℕ, ◌+◌, ◌-◌, ◌*◌, ◌<◌, inl, inr, true, List, [], ◌∷◌, ◌++◌, length, Some, None, refl, sym, ◌∙◌, ap, subst, arith, append_assoc, length-append}
use Rattle.std.proofs.lemmas.Bool.Decides.{nat_tests}
use Rattle.std.proofs.lemmas.Bool.{cases_Bool, and_parts, both_ways, ltb-true}
use Rattle.std.specs.Prelude.{nat_lt, ◌&&◌}
use Rattle.std.specs.Char.{digit_value, is_ascii_digit}
use Rattle.std.specs.Str.Parse.{AllDigits, digits_value, digits_value_after}
use Rattle.rpc_framing.specs.Faults.{PassesGreatest, Departs}
use Rattle.rpc_framing.specs.Frames.{ended}
use Rattle.rpc_framing.specs.Places.{place_after, departs_with, departure_at}
use Rattle.rpc_framing.specs.declared.place.Departure.{Departure}
use Rattle.rpc_framing.specs.declared.place.Departure.TheVariants.{BadHeader, TooLong}
use Rattle.rpc_framing.specs.declared.place.Place.{Place}
use Rattle.rpc_framing.specs.declared.place.Place.TheVariants.{Line, Name, OtherName, Digits, Gap, Value, Return, LastReturn, Whole}
use Rattle.rpc_framing.proofs.Lists.{last_of, same_last}
use Rattle.rpc_framing.proofs.Lines.{Begun-push, IsField-value, AllDigits-push, value-push}
use Rattle.rpc_framing.proofs.Moves.{digit, digit_back, digit_more, blank_more, digits_end, digits_moves}
use Rattle.rpc_framing.proofs.Says.{places, places-then, some_first, Says}
use Rattle.rpc_framing.proofs.Runs.{blank_is_no_digit, length_field_goes, other_lines_go}

-- digits without the last are digits
AllDigits-last : (ds : List ℕ) (d : ℕ) → AllDigits 10 (ds ++ d ∷ []) → AllDigits 10 ds × (digit_value d < 10)
AllDigits-last [] d all = (tt, all.0)
AllDigits-last (c ∷ ds) d all = let rest = AllDigits-last ds d all.1 in ((all.0, rest.0), rest.1)

-- where digits bring a length that they do not spoil
digits_alive : (c v : ℕ) (ds : List ℕ) (p : Place) → AllDigits 10 ds → places (Digits c v) ds ≡ Some p → p ≡ Digits (c + length ds) (digits_value_after 10 v ds)
digits_alive c v [] p all e = let same : c ≡ c + 0 = omega arith in cc
digits_alive c v (d ∷ ds) p all e =
    let first = some_first (λ q. places q ds) (place_after (Digits c v) d) p e in
    let w : ℕ = v * 10 + digit_value d in
    let counted : c + 1 + length ds ≡ c + length (d ∷ ds) = omega arith in
    elim (digits_moves c v d first.0 first.1) [
      | digit_more is few small to ↦
          let rest : places (Digits (c + 1) w) ds ≡ Some p = ap (λ q. places q ds) (sym to) ∙ first.2 in
          digits_alive (c + 1) w ds p all.1 rest ∙ ap (λ k. Digits k (digits_value_after 10 w ds)) counted
      | blank_more none is to ↦ absurd (both_ways (is_ascii_digit d) (blank_is_no_digit d is) (digit d all.0).0)
      | digits_end some is to ↦ absurd (let f : is_ascii_digit 13 ≡ true = ap is_ascii_digit (sym is) ∙ (digit d all.0).0 in cc)
    ]

-- a digit with which a number is too large
passing : (v d : ℕ) → digit_value d < 10 → 16777216 < v * 10 + digit_value d → departs_with v d ≡ TooLong
passing v d is large =
    let known = digit d is in
    let over : nat_lt 16777216 (v * 10 + (d - 48)) ≡ true = rw (sym known.1) (grind (arith, nat_tests)) in
    rw (known.0, over) refl

-- Bytes that end in too large a length depart with its last digit.
passes_departs : (xs : List ℕ) (byte : ℕ) (p : Place) → PassesGreatest (xs ++ byte ∷ []) → places (Line None) xs ≡ Some p → departure_at p byte ≡ TooLong
passes_departs xs byte p h alive =
    let last = last_of h.digits h.numeral.0 in
    let ds : List ℕ = last.0 in
    let d : ℕ = last.1 in
    let f = h.field in
    let P : List ℕ → Type 0 = λ t. AllDigits 10 t in
    let digits = AllDigits-last ds d (subst P last.2 h.numeral.1) in
    let line : List ℕ = h.name ++ 58 ∷ (f.blanks ++ ds) in
    let parts : h.line ≡ line ++ d ∷ [] =
    f.is ∙ ap (λ t. h.name ++ 58 ∷ (f.blanks ++ t)) last.2
    ∙ ap (λ t. h.name ++ 58 ∷ t) (sym (append_assoc f.blanks ds (d ∷ []))) ∙ sym (append_assoc h.name (58 ∷ (f.blanks ++ ds)) (d ∷ [])) in
    let whole : xs ++ byte ∷ [] ≡ (ended h.lines ++ line) ++ d ∷ [] = h.is ∙ ap (λ t. ended h.lines ++ t) parts ∙ sym (append_assoc (ended h.lines) line (d ∷ [])) in
    let same = same_last xs (ended h.lines ++ line) byte d whole in
    let field : places (Line None) (line ++ []) ≡ places (Digits 0 0) (ds ++ []) =
    length_field_goes line h.name ds [] (record { blanks = f.blanks; named = f.named; blank = f.blank; is = refl }) h.named in
    let nil : (ys : List ℕ) → ys ++ [] ≡ ys = append_nil in
    let goes : places (Digits 0 0) ds ≡ Some p =
    ap (places (Digits 0 0)) (sym (nil ds)) ∙ sym field ∙ ap (places (Line None)) (nil line)
    ∙ sym (places-then (Line None) (Line None) (ended h.lines) line (other_lines_go None h.lines h.others))
    ∙ ap (places (Line None)) (sym same.0) ∙ alive in
    let at : p ≡ Digits (0 + length ds) (digits_value_after 10 0 ds) = digits_alive 0 0 ds p digits.0 goes in
    let value : digits_value 10 h.digits ≡ digits_value_after 10 0 ds * 10 + digit_value d = ap (digits_value 10) last.2 ∙ value-push 0 ds d in
    let large = h.large in
    ap (λ q. departure_at q byte) at ∙ ap (departs_with (digits_value_after 10 0 ds)) same.1 ∙ passing (digits_value_after 10 0 ds) d digits.1 (omega arith)
  where
    append_nil : (ys : List ℕ) → ys ++ [] ≡ ys
    append_nil [] = refl
    append_nil (y ∷ ys) = ap (λ t. y ∷ t) (append_nil ys)

-- Where a byte departs for too large a length, the bytes end in one.
departs_passes : (p : Place) (xs : List ℕ) (byte : ℕ) → Says p xs → departure_at p byte ≡ TooLong → PassesGreatest (xs ++ byte ∷ [])
departs_passes (Digits count value) xs byte h e =
    elim (cases_Bool (is_ascii_digit byte && nat_lt 16777216 (value * 10 + (byte - 48)))) [
      | inr less ↦ absurd (let f : BadHeader ≡ TooLong = rw less at e in cc)
      | inl over ↦
          let parts = and_parts (is_ascii_digit byte) (nat_lt 16777216 (value * 10 + (byte - 48))) over in
          let is = digit_back byte parts.0 in
          let large = ltb-true 16777216 (value * 10 + (byte - 48)) parts.1 in
          let same = is.1 in
          let begun = Begun-push None xs h.0 byte h.1 in
          let part = h.2 in
          let value_is : digits_value 10 (part.digits ++ byte ∷ []) ≡ value * 10 + digit_value byte = value-push 0 part.digits byte ∙ ap (λ n. n * 10 + digit_value byte) part.valued in
          record {
            lines = begun.lines;
            line = h.0 ++ byte ∷ [];
            name = part.name;
            digits = part.digits ++ byte ∷ [];
            others = begun.has;
            field = IsField-value h.0 part.name part.digits byte part.field;
            named = part.named;
            numeral = (omega (arith, length-append part.digits (byte ∷ [])), AllDigits-push part.digits byte part.all is.0);
            large = omega arith;
            is = begun.is;
          }
    ]
departs_passes (Line known) xs byte h e = cc
departs_passes (Name seen known) xs byte h e = cc
departs_passes (OtherName known) xs byte h e = cc
departs_passes (Gap known) xs byte h e = cc
departs_passes (Value known) xs byte h e = cc
departs_passes (Return known) xs byte h e = cc
departs_passes (LastReturn n) xs byte h e = cc
departs_passes (Whole n) xs byte h e = cc

-- What is wrong with a byte that does not go on from a place.
pub Departs-at : (p : Place) (xs : List ℕ) (byte : ℕ) → Says p xs → places (Line None) xs ≡ Some p → Departs (departure_at p byte) (xs ++ byte ∷ [])
Departs-at p xs byte h alive = go (departure_at p byte) refl
  where
    go : (departs : Departure) → departure_at p byte ≡ departs → Departs departs (xs ++ byte ∷ [])
    go TooLong e = departs_passes p xs byte h e
    go BadHeader e = λ passes. let large : departure_at p byte ≡ TooLong = passes_departs xs byte p passes alive in cc
