-- What a place in a header needs: no whole header is reached with fewer bytes, and with so many one is.
use Rattle.std.proofs.Common.{◌≡◌, ℕ, zero, suc, ◌+◌, ◌-◌, ◌*◌, ◌<◌, ◌≤◌, inl, inr, true, false, List, [], ◌∷◌, ◌++◌, length, drop, get_or, Option, Some, None, refl, sym, ◌∙◌, ap, arith, drop-cons, length-append}
use Rattle.std.proofs.lemmas.Bool.{cases_Bool, cases_eq, eqb-true, ne_eqb}
use Rattle.std.proofs.lemmas.List.{length-drop, drop_all}
use Rattle.std.proofs.lemmas.List.Elements.{All-get_or}
use Rattle.std.proofs.lemmas.List.Sums.{AllPass-from_list_all}
use Rattle.std.specs.Prelude.{option_and_then, ◌==◌}
use Rattle.std.specs.Char.{digit_value, to_ascii_lowercase}
use Rattle.std.specs.List.{AllPass}
use Rattle.rpc_framing.specs.Frames.{is_name_byte, is_blank, length_name}
use Rattle.rpc_framing.specs.Places.{place_after, length_at, name_needs, need, owed}
use Rattle.rpc_framing.specs.declared.place.Place.{Place}
use Rattle.rpc_framing.specs.declared.place.Place.TheVariants.{Line, Name, OtherName, Digits, Gap, Value, Return, LastReturn, Whole}
use Rattle.rpc_framing.proofs.Lines.{length-length_name, value-LengthPart}
use Rattle.rpc_framing.proofs.Moves.{NameMove, name_goes, in_a_name, empty_line, line_moves, name_more, length_colon, other_colon, named_moves, name_ends, name_goes_on, other_moves, digit_more, blank_more, digits_end, digits_moves, ValueMove, value_ends, value_more, value_moves, gap_moves, return_moves, last_return_moves, whole_moves}
use Rattle.rpc_framing.proofs.Says.{places, some_first, Says}
use Rattle.rpc_framing.proofs.Runs.{differs_from, no_name_colon}

-- ---- no fewer bytes

named_needs : (seen n : ℕ) → (5 ≤ name_needs seen (Some n)) × (name_needs seen (Some n) ≤ 6)
named_needs seen n = elim (cases_Bool (seen == 14)) [
  | inl whole ↦ rw whole ((omega arith), (omega arith))
  | inr part ↦ rw part ((omega arith), (omega arith))
]

name_step : (seen : ℕ) (known : Option ℕ) (byte : ℕ) (q : Place) → NameMove seen known byte q → name_needs seen known ≤ need q + 1
name_step seen None byte q m = elim m.to [
  | inl same ↦ rw same.2 (omega arith)
  | inr other ↦ rw other.1 (omega arith)
]
name_step seen (Some n) byte q m =
    let few = (named_needs seen n).1 in
    elim m.to [
      | inl same ↦ let more = (named_needs (seen + 1) n).0 in rw same.2 (omega arith)
      | inr other ↦ rw other.1 (omega arith)
    ]

first_step : (known : Option ℕ) (byte : ℕ) (q : Place) → NameMove 0 known byte q → owed known + 2 ≤ need q + 1
first_step None byte q m = name_step 0 None byte q m
first_step (Some n) byte q m =
    elim m.to [
      | inl same ↦ let more = (named_needs 1 n).0 in rw same.2 (omega arith)
      | inr other ↦ rw other.1 (omega arith)
    ]

value_step : (known : Option ℕ) (byte : ℕ) (q : Place) → ValueMove known byte q → owed known + 4 ≤ need q + 1
value_step known byte q m = elim m [ value_ends is to ↦ rw to (omega arith) | value_more is to ↦ rw to (omega arith) ]

gap_needs : (seen : ℕ) (known : Option ℕ) → (seen ≡ 14 → ⊥) → name_needs seen known ≤ owed known + 4 + 1
gap_needs seen None part = omega arith
gap_needs seen (Some n) part = rw (ne_eqb seen 14 part) (omega arith)

digits_need : (count value : ℕ) → need (Digits count value) ≤ 5
digits_need count value = elim (cases_Bool (count == 0)) [ inl none ↦ rw none (omega arith) | inr some ↦ rw some (omega arith) ]

digits_need_more : (count value : ℕ) → 4 ≤ need (Digits count value)
digits_need_more count value = elim (cases_Bool (count == 0)) [ inl none ↦ rw none (omega arith) | inr some ↦ rw some (omega arith) ]

need_step : (p q : Place) (byte : ℕ) → place_after p byte ≡ Some q → need p ≤ need q + 1
need_step (Line known) q byte e = elim (line_moves known byte q e) [
  | in_a_name m ↦ first_step known byte q m
  | empty_line n is_known is to ↦ rw (is_known, to) (omega arith)
]
need_step (Name seen known) q byte e = elim (named_moves seen known byte q e) [
  | name_more m ↦ name_step seen known byte q m
  | length_colon is whole first to ↦ rw (whole, first, to) (omega arith)
  | other_colon is part to ↦ rw to (let few = gap_needs seen known part in omega arith)
]
need_step (OtherName known) q byte e = elim (other_moves known byte q e) [
  | name_ends is to ↦ rw to (omega arith)
  | name_goes_on is to ↦ rw to (omega arith)
]
need_step (Digits count value) q byte e =
    let few = digits_need count value in
    elim (digits_moves count value byte q e) [
      | digit_more is less small to ↦ let more = digits_need_more (count + 1) (value * 10 + digit_value byte) in rw to (omega arith)
      | blank_more none is to ↦ rw to (omega arith)
      | digits_end some is to ↦ rw (to, ne_eqb count 0 some) (omega arith)
    ]
need_step (Gap known) q byte e = elim (gap_moves known byte q e) [
  | inl blank ↦ rw blank.1 (omega arith)
  | inr m ↦ value_step known byte q m
]
need_step (Value known) q byte e = value_step known byte q (value_moves known byte q e)
need_step (Return known) q byte e = rw (return_moves known byte q e).1 (omega arith)
need_step (LastReturn n) q byte e = rw (last_return_moves n byte q e).1 (omega arith)
need_step (Whole n) q byte e = absurd (whole_moves n byte q e)

-- No whole header is reached with fewer bytes.
pub need_least : (xs : List ℕ) (p : Place) (n : ℕ) → places p xs ≡ Some (Whole n) → need p ≤ length xs
need_least [] p n e = let is : p ≡ Whole n = cc in rw is (omega arith)
need_least (x ∷ xs) p n e =
    let first = some_first (λ q. places q xs) (place_after p x) (Whole n) e in
    let step = need_step p first.0 x first.1 in
    let rest = need_least xs first.0 n first.2 in
    omega arith

-- ---- and with so many

-- bytes that make a header whole, as many as its place needs
pub record Completed (p : Place) : Type 0 where
  pub more : List ℕ
  pub n : ℕ
  pub goes : places p more ≡ Some (Whole n)
  pub size : length more ≡ need p

line_completed : (known : Option ℕ) → Completed (Line known)
unfolding place_after length_name is_name_byte
line_completed None = record { more = length_name ++ 58 ∷ 48 ∷ 13 ∷ 10 ∷ 13 ∷ 10 ∷ []; n = 0; goes = refl; size = refl }
line_completed (Some n) = record { more = 13 ∷ 10 ∷ []; n = n; goes = refl; size = refl }

return_completed : (known : Option ℕ) → Completed (Return known)
unfolding place_after
return_completed known =
    let line = line_completed known in
    let size = line.size in
    record { more = 10 ∷ line.more; n = line.n; goes = line.goes; size = omega arith }

gap_completed : (known : Option ℕ) → Completed (Gap known)
unfolding place_after is_blank
gap_completed known =
    let rest = return_completed known in
    let size = rest.size in
    record { more = 13 ∷ rest.more; n = rest.n; goes = rest.goes; size = omega arith }

value_completed : (known : Option ℕ) → Completed (Value known)
unfolding place_after
value_completed known =
    let rest = return_completed known in
    let size = rest.size in
    record { more = 13 ∷ rest.more; n = rest.n; goes = rest.goes; size = omega arith }

other_name_completed : (known : Option ℕ) → Completed (OtherName known)
unfolding place_after
other_name_completed known =
    let rest = gap_completed known in
    let size = rest.size in
    record { more = 58 ∷ rest.more; n = rest.n; goes = rest.goes; size = omega arith }

digits_completed : (count value : ℕ) → (count ≡ 0 → value ≡ 0) → Completed (Digits count value)
unfolding place_after
digits_completed count value none_yet = elim (cases_eq count 0) [
  | inl none ↦
      let zero_value = none_yet none in
      rw (none, zero_value) (record { more = 48 ∷ 13 ∷ 10 ∷ 13 ∷ 10 ∷ []; n = 0; goes = refl; size = refl })
  | inr some ↦
      let is : (count == 0) ≡ false = ne_eqb count 0 some in
      record { more = 13 ∷ 10 ∷ 13 ∷ 10 ∷ []; n = value; goes = rw is refl; size = rw is refl }
]

-- each byte of the length's name is one of a name, in lower case
name_bytes : AllPass is_name_byte length_name
unfolding length_name is_name_byte
name_bytes = AllPass-from_list_all is_name_byte length_name refl

lower_case : AllPass (λ byte. to_ascii_lowercase byte == byte) length_name
unfolding length_name
lower_case = AllPass-from_list_all (λ byte. to_ascii_lowercase byte == byte) length_name refl

-- and goes on from those before it
name_byte_goes : (seen : ℕ) → seen < 14 → place_after (Name seen None) (get_or length_name seen 0) ≡ Some (Name (seen + 1) None)
unfolding place_after
name_byte_goes seen less =
    let size = length-length_name in
    let byte : ℕ = get_or length_name seen 0 in
    let named : is_name_byte byte ≡ true = All-get_or (λ b. is_name_byte b ≡ true) length_name seen 0 (omega arith) name_bytes in
    let lower : to_ascii_lowercase byte ≡ byte = eqb-true (to_ascii_lowercase byte) byte (All-get_or (λ b. (to_ascii_lowercase b == b) ≡ true) length_name seen 0 (omega arith) lower_case) in
    let no_colon : (byte == 58) ≡ false = differs_from is_name_byte 58 byte no_name_colon named in
    let one = name_goes seen None byte named in
    let move = one.2 in
    let to : one.0 ≡ Name (seen + 1) None = elim move.to [ inl same ↦ same.2 | inr other ↦ absurd (other.0 less (sym lower)) ] in
    rw no_colon (one.1 ∙ ap Some to)

-- the rest of the length's name
rest_of_name : (left seen : ℕ) (tail : List ℕ) → seen + left ≡ 14 → places (Name seen None) (drop seen length_name ++ tail) ≡ places (Name 14 None) tail
rest_of_name zero seen tail counted =
    let size = length-length_name in
    let all : seen ≡ 14 = omega arith in
    let none : drop seen length_name ≡ [] = drop_all seen length_name (omega arith) in
    ap (λ t. places (Name seen None) (t ++ tail)) none ∙ ap (λ k. places (Name k None) tail) all
rest_of_name (suc left) seen tail counted =
    let size = length-length_name in
    let less : seen < 14 = omega arith in
    let byte : ℕ = get_or length_name seen 0 in
    let cons : drop seen length_name ≡ byte ∷ drop (suc seen) length_name = drop-cons length_name seen 0 (omega arith) in
    let next : suc seen ≡ seen + 1 = omega arith in
    ap (λ t. places (Name seen None) (t ++ tail)) cons
    ∙ ap (option_and_then (λ q. places q (drop (suc seen) length_name ++ tail))) (name_byte_goes seen less)
    ∙ ap (λ k. places (Name (seen + 1) None) (drop k length_name ++ tail)) next
    ∙ rest_of_name left (seen + 1) tail (omega arith)

-- the end of the length's line and of the header
length_ends : List ℕ
length_ends = 58 ∷ 48 ∷ 13 ∷ 10 ∷ 13 ∷ 10 ∷ []

length_ends_go : places (Name 14 None) length_ends ≡ Some (Whole 0)
unfolding place_after length_ends
length_ends_go = refl

name_completed : (seen : ℕ) (known : Option ℕ) → seen ≤ 14 → Completed (Name seen known)
unfolding place_after is_blank is_name_byte length_ends
name_completed seen None short =
    let size = length-length_name in
    record {
      more = drop seen length_name ++ length_ends;
      n = 0;
      goes = rest_of_name (14 - seen) seen length_ends (omega arith) ∙ length_ends_go;
      size = omega (arith, length-append (drop seen length_name) length_ends, length-drop seen length_name);
    }
name_completed seen (Some n) short = elim (cases_eq seen 14) [
  | inl whole ↦ rw whole (record { more = 120 ∷ 58 ∷ 13 ∷ 10 ∷ 13 ∷ 10 ∷ []; n = n; goes = refl; size = refl })
  | inr part ↦
      let is : (seen == 14) ≡ false = ne_eqb seen 14 part in
      record { more = 58 ∷ 13 ∷ 10 ∷ 13 ∷ 10 ∷ []; n = n; goes = rw is refl; size = rw is refl }
]

last_return_completed : (n : ℕ) → Completed (LastReturn n)
unfolding place_after
last_return_completed n = record { more = 10 ∷ []; n = n; goes = refl; size = refl }

-- A header that is not whole goes on to one, with as many bytes as its place needs.
pub completed : (p : Place) (bytes : List ℕ) → Says p bytes → length_at p ≡ None → Completed p
completed (Line known) bytes h short = line_completed known
completed (Name seen known) bytes h short = let agrees = h.2 in name_completed seen known agrees.short
completed (OtherName known) bytes h short = other_name_completed known
completed (Digits count value) bytes h short = digits_completed count value (value-LengthPart count value h.0 h.2)
completed (Gap known) bytes h short = gap_completed known
completed (Value known) bytes h short = value_completed known
completed (Return known) bytes h short = return_completed known
completed (LastReturn n) bytes h short = last_return_completed n
completed (Whole n) bytes h short = absurd cc

-- which is one byte at least
pub need_some : (p : Place) (bytes : List ℕ) → Says p bytes → length_at p ≡ None → 0 < need p
need_some (Line known) bytes h short = omega arith
need_some (Name seen None) bytes h short = let agrees = h.2 in let few = agrees.short in omega arith
need_some (Name seen (Some n)) bytes h short = let more = (named_needs seen n).0 in omega arith
need_some (OtherName known) bytes h short = omega arith
need_some (Digits count value) bytes h short = let more = digits_need_more count value in omega arith
need_some (Gap known) bytes h short = omega arith
need_some (Value known) bytes h short = omega arith
need_some (Return known) bytes h short = omega arith
need_some (LastReturn n) bytes h short = omega arith
need_some (Whole n) bytes h short = absurd cc
