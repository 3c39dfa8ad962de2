-- The stages of a header are its grammar: a whole header comes to its end, and a stage short of it goes on to one.
use Rattle.std.proofs.Common.{◌≡◌, ℕ, ◌+◌, ◌<◌, ◌≤◌, inl, inr, true, List, [], ◌∷◌, ◌++◌, length, Some, None, refl, sym, ◌∙◌, ap, arith, length-append, append_assoc}
use Rattle.std.proofs.lemmas.Bool.{leb-true, le-leb}
use Rattle.std.proofs.lemmas.List.{append-nil}
use Rattle.std.proofs.lemmas.List.Elements.{All-nil}
use Rattle.std.proofs.lemmas.List.Sums.{AllPass-from_list_all}
use Rattle.std.specs.Prelude.{option_and_then, nat_le, codes}
use Rattle.std.specs.Str.Parse.{IsNumeral, digits_value}
use Rattle.rpc_framing.specs.Faults.{Departs}
use Rattle.rpc_framing.specs.Frames.{is_name_byte, is_blank, length_name, IsOtherLine, line_end, ended, label, IsHead}
use Rattle.rpc_framing.specs.Places.{place_after, length_at, need, departure_at}
use Rattle.rpc_framing.specs.Stages.{start, fitting, stage_after, stage_from, whole_length}
use Rattle.rpc_framing.specs.declared.header.Stage.{Stage}
use Rattle.rpc_framing.specs.declared.place.Place.{Place}
use Rattle.rpc_framing.specs.declared.place.Place.TheVariants.{Line, Name, OtherName, Digits, Gap, Value, Return, LastReturn, Whole}
use Rattle.rpc_framing.proofs.Moves.{pick, whole_moves}
use Rattle.rpc_framing.proofs.Says.{places, places-then, some_first, Says, Says-places}
use Rattle.rpc_framing.proofs.Runs.{lines_end}
use Rattle.rpc_framing.proofs.Needs.{need_least, completed, need_some}
use Rattle.rpc_framing.proofs.Greatest.{Departs-at}

-- ---- lists of bytes

-- the bytes of two lists, one after the other
pub stage_from-append : (s : Stage) (xs ys : List ℕ) → stage_from s (xs ++ ys) ≡ option_and_then (λ t. stage_from t ys) (stage_from s xs)
stage_from-append s [] ys = refl
stage_from-append s (x ∷ xs) ys =
    elim (stage_after s x) as (λ o. option_and_then (λ t. stage_from t (xs ++ ys)) o ≡ option_and_then (λ t. stage_from t ys) (option_and_then (λ t. stage_from t xs) o))
    [ None ↦ refl | Some t ↦ stage_from-append t xs ys ]

-- The bytes behind those that bring a header to a stage.
pub stage_from-then : (s t : Stage) (xs ys : List ℕ) → stage_from s xs ≡ Some t → stage_from s (xs ++ ys) ≡ stage_from t ys
stage_from-then s t xs ys e = stage_from-append s xs ys ∙ ap (option_and_then (λ u. stage_from u ys)) e

-- No byte brings back what no header goes on with.
pub stage_from-dead : (s : Stage) (xs ys : List ℕ) → stage_from s xs ≡ None → stage_from s (xs ++ ys) ≡ None
stage_from-dead s xs ys e = stage_from-append s xs ys ∙ ap (option_and_then (λ u. stage_from u ys)) e

-- ---- stages and places

-- one byte more: the next place, a byte more, and room for what it needs
stage_step : (s t : Stage) (byte : ℕ) → stage_after s byte ≡ Some t → (place_after s.place byte ≡ Some t.place) × (t.size ≡ s.size + 1) × (t.size + need t.place ≤ 4096)
unfolding stage_after
stage_step s t byte e =
    let first = some_first (λ p. fitting (s.size + 1) p) (place_after s.place byte) t e in
    elim (pick (nat_le (s.size + 1 + need first.0) 4096) (Some (record { place = first.0; size = s.size + 1 })) None t first.2) [
      | inr none ↦ absurd (let is = none.1 in cc)
      | inl fits ↦
          let next : Stage = record { place = first.0; size = s.size + 1 } in
          let is : next ≡ t = (let f = fits.1 in cc) in
          let at : first.0 ≡ t.place = ap (λ (u : Stage). u.place) is in
          let size : s.size + 1 ≡ t.size = ap (λ (u : Stage). u.size) is in
          let room = leb-true (s.size + 1 + need first.0) 4096 fits.0 in
          let same : need first.0 ≡ need t.place = ap need at in
          (first.1 ∙ ap Some at, sym size, (omega arith))
    ]

-- more bytes: their places, as many bytes more, and room still
record Comes (s t : Stage) (bytes : List ℕ) : Type 0 where
  places_are : places s.place bytes ≡ Some t.place
  size : t.size ≡ s.size + length bytes
  fits : s.size + need s.place ≤ 4096 → t.size + need t.place ≤ 4096

stage_places : (bytes : List ℕ) (s t : Stage) → stage_from s bytes ≡ Some t → Comes s t bytes
stage_places [] s t e =
    let is : s ≡ t = cc in
    let size : s.size ≡ t.size = ap (λ (u : Stage). u.size) is in
    let same : need s.place ≡ need t.place = ap (λ (u : Stage). need u.place) is in
    record { places_are = ap (λ (u : Stage). Some u.place) is; size = omega arith; fits = λ h. omega arith }
stage_places (byte ∷ bytes) s t e =
    let first = some_first (λ u. stage_from u bytes) (stage_after s byte) t e in
    let one = stage_step s first.0 byte first.1 in
    let rest = stage_places bytes first.0 t first.2 in
    let size = rest.size in
    record {
      places_are = ap (option_and_then (λ q. places q bytes)) one.0 ∙ rest.places_are;
      size = omega (arith, one.1);
      fits = λ h. rest.fits one.2;
    }

-- bytes that bring a place to a header's end, with room for all of them
places_stage : (bytes : List ℕ) (s : Stage) (n : ℕ) → places s.place bytes ≡ Some (Whole n) → s.size + length bytes ≤ 4096 → stage_from s bytes ≡ Some (record { place = Whole n; size = s.size + length bytes })
unfolding stage_after
places_stage [] s n e room =
    let at : s.place ≡ Whole n = cc in
    let size : s.size ≡ s.size + 0 = omega arith in
    ap (λ p. Some (record { place = p; size = s.size })) at ∙ ap (λ k. Some (record { place = Whole n; size = k })) size
places_stage (byte ∷ bytes) s n e room =
    let first = some_first (λ q. places q bytes) (place_after s.place byte) (Whole n) e in
    let least = need_least bytes first.0 n first.2 in
    let next : Stage = record { place = first.0; size = s.size + 1 } in
    let fits : nat_le (s.size + 1 + need first.0) 4096 ≡ true = le-leb (s.size + 1 + need first.0) 4096 (omega arith) in
    let fitted : fitting (s.size + 1) first.0 ≡ Some next = rw fits refl in
    let one : stage_after s byte ≡ Some next = ap (option_and_then (λ p. fitting (s.size + 1) p)) first.1 ∙ fitted in
    let counted : s.size + 1 + length bytes ≡ s.size + length (byte ∷ bytes) = omega arith in
    ap (option_and_then (λ u. stage_from u bytes)) one
    ∙ places_stage bytes next n first.2 (omega arith)
    ∙ ap (λ k. Some (record { place = Whole n; size = k })) counted

-- a place that says a length is a header's end
length_at-Some : (p : Place) (n : ℕ) → length_at p ≡ Some n → p ≡ Whole n
length_at-Some (Line known) n e = cc
length_at-Some (Name seen known) n e = cc
length_at-Some (OtherName known) n e = cc
length_at-Some (Digits count value) n e = cc
length_at-Some (Gap known) n e = cc
length_at-Some (Value known) n e = cc
length_at-Some (Return known) n e = cc
length_at-Some (LastReturn m) n e = cc
length_at-Some (Whole m) n e = cc

-- no byte belongs to a header behind its end
pub stage_from-whole : (s t : Stage) (n : ℕ) (xs : List ℕ) → whole_length s ≡ Some n → stage_from s xs ≡ Some t → (xs ≡ []) × (t ≡ s)
stage_from-whole s t n [] whole e = (refl, (cc))
stage_from-whole s t n (x ∷ xs) whole e =
    let first = some_first (λ u. stage_from u xs) (stage_after s x) t e in
    let one = stage_step s first.0 x first.1 in
    let after : place_after (Whole n) x ≡ Some first.0.place = ap (λ p. place_after p x) (sym (length_at-Some s.place n whole)) ∙ one.0 in
    absurd (whole_moves n x first.0.place after)

-- ---- whole headers

-- A whole header comes to its end, with the length that it says.
pub stage_from-IsHead : (head : List ℕ) (n : ℕ) → IsHead head n → (s : Stage) × (stage_from start head ≡ Some s) × (whole_length s ≡ Some n)
stage_from-IsHead head n h =
    let goes : places (Line None) head ≡ Some (Whole n) = ap (places (Line None)) h.is ∙ lines_end h.lines n h.says in
    let fits = h.fits in
    (record { place = Whole n; size = 0 + length head }, places_stage head start n goes (omega arith), refl)

-- A header that comes to its end is whole, and says its length.
pub IsHead-stage_from : (bytes : List ℕ) (s : Stage) (n : ℕ) → stage_from start bytes ≡ Some s → whole_length s ≡ Some n → IsHead bytes n
IsHead-stage_from bytes s n e whole =
    let comes = stage_places bytes start s e in
    let at : s.place ≡ Whole n = length_at-Some s.place n whole in
    let says : Says (Whole n) bytes = Says-places (Whole n) bytes (comes.places_are ∙ ap Some at) in
    let room = comes.fits (omega arith) in
    let size = comes.size in
    record { lines = says.0; says = says.1; is = says.2; fits = omega arith }

-- A header that has come to a stage short of its end goes on to a whole one.
pub record HeadGoesOn (bytes : List ℕ) : Type 0 where
  pub more : List ℕ
  pub length_said : ℕ
  pub some : 0 < length more
  pub head : IsHead (bytes ++ more) length_said

-- A header that comes to another stage goes on to a whole one.
pub HeadGoesOn-stage_from : (s : Stage) (bytes : List ℕ) → stage_from start bytes ≡ Some s → whole_length s ≡ None → HeadGoesOn bytes
HeadGoesOn-stage_from s bytes e short =
    let comes = stage_places bytes start s e in
    let says : Says s.place bytes = Says-places s.place bytes comes.places_are in
    let rest = completed s.place bytes says short in
    let some = need_some s.place bytes says short in
    let room = comes.fits (omega arith) in
    let size = comes.size in
    let rest_size = rest.size in
    let whole : places (Line None) (bytes ++ rest.more) ≡ Some (Whole rest.n) = places-then (Line None) s.place bytes rest.more comes.places_are ∙ rest.goes in
    let lines : Says (Whole rest.n) (bytes ++ rest.more) = Says-places (Whole rest.n) (bytes ++ rest.more) whole in
    record {
      more = rest.more;
      length_said = rest.n;
      some = omega arith;
      head = record { lines = lines.0; says = lines.1; is = lines.2; fits = omega (arith, length-append bytes rest.more) };
    }

-- What is wrong with a byte that does not go on from a stage.
pub Departs-stage : (s : Stage) (bytes : List ℕ) (byte : ℕ) → stage_from start bytes ≡ Some s → Departs (departure_at s.place byte) (bytes ++ byte ∷ [])
Departs-stage s bytes byte e =
    let comes = stage_places bytes start s e in
    Departs-at s.place bytes byte (Says-places s.place bytes comes.places_are) comes.places_are

-- ---- the header that is written

-- its line says the length, with one blank
pub IsHead-written : (digits : List ℕ) (n : ℕ) → IsNumeral 10 digits → length digits ≤ 10 → digits_value 10 digits ≡ n → n ≤ 16777216 → IsHead (label ++ (digits ++ (line_end ++ line_end))) n
unfolding label length_name is_name_byte is_blank
IsHead-written digits n numeral few value bound =
    let name : List ℕ = codes "Content-Length" in
    let line : List ℕ = name ++ 58 ∷ ((32 ∷ []) ++ digits) in
    let parts : label ++ (digits ++ (line_end ++ line_end)) ≡ ended (line ∷ []) ++ line_end =
    sym (append_assoc label digits (line_end ++ line_end)) ∙ sym (append_assoc (label ++ digits) line_end line_end) ∙ ap (λ t. t ++ line_end) (sym (append-nil (line ++ line_end))) in
    record {
      lines = line ∷ [];
      says = record {
        before = [];
        line = line;
        behind = [];
        others_before = All-nil IsOtherLine;
        says = record {
          name = name;
          digits = digits;
          field = record {
            blanks = 32 ∷ [];
            named = record { some = omega arith; all = AllPass-from_list_all is_name_byte name refl };
            blank = AllPass-from_list_all is_blank (32 ∷ []) refl;
            is = refl;
          };
          named = record { same = refl };
          numeral = numeral;
          few = few;
          value = value;
          bound = bound;
        };
        others_behind = All-nil IsOtherLine;
        is = refl;
      };
      is = parts;
      fits = omega (arith, length-append label (digits ++ (line_end ++ line_end)), length-append digits (line_end ++ line_end));
    }
