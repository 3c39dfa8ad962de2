-- What an index finds is what a look finds.
use Rattle.std.proofs.Common.{◌≡◌, ◌∙◌, ◌+◌, ◌-◌, ◌<◌, ◌≤◌, ℕ, suc, Bool, true, false, List, [], ◌∷◌, ◌++◌, drop, map, refl, sym, ap, subst, arith, inl, inr, append-nil}
use Rattle.std.specs.Prelude.{Option, Some, None, nat_lt, if◌then◌else◌}
use Rattle.std.proofs.lemmas.Bool.{cases_Bool, cases_lt, lt-ltb, le-ltb}
use Rattle.std.proofs.Math.Seq.{drop-nil}
use Rattle.std.specs.Str.{bytes_eq}
use Rattle.hl_base.specs.declared.set.Attr.{Attr}
use Rattle.lookahead_scan.specs.declared.index.Found.{Found}
use Rattle.lookahead_scan.specs.declared.sight.Label.{Label}
use Rattle.lookahead_scan.specs.declared.sight.Sight.{Sight}
use Rattle.lookahead_scan.specs.Looks.{Met, find_label, labels_to_end}
use Rattle.lookahead_scan.specs.Places.{founds_at, founds_from, ends_at, ends_from, first_behind, first_end, up_to}

below : (m n : ℕ) → m < n → nat_lt m n ≡ true
below m n h = lt-ltb m n h

not_below : (m n : ℕ) → n ≤ m → nat_lt m n ≡ false
not_below m n h = le-ltb m n h

-- labels of a statement that does not stand behind are passed over
passed : (name : List ℕ) (at after : ℕ) (labels : List Label) (rest : List Found) → at ≤ after → first_behind after (founds_at name at labels ++ rest) ≡ first_behind after rest
passed name at after [] rest h = refl
passed name at after (label ∷ labels) rest h = elim (cases_Bool (bytes_eq label.name name)) [
  | inl same ↦ rw (same, not_below after at h) (passed name at after labels rest h)
  | inr other ↦ rw other (passed name at after labels rest h)
]

-- what is found, where it is the first or behind it
abbrev pub found_or : ℕ → Option Attr → Option Found → Option Found
found_or at None next = next
found_or at (Some attr) next = Some (record { at = at; attr = attr })

-- labels of a statement that stands behind
reached : (name : List ℕ) (at after : ℕ) (labels : List Label) (rest : List Found) → after < at →
    first_behind after (founds_at name at labels ++ rest) ≡ found_or at (find_label name labels) (first_behind after rest)
reached name at after [] rest h = refl
reached name at after (label ∷ labels) rest h = elim (cases_Bool (bytes_eq label.name name)) [
  | inl same ↦ rw (same, below after at h) refl
  | inr other ↦ rw other (reached name at after labels rest h)
]

-- the first label of two lists
abbrev pub or_next : Option Attr → Option Attr → Option Attr
or_next None next = next
or_next (Some attr) next = Some attr

find-append : (name : List ℕ) (labels more : List Label) → find_label name (labels ++ more) ≡ or_next (find_label name labels) (find_label name more)
find-append name [] more = refl
find-append name (label ∷ labels) more = elim (cases_Bool (bytes_eq label.name name)) [
  | inl same ↦ rw same refl
  | inr other ↦ rw other (find-append name labels more)
]

-- END that does not stand behind is passed over
end_passed : (at after : ℕ) (one : Met) (rest : List ℕ) → at ≤ after → first_end after (ends_at at one ++ rest) ≡ first_end after rest
end_passed at after one rest h = elim (cases_Bool one.ended) [
  | inl ends ↦ rw (ends, not_below after at h) refl
  | inr goes ↦ rw goes refl
]

-- what stands from a number on is not before it
abbrev pub IsFrom : ℕ → Option ℕ → Type 0
IsFrom at None = Unit {0}
IsFrom at (Some end) = at ≤ end

abbrev pub IsFoundFrom : ℕ → Option Found → Type 0
IsFoundFrom at None = Unit {0}
IsFoundFrom at (Some found) = at ≤ found.at

weaker_end : (at : ℕ) (end : Option ℕ) → IsFrom (at + 1) end → IsFrom at end
weaker_end at None h = tt
weaker_end at (Some end) h = let more : at + 1 ≤ end = h in omega arith

weaker_found : (at : ℕ) (found : Option Found) → IsFoundFrom (at + 1) found → IsFoundFrom at found
weaker_found at None h = tt
weaker_found at (Some found) h = let more : at + 1 ≤ found.at = h in omega arith

found_or_from : (at : ℕ) (attr : Option Attr) (next : Option Found) → IsFoundFrom (at + 1) next → IsFoundFrom at (found_or at attr next)
found_or_from at None next h = weaker_found at next h
found_or_from at (Some attr) next h = let same : at ≤ at = omega arith in same

first_end-from : (at after : ℕ) (list : List Met) → after < at → IsFrom at (first_end after (ends_from at list))
first_end-from at after [] h = tt
first_end-from at after (one ∷ rest) h =
    let on : after < at + 1 = omega arith in
    elim (cases_Bool one.ended) [
      | inl ends ↦ rw (ends, below after at h) (let same : at ≤ at = omega arith in same)
      | inr goes ↦ rw goes (weaker_end at (first_end after (ends_from (at + 1) rest)) (first_end-from (at + 1) after rest on))
    ]

first_behind-from : (name : List ℕ) (at after : ℕ) (list : List Met) → after < at → IsFoundFrom at (first_behind after (founds_from name at list))
first_behind-from name at after [] h = tt
first_behind-from name at after (one ∷ rest) h =
    let on : after < at + 1 = omega arith in
    let P : Option Found → Type 0 = IsFoundFrom at in
    subst P (sym (reached name at after one.labels (founds_from name (at + 1) rest) h))
    (found_or_from at (find_label name one.labels) (first_behind after (founds_from name (at + 1) rest)) (first_behind-from name (at + 1) after rest on))

-- a label at the first statement is found: END does not stand before it
up_to-here : (at : ℕ) (attr : Attr) (end : Option ℕ) → IsFrom at end → up_to (Some (record { at = at; attr = attr })) end ≡ Some attr
up_to-here at attr None h = refl
up_to-here at attr (Some end) h = rw (not_below end at h) refl

-- behind END at the first statement nothing is found
up_to-ended : (at : ℕ) (found : Option Found) → IsFoundFrom (at + 1) found → up_to found (Some at) ≡ None
up_to-ended at None h = refl
up_to-ended at (Some found) h = let less : at < found.at = (let more : at + 1 ≤ found.at = h in omega arith) in rw (below at found.at less) refl

-- at a statement that stands behind
first_found : (at : ℕ) (attr : Option Attr) (next : Option Found) (end : Option ℕ) (later : Option Attr) → IsFrom at end → up_to next end ≡ later → up_to (found_or at attr next) end ≡ or_next attr later
first_found at None next end later h same = same
first_found at (Some attr) next end later h same = up_to-here at attr end h

or_next-none : (attr : Option Attr) → or_next attr None ≡ attr
or_next-none None = refl
or_next-none (Some attr) = refl

-- from a number on that stands behind
behind : (name : List ℕ) (at after : ℕ) (list : List Met) → after < at →
    up_to (first_behind after (founds_from name at list)) (first_end after (ends_from at list)) ≡ find_label name (labels_to_end list)
behind name at after [] h = refl
behind name at after (one ∷ rest) h =
    let on : after < at + 1 = omega arith in
    let next = first_behind after (founds_from name (at + 1) rest) in
    ap (λ found. up_to found (first_end after (ends_from at (one ∷ rest)))) (reached name at after one.labels (founds_from name (at + 1) rest) h)
    ∙ elim (cases_Bool one.ended) [
      | inl ends ↦ rw (ends, below after at h)
          (first_found at (find_label name one.labels) next (Some at) None (let same : at ≤ at = omega arith in same) (up_to-ended at next (first_behind-from name (at + 1) after rest on))
          ∙ or_next-none (find_label name one.labels))
      | inr goes ↦ rw goes
          (first_found at (find_label name one.labels) next (first_end after (ends_from (at + 1) rest)) (find_label name (labels_to_end rest))
          (weaker_end at (first_end after (ends_from (at + 1) rest)) (first_end-from (at + 1) after rest on)) (behind name (at + 1) after rest on)
          ∙ sym (find-append name one.labels (labels_to_end rest)))
    ]

-- from a number on
from : (name : List ℕ) (at after : ℕ) (list : List Met) → at ≤ after + 1 →
    up_to (first_behind after (founds_from name at list)) (first_end after (ends_from at list)) ≡ find_label name (labels_to_end (drop (after + 1 - at) list))
from name at after [] h = ap (λ rest. find_label name (labels_to_end rest)) (sym (drop-nil (after + 1 - at)))
from name at after (one ∷ rest) h = elim (cases_lt after at) [
  | inl behind_it ↦
      let here : after + 1 - at ≡ 0 = omega arith in
      behind name at after (one ∷ rest) behind_it ∙ ap (λ n. find_label name (labels_to_end (drop n (one ∷ rest)))) (sym here)
  | inr before ↦
      let more : after + 1 - at ≡ suc (after + 1 - (at + 1)) = omega arith in
      let next : at + 1 ≤ after + 1 = omega arith in
      ap (λ found. up_to found (first_end after (ends_from at (one ∷ rest)))) (passed name at after one.labels (founds_from name (at + 1) rest) before)
      ∙ ap (up_to (first_behind after (founds_from name (at + 1) rest))) (end_passed at after one (ends_from (at + 1) rest) before)
      ∙ from name (at + 1) after rest next
      ∙ ap (λ n. find_label name (labels_to_end (drop n (one ∷ rest)))) (sym more)
]

-- what an index finds of all statements
pub finds-look : (name : List ℕ) (after : ℕ) (list : List Met) →
    up_to (first_behind after (founds_from name 0 list)) (first_end after (ends_from 0 list)) ≡ find_label name (labels_to_end (drop (after + 1) list))
finds-look name after list =
    let all : after + 1 - 0 ≡ after + 1 = omega arith in
    let low : 0 ≤ after + 1 = omega arith in
    from name 0 after list low ∙ ap (λ n. find_label name (labels_to_end (drop n list))) all

-- what an index finds that holds what all statements give
pub finds-indexed : (f : Sight → Met) (left : List Sight) (at : ℕ) (name : List ℕ) (after : ℕ) (list : List Met) (founds : List Found) (ends : List ℕ) →
    left ≡ [] → founds ++ founds_from name at (map f left) ≡ founds_from name 0 list → ends ++ ends_from at (map f left) ≡ ends_from 0 list →
    up_to (first_behind after founds) (first_end after ends) ≡ find_label name (labels_to_end (drop (after + 1) list))
finds-indexed f left at name after list founds ends none held ended =
    let all : founds ≡ founds_from name 0 list =
    sym (append-nil founds) ∙ ap (λ (xs : List Sight). founds ++ founds_from name at (map f xs)) (sym none) ∙ held in
    let whole : ends ≡ ends_from 0 list = sym (append-nil ends) ∙ ap (λ (xs : List Sight). ends ++ ends_from at (map f xs)) (sym none) ∙ ended in
    ap (λ (fs : List Found). up_to (first_behind after fs) (first_end after ends)) all
    ∙ ap (λ (es : List ℕ). up_to (first_behind after (founds_from name 0 list)) (first_end after es)) whole
    ∙ finds-look name after list
