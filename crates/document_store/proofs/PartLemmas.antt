-- Two texts, one behind the other: where a line of both begins between them, and changes of the second.
use Rattle.std.proofs.Common.{◌≡◌, ◌∙◌, ℕ, zero, suc, ◌+◌, ◌-◌, ◌<◌, ◌≤◌, Bool, true, false, cond, List, [], ◌∷◌, ◌++◌, length, take, drop, get_or, map, refl, sym, inl, inr, ap, arith, length-append, length-drop, append_assoc, append-nil, get_or-drop, zero-add, Option, Some, None}
use Rattle.std.proofs.Math.Nat.{suc-add}
use Rattle.std.proofs.Math.Seq.{take-add, take-append-add, drop-append-add, drop-append_seam}
use Rattle.std.proofs.lemmas.Bool.{cases_Bool, cases_lt, le-ltb}
use Rattle.std.proofs.lemmas.List.{drop-drop, drop-map}
use Rattle.std.proofs.lemmas.List.Folds.{concat-append}
use Rattle.std.specs.List.{concat, onto_first}
use Rattle.std.specs.Option.{option_map}
use Rattle.std.specs.Prelude.{nat_lt, ◌==◌, ◌&&◌}
use Rattle.hl_base.specs.Texts.{lines}
use Rattle.hl_base.specs.declared.edit.Edit.{Edit}
use Rattle.hl_base.specs.declared.edit.Position.{Position}
use Rattle.document_store.specs.Edits.{edited, is_after, is_backward, start_of, stop_of}
use Rattle.document_store.specs.Parts.{BeginsLine, parted, ends_behind, position_behind, edit_behind, first_line_of}
use Rattle.document_store.specs.Places.{line_ends}
use Rattle.document_store.specs.Positions.{ends_line, whole_lines, line_of, line_start, place_of, characters_before}
use Rattle.document_store.proofs.DocumentLemmas.{bit}
use Rattle.document_store.proofs.FromLemmas.{length-lines_whole, split_at_line}
use Rattle.document_store.proofs.LineLemmas.{IsCons, without_end, lines-whole, whole_lines-some, concat-whole_lines}
use Rattle.document_store.proofs.OrderLemmas.{units_in_order}
use Rattle.document_store.proofs.PlaceLemmas.{place_of-there, place_of-past, lines_in_order, whole_lines-positive, eqb-false_from}

-- ---- counting

-- the line ends in the first characters are those in the first of them and those in the others
line_ends-more : (n m : ℕ) (text : List ℕ) → n ≤ length text → line_ends (n + m) text ≡ line_ends n text + line_ends m (drop n text)
line_ends-more zero m text within = ap (λ k. line_ends k text) (zero-add m) ∙ sym (zero-add (line_ends m text))
line_ends-more (suc n) m [] within = absurd (omega arith)
line_ends-more (suc n) m (c ∷ rest) within =
    ap (λ k. line_ends k (c ∷ rest)) (suc-add n m) ∙ omega (arith, line_ends-more n m rest (omega arith))

-- ---- a line begins between two texts

some_end : (c : ℕ) (rest back : List ℕ) → ends_behind c rest back ≡ true → 0 < line_ends (suc (length rest)) (c ∷ (rest ++ back))
some_end c [] back h = rw h (omega arith)
some_end c (d ∷ rest) back h = omega (arith, some_end d rest back h)

-- a character in front of a text ends a line, or is of its first
passed : (b : Bool) (c m : ℕ) (xss : List (List ℕ)) → IsCons xss → 0 < m → drop (bit b + m) (cond b ((c ∷ []) ∷ xss) (onto_first c xss)) ≡ drop m xss
passed true c m xss some h = let more : 1 + m ≡ suc m = omega arith in ap (λ k. drop k ((c ∷ []) ∷ xss)) more
passed false c m [] some h = let e : [] ≡ some.first ∷ some.others = some.is in absurd (cc)
passed false c m (xs ∷ xss) some h =
    let none : 0 + m ≡ suc (m - 1) = omega arith in
    let more : m ≡ suc (m - 1) = omega arith in
    ap (λ k. drop k ((c ∷ xs) ∷ xss)) none ∙ sym (ap (λ k. drop k (xs ∷ xss)) more)

behind_char : (c : ℕ) (rest back : List ℕ) → ends_behind c rest back ≡ true →
    drop (line_ends (suc (length rest)) (c ∷ (rest ++ back))) (whole_lines (c ∷ (rest ++ back))) ≡ whole_lines back
behind_char c [] back h = rw h refl
behind_char c (d ∷ rest) back h =
    passed (ends_line c (d ∷ (rest ++ back))) c (line_ends (suc (length rest)) (d ∷ (rest ++ back))) (whole_lines (d ∷ (rest ++ back)))
    (whole_lines-some (d ∷ (rest ++ back))) (some_end d rest back h)
    ∙ behind_char d rest back h

-- the line ends in the first are as many lines of both, and the second begins the next
pub line-between : (front back : List ℕ) → parted front back ≡ true →
    drop (line_ends (length front) (front ++ back)) (whole_lines (front ++ back)) ≡ whole_lines back
line-between [] back h = refl
line-between (c ∷ rest) back h = behind_char c rest back h

-- texts with the same lines are the same
same_text : (xs ys : List ℕ) → whole_lines xs ≡ whole_lines ys → xs ≡ ys
same_text xs ys h = sym (concat-whole_lines xs) ∙ ap concat h ∙ concat-whole_lines ys

not_longer : (c : ℕ) (rest back : List ℕ) → back ≡ c ∷ (rest ++ back) → ⊥
not_longer c rest back h = omega (arith, ap length h, length-append rest back)

whole-ended : (c : ℕ) (rest : List ℕ) → ends_line c rest ≡ true → whole_lines (c ∷ rest) ≡ (c ∷ []) ∷ whole_lines rest
whole-ended c rest h = rw h refl

whole-joined : (c : ℕ) (rest : List ℕ) → ends_line c rest ≡ false → whole_lines (c ∷ rest) ≡ onto_first c (whole_lines rest)
whole-joined c rest h = rw h refl

length-onto : (c : ℕ) (xss : List (List ℕ)) → IsCons xss → length (onto_first c xss) ≡ length xss
length-onto c [] some = let e : [] ≡ some.first ∷ some.others = some.is in absurd (cc)
length-onto c (xs ∷ xss) some = refl

drop-onto : (c n : ℕ) (xss : List (List ℕ)) → IsCons xss → drop (suc n) (onto_first c xss) ≡ drop (suc n) xss
drop-onto c n [] some = let e : [] ≡ some.first ∷ some.others = some.is in absurd (cc)
drop-onto c n (xs ∷ xss) some = refl

not_fewer : (n c : ℕ) (back : List ℕ) → whole_lines back ≡ drop (suc n) (onto_first c (whole_lines back)) → ⊥
not_fewer n c back h =
    omega (
      arith,
      ap length h,
      length-drop (suc n) (onto_first c (whole_lines back)),
      length-onto c (whole_lines back) (whole_lines-some back),
      whole_lines-positive back,
    )

ends-begins : (n c : ℕ) (rest back : List ℕ) → whole_lines back ≡ drop n (whole_lines (c ∷ (rest ++ back))) → ends_behind c rest back ≡ true
ends-begins zero c rest back h = absurd (not_longer c rest back (same_text back (c ∷ (rest ++ back)) h))
ends-begins (suc n) c [] back h = elim (cases_Bool (ends_line c back)) [
  | inl ends ↦ ends
  | inr within ↦ absurd (not_fewer n c back (h ∙ ap (drop (suc n)) (whole-joined c back within)))
]
ends-begins (suc n) c (d ∷ rest) back h = elim (cases_Bool (ends_line c (d ∷ (rest ++ back)))) [
  | inl ends ↦ ends-begins n d rest back (h ∙ ap (drop (suc n)) (whole-ended c (d ∷ (rest ++ back)) ends))
  | inr within ↦
      ends-begins (suc n) d rest back
      (h ∙ ap (drop (suc n)) (whole-joined c (d ∷ (rest ++ back)) within)
      ∙ drop-onto c n (whole_lines (d ∷ (rest ++ back))) (whole_lines-some (d ∷ (rest ++ back))))
]

-- what begins a line of both does so behind a line end
pub parted-begins : (n : ℕ) (front back : List ℕ) → BeginsLine n front back → parted front back ≡ true
parted-begins n [] back h = refl
parted-begins n (c ∷ rest) back h = ends-begins n c rest back h

-- behind as many lines as there are line ends in the first
pub begins-count : (n : ℕ) (front back : List ℕ) → BeginsLine n front back → n ≡ line_ends (length front) (front ++ back)
begins-count n front back h =
    omega (
      arith,
      ap length h,
      ap length (line-between front back (parted-begins n front back h)),
      length-drop n (whole_lines (front ++ back)),
      length-drop (line_ends (length front) (front ++ back)) (whole_lines (front ++ back)),
      whole_lines-positive back,
    )

-- ---- where the second is another

count-behind : (c : ℕ) (rest back other : List ℕ) → ends_behind c rest back ≡ true → ends_behind c rest other ≡ true →
    line_ends (suc (length rest)) (c ∷ (rest ++ back)) ≡ line_ends (suc (length rest)) (c ∷ (rest ++ other))
count-behind c [] back other h g = rw (h, g) refl
count-behind c (d ∷ rest) back other h g = ap (λ k. bit (ends_line c (d ∷ (rest ++ back))) + k) (count-behind d rest back other h g)

count-other : (front back other : List ℕ) → parted front back ≡ true → parted front other ≡ true →
    line_ends (length front) (front ++ back) ≡ line_ends (length front) (front ++ other)
count-other [] back other h g = refl
count-other (c ∷ rest) back other h g = count-behind c rest back other h g

pub BeginsLine-other : (n : ℕ) (front back other : List ℕ) → BeginsLine n front back → parted front other ≡ true → BeginsLine n front other
BeginsLine-other n front back other h g =
    let count : n ≡ line_ends (length front) (front ++ other) =
    begins-count n front back h ∙ count-other front back other (parted-begins n front back h) g in
    sym (line-between front other g) ∙ ap (λ k. drop k (whole_lines (front ++ other))) (sym count)

-- ---- forward and back

pub BeginsLine-next : (n m : ℕ) (front over rest : List ℕ) → BeginsLine n front (over ++ rest) → whole_lines rest ≡ drop m (whole_lines (over ++ rest)) →
    BeginsLine (n + m) (front ++ over) rest
BeginsLine-next n m front over rest h g =
    g ∙ ap (drop m) h ∙ drop-drop m n (whole_lines (front ++ (over ++ rest)))
    ∙ ap (λ t. drop (n + m) (whole_lines t)) (sym (append_assoc front over rest))

pub BeginsLine-back : (n ends : ℕ) (front over back : List ℕ) → BeginsLine n (front ++ over) back → parted front (over ++ back) ≡ true →
    ends ≡ line_ends (length over) (over ++ back) → BeginsLine (n - ends) front (over ++ back)
BeginsLine-back n ends front over back h g is =
    let m : ℕ = line_ends (length front) (front ++ (over ++ back)) in
    let size : length (front ++ over) ≡ length front + length over = length-append front over in
    let within : length front ≤ length (front ++ (over ++ back)) = omega (arith, length-append front (over ++ back)) in
    let count : n ≡ m + line_ends (length over) (over ++ back) =
    begins-count n (front ++ over) back h
    ∙ ap (λ k. line_ends k ((front ++ over) ++ back)) size
    ∙ ap (line_ends (length front + length over)) (append_assoc front over back)
    ∙ line_ends-more (length front) (length over) (front ++ (over ++ back)) within
    ∙ ap (λ t. m + line_ends (length over) t) (drop-append_seam front (over ++ back)) in
    let less : n - ends ≡ m = omega (arith, count, is) in
    sym (line-between front (over ++ back) g) ∙ ap (λ k. drop k (whole_lines (front ++ (over ++ back)))) (sym less)

-- the front of a text
pub BeginsLine-front : (back : List ℕ) → BeginsLine 0 [] back
BeginsLine-front back = refl

-- before the first line nothing stands
front-nothing : (front back : List ℕ) → BeginsLine 0 front back → 0 ≡ length front
front-nothing front back h = omega (arith, ap length (same_text back (front ++ back) h), length-append front back)

-- ---- places

line_start-behind : (n later : ℕ) (front back : List ℕ) → BeginsLine n front back → line_start (front ++ back) (n + later) ≡ length front + line_start back later
line_start-behind n later front back h =
    let all : List (List ℕ) = whole_lines (front ++ back) in
    let split : front ++ back ≡ concat (take n all) ++ back = split_at_line (front ++ back) back n (record { is = h }) in
    let parts : line_start (front ++ back) (n + later) ≡ length (concat (take n all)) + line_start back later =
    ap (λ xss. length (concat xss)) (take-add n later all ∙ ap (λ xss. take n all ++ take later xss) (sym h))
    ∙ ap length (concat-append (take n all) (take later (whole_lines back)))
    ∙ length-append (concat (take n all)) (concat (take later (whole_lines back))) in
    omega (arith, parts, ap length split, length-append front back, length-append (concat (take n all)) back)

line_of-behind : (n later : ℕ) (front back : List ℕ) → BeginsLine n front back → line_of back later ≡ line_of (front ++ back) (n + later)
line_of-behind n later front back h =
    ap (λ xss. get_or xss later []) (lines-whole back ∙ ap (map without_end) h ∙ sym (drop-map without_end n (whole_lines (front ++ back))) ∙ ap (drop n) (sym (lines-whole (front ++ back))))
    ∙ get_or-drop n (lines (front ++ back)) later []

lines-behind : (n : ℕ) (front back : List ℕ) → BeginsLine n front back → length (lines (front ++ back)) ≡ n + length (lines back)
lines-behind n front back h =
    omega (
      arith,
      ap length h,
      length-drop n (whole_lines (front ++ back)),
      whole_lines-positive back,
      length-lines_whole back,
      length-lines_whole (front ++ back),
    )

-- a place from a line on
pub place-behind : (n : ℕ) (front back : List ℕ) (at : Position) → BeginsLine n front back → n ≤ at.line →
    place_of (front ++ back) at ≡ length front + place_of back (position_behind n at)
place-behind n front back at h behind =
    let later : ℕ = at.line - n in
    let whole : at.line ≡ n + later = omega (arith, behind) in
    let count = lines-behind n front back h in
    elim (cases_lt at.line (length (lines (front ++ back)))) [
      | inl there ↦
          let also : later < length (lines back) = omega (arith, count, there, behind) in
          let start : line_start (front ++ back) at.line ≡ length front + line_start back later =
          ap (line_start (front ++ back)) whole ∙ line_start-behind n later front back h in
          let line : line_of (front ++ back) at.line ≡ line_of back later =
          ap (line_of (front ++ back)) whole ∙ sym (line_of-behind n later front back h) in
          let units : characters_before at.character (line_of (front ++ back) at.line) ≡ characters_before at.character (line_of back later) =
          ap (characters_before at.character) line in
          omega (arith, place_of-there (front ++ back) at there, place_of-there back (position_behind n at) also, start, units)
      | inr past ↦
          omega (
            arith,
            place_of-past (front ++ back) at past,
            place_of-past back (position_behind n at) (omega (arith, count, past, behind)),
            length-append front back,
          )
    ]

start-behind : (n : ℕ) (front back : List ℕ) (from : Option Position) → BeginsLine n front back → n ≤ first_line_of from →
    start_of (front ++ back) from ≡ length front + start_of back (option_map (position_behind n) from)
start-behind n front back (Some at) h behind = place-behind n front back at h behind
start-behind n front back None h behind =
    let none : n ≡ 0 = omega (arith, behind) in
    omega (arith, front-nothing front back (h ∙ ap (λ k. drop k (whole_lines (front ++ back))) none))

stop-behind : (n : ℕ) (front back : List ℕ) (from to : Option Position) → BeginsLine n front back → n ≤ first_line_of from → is_backward from to ≡ false →
    stop_of (front ++ back) to ≡ length front + stop_of back (option_map (position_behind n) to)
stop-behind n front back from None h behind order = length-append front back
stop-behind n front back None (Some to) h behind order = place-behind n front back to h (omega (arith, behind))
stop-behind n front back (Some from) (Some to) h behind order =
    place-behind n front back to h (omega (arith, behind, lines_in_order from to order))

-- a change of what stands from a line on
pub edited-behind : (n : ℕ) (front back : List ℕ) (edit : Edit) → BeginsLine n front back → n ≤ first_line_of edit.from → is_backward edit.from edit.to ≡ false →
    edited (front ++ back) edit ≡ front ++ edited back (edit_behind n edit)
edited-behind n front back edit h behind order =
    let start : ℕ = start_of back (option_map (position_behind n) edit.from) in
    let stop : ℕ = stop_of back (option_map (position_behind n) edit.to) in
    ap (λ k. take k (front ++ back) ++ edit.text ++ drop (stop_of (front ++ back) edit.to) (front ++ back)) (start-behind n front back edit.from h behind)
    ∙ ap (λ k. take (length front + start) (front ++ back) ++ edit.text ++ drop k (front ++ back)) (stop-behind n front back edit.from edit.to h behind order)
    ∙ ap (λ xs. xs ++ edit.text ++ drop (length front + stop) (front ++ back)) (take-append-add front back start)
    ∙ ap (λ xs. front ++ take start back ++ edit.text ++ xs) (drop-append-add front back stop)
    ∙ ap (λ xs. xs ++ drop stop back) (append_assoc front (take start back) edit.text)
    ∙ append_assoc front (take start back ++ edit.text) (drop stop back)

-- a change is no more backward for being counted from a later line on
after-behind : (n : ℕ) (from to : Position) → n ≤ from.line → is_after from to ≡ false → is_after (position_behind n from) (position_behind n to) ≡ false
after-behind n from to behind order =
    let lines : from.line ≤ to.line = lines_in_order from to order in
    let first : nat_lt (to.line - n) (from.line - n) ≡ false = le-ltb (to.line - n) (from.line - n) (omega (arith, lines)) in
    elim (cases_lt from.line to.line) [
      | inl less ↦ rw (first, eqb-false_from (from.line - n) (to.line - n) (omega (arith, less, behind))) refl
      | inr more ↦
          let same : from.line ≡ to.line = omega (arith, lines, more) in
          let units : nat_lt to.character from.character ≡ false = le-ltb to.character from.character (units_in_order from to order same) in
          rw (first, units) (by_test (from.line - n == to.line - n))
    ] where
      by_test : (b : Bool) → (b && false) ≡ false
      by_test true = refl
      by_test false = refl

pub backward-behind : (n : ℕ) (from to : Option Position) → n ≤ first_line_of from → is_backward from to ≡ false →
    is_backward (option_map (position_behind n) from) (option_map (position_behind n) to) ≡ false
backward-behind n (Some from) (Some to) behind order = after-behind n from to behind order
backward-behind n (Some from) None behind order = refl
backward-behind n None to behind order = refl

-- ---- a line that begins within the first

behind-first : (c : ℕ) (rest : List ℕ) (x : ℕ) (xs ys : List ℕ) → ends_behind c rest (x ∷ xs) ≡ ends_behind c rest (x ∷ ys)
behind-first c [] x xs ys = refl
behind-first c (d ∷ rest) x xs ys = behind-first d rest x xs ys

parted-first : (front : List ℕ) (x : ℕ) (xs ys : List ℕ) → parted front (x ∷ xs) ≡ parted front (x ∷ ys)
parted-first [] x xs ys = refl
parted-first (c ∷ rest) x xs ys = behind-first c rest x xs ys

parted-longer : (front over back : List ℕ) → parted front over ≡ true → parted (front ++ over) back ≡ true → parted front (over ++ back) ≡ true
parted-longer front [] back h g = ap (λ (xs : List ℕ). parted xs back) (sym (append-nil front)) ∙ g
parted-longer front (x ∷ xs) back h g = parted-first front x (xs ++ back) xs ∙ h

-- what begins a line of the first begins it of both, where the second begins a line
pub BeginsLine-within : (n m : ℕ) (front over back : List ℕ) → BeginsLine n front over → BeginsLine m (front ++ over) back → BeginsLine n front (over ++ back)
BeginsLine-within n m front over back h g =
    BeginsLine-other n front over (over ++ back) h (parted-longer front over back (parted-begins n front over h) (parted-begins m (front ++ over) back g))
