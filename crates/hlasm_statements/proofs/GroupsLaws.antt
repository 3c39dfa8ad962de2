-- The groups of lines, and the numbers of their statements.
use Rattle.std.proofs.Common.{◌≡◌, ◌∙◌, ℕ, ◌+◌, ◌-◌, ◌<◌, true, false, cond, List, [], ◌∷◌, ◌++◌, length, refl, sym, ap, subst, inl, inr, arith, append-nil, length-append}
use Rattle.std.specs.List.{AllByRecursion, onto_first}
use Rattle.std.proofs.lemmas.Bool.{cases_Bool}
use Rattle.std.proofs.lemmas.List.{length-map}
use Rattle.hl_base.specs.Texts.{lines}
use Rattle.hlasm_statements.specs.Columns.{is_marked, groups, body_of}
use Rattle.hlasm_statements.specs.Faults.{ends_marked}
use Rattle.hlasm_statements.specs.Statements.{statement_of, statement_in, statements_from, statements_of}
use Rattle.hlasm_statements.specs.Laws.{FollowOn, GoesOnInside, EndBetween, last_group, lines_in}

pub groups-yes : (line : List ℕ) (rest : List (List ℕ)) → is_marked line ≡ true → groups (line ∷ rest) ≡ onto_first line (groups rest)
groups-yes line rest marked = ap (λ b. cond b (onto_first line (groups rest)) ((line ∷ []) ∷ groups rest)) marked

pub groups-no : (line : List ℕ) (rest : List (List ℕ)) → is_marked line ≡ false → groups (line ∷ rest) ≡ (line ∷ []) ∷ groups rest
groups-no line rest ends = ap (λ b. cond b (onto_first line (groups rest)) ((line ∷ []) ∷ groups rest)) ends

lines_in-onto_first : (line : List ℕ) (parts : List (List (List ℕ))) → lines_in (onto_first line parts) ≡ line ∷ lines_in parts
lines_in-onto_first line [] = refl
lines_in-onto_first line (part ∷ parts) = refl

pub lines_in-groups : (all : List (List ℕ)) → lines_in (groups all) ≡ all
lines_in-groups [] = refl
lines_in-groups (line ∷ rest) = elim (cases_Bool (is_marked line)) [
  | inl marked ↦ ap lines_in (groups-yes line rest marked) ∙ lines_in-onto_first line (groups rest) ∙ ap (λ xs. line ∷ xs) (lines_in-groups rest)
  | inr ends ↦ ap lines_in (groups-no line rest ends) ∙ ap (λ xs. line ∷ xs) (lines_in-groups rest)
]

inside-onto_first : (line : List ℕ) (parts : List (List (List ℕ))) → is_marked line ≡ true → AllByRecursion GoesOnInside parts → AllByRecursion GoesOnInside (onto_first line parts)
inside-onto_first line [] marked inside = (tt, tt)
inside-onto_first line ([] ∷ parts) marked inside = absurd inside.0
inside-onto_first line ((next ∷ part) ∷ parts) marked inside = ((marked, inside.0), inside.1)

pub inside-groups : (all : List (List ℕ)) → AllByRecursion GoesOnInside (groups all)
inside-groups [] = tt
inside-groups (line ∷ rest) =
    let P : List (List (List ℕ)) → Type 0 = λ parts. AllByRecursion GoesOnInside parts in
    elim (cases_Bool (is_marked line)) [
      | inl marked ↦ subst P (sym (groups-yes line rest marked)) (inside-onto_first line (groups rest) marked (inside-groups rest))
      | inr ends ↦ subst P (sym (groups-no line rest ends)) (tt, inside-groups rest)
    ]

between-onto_first : (line : List ℕ) (parts : List (List (List ℕ))) → AllByRecursion GoesOnInside parts → EndBetween parts → EndBetween (onto_first line parts)
between-onto_first line [] inside between = tt
between-onto_first line (part ∷ []) inside between = tt
between-onto_first line ([] ∷ next ∷ parts) inside between = absurd inside.0
between-onto_first line ((first ∷ part) ∷ next ∷ parts) inside between = between

between-cons : (line : List ℕ) (parts : List (List (List ℕ))) → is_marked line ≡ false → EndBetween parts → EndBetween ((line ∷ []) ∷ parts)
between-cons line [] ends between = tt
between-cons line (part ∷ parts) ends between = (ends, between)

pub between-groups : (all : List (List ℕ)) → EndBetween (groups all)
between-groups [] = tt
between-groups (line ∷ rest) =
    elim (cases_Bool (is_marked line)) [
      | inl marked ↦ subst EndBetween (sym (groups-yes line rest marked)) (between-onto_first line (groups rest) (inside-groups rest) (between-groups rest))
      | inr ends ↦ subst EndBetween (sym (groups-no line rest ends)) (between-cons line (groups rest) ends (between-groups rest))
    ]

-- a part that a line is put before ends as it did
last-onto_first : (line : List ℕ) (part : List (List ℕ)) (parts : List (List (List ℕ))) → AllByRecursion GoesOnInside (part ∷ parts) → ends_marked (last_group (onto_first line (part ∷ parts))) ≡ ends_marked (last_group (part ∷ parts))
last-onto_first line [] parts inside = absurd inside.0
last-onto_first line (first ∷ part) [] inside = refl
last-onto_first line (first ∷ part) (next ∷ parts) inside = refl

last-cons : (line next : List ℕ) (rest : List (List ℕ)) (parts : List (List (List ℕ))) → AllByRecursion GoesOnInside parts → lines_in parts ≡ next ∷ rest
    → (ends_marked (last_group (onto_first line parts)) ≡ ends_marked (last_group parts)) × (ends_marked (last_group ((line ∷ []) ∷ parts)) ≡ ends_marked (last_group parts))
last-cons line next rest [] inside same = absurd (omega (arith, ap length same))
last-cons line next rest (part ∷ parts) inside same = (last-onto_first line part parts inside, refl)

pub last-groups : (all : List (List ℕ)) → ends_marked (last_group (groups all)) ≡ ends_marked all
last-groups [] = refl
last-groups (line ∷ []) = elim (cases_Bool (is_marked line)) [
  | inl marked ↦ ap (λ parts. ends_marked (last_group parts)) (groups-yes line [] marked)
  | inr ends ↦ ap (λ parts. ends_marked (last_group parts)) (groups-no line [] ends)
]
last-groups (line ∷ next ∷ rest) =
    let ends_same = last-cons line next rest (groups (next ∷ rest)) (inside-groups (next ∷ rest)) (lines_in-groups (next ∷ rest)) in
    elim (cases_Bool (is_marked line)) [
      | inl marked ↦ ap (λ parts. ends_marked (last_group parts)) (groups-yes line (next ∷ rest) marked) ∙ ends_same.0 ∙ last-groups (next ∷ rest)
      | inr ends ↦ ap (λ parts. ends_marked (last_group parts)) (groups-no line (next ∷ rest) ends) ∙ ends_same.1 ∙ last-groups (next ∷ rest)
    ]

-- lines that go on are one group
groups-one : (group : List (List ℕ)) → GoesOnInside group → groups group ≡ group ∷ []
groups-one [] inside = absurd inside
groups-one (line ∷ []) inside = elim (cases_Bool (is_marked line)) [ inl marked ↦ groups-yes line [] marked | inr ends ↦ groups-no line [] ends ]
groups-one (line ∷ next ∷ rest) inside = groups-yes line (next ∷ rest) inside.0 ∙ ap (onto_first line) (groups-one (next ∷ rest) inside.1)

-- and end where the last is not marked
groups-append : (group rest : List (List ℕ)) → GoesOnInside group → ends_marked group ≡ false → groups (group ++ rest) ≡ group ∷ groups rest
groups-append [] rest inside ends = absurd inside
groups-append (line ∷ []) rest inside ends = groups-no line rest ends
groups-append (line ∷ next ∷ group) rest inside ends = groups-yes line ((next ∷ group) ++ rest) inside.0 ∙ ap (onto_first line) (groups-append (next ∷ group) rest inside.1 ends)

groups-lines_in : (cut : List (List (List ℕ))) → AllByRecursion GoesOnInside cut → EndBetween cut → groups (lines_in cut) ≡ cut
groups-lines_in [] inside between = refl
groups-lines_in (group ∷ []) inside between = ap groups (append-nil group) ∙ groups-one group inside.0
groups-lines_in (group ∷ next ∷ cut) inside between =
    groups-append group (lines_in (next ∷ cut)) inside.0 between.0 ∙ ap (λ parts. group ∷ parts) (groups-lines_in (next ∷ cut) inside.1 between.1)

pub groups-only : (all : List (List ℕ)) (cut : List (List (List ℕ))) → lines_in cut ≡ all → AllByRecursion GoesOnInside cut → EndBetween cut → cut ≡ groups all
groups-only all cut same inside between = sym (groups-lines_in cut inside between) ∙ ap groups same

-- ---- the numbers of statements

numbered : (number : ℕ) (group : List (List ℕ)) → let made = statement_of number group in (made.first ≡ number) × (made.last ≡ number + length group - 1)
unfolding statement_of statement_in
numbered number group = (refl, ap (λ n. number + n - 1) (length-map group body_of))

some-inside : (group : List (List ℕ)) → GoesOnInside group → 0 < length group
some-inside [] inside = absurd inside
some-inside (line ∷ group) inside = omega arith

FollowOn-from : (number : ℕ) (cut : List (List (List ℕ))) → AllByRecursion GoesOnInside cut → FollowOn number (statements_from number cut) (number + length (lines_in cut))
FollowOn-from number [] inside = omega arith
FollowOn-from number (group ∷ cut) inside =
    let at = numbered number group in
    let some = some-inside group inside.0 in
    let next : (statement_of number group).last + 1 ≡ number + length group = omega (arith, at.1) in
    let P : ℕ → Type 0 = λ n. FollowOn n (statements_from (number + length group) cut) (number + length (lines_in (group ∷ cut))) in
    let Q : ℕ → Type 0 = λ end. FollowOn (number + length group) (statements_from (number + length group) cut) end in (
      at.0,
      omega (arith, at.0, at.1),
      subst P (sym next) (subst Q (omega (arith, length-append group (lines_in cut))) (FollowOn-from (number + length group) cut inside.1)),
    )

pub FollowOn-text : (text : List ℕ) → FollowOn 0 (statements_of text) (length (lines text))
FollowOn-text text =
    let Q : ℕ → Type 0 = λ end. FollowOn 0 (statements_of text) end in
    subst Q (omega (arith, ap length (lines_in-groups (lines text)))) (FollowOn-from 0 (groups (lines text)) (inside-groups (lines text)))
