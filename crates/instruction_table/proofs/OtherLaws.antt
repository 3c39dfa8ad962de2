-- The rows of the assembler's own operations say what the lists of the specification say. That each row is right, and
-- that each name has a row, is computed over all of them.
use Rattle.std.proofs.Common.{◌≡◌, ◌∙◌, ℕ, ◌-◌, Bool, true, false, cond, List, [], ◌∷◌, map, refl, sym, ap, subst, inl, inr}
use Rattle.std.specs.Prelude.{◌||◌, ◌==◌, slice_index}
use Rattle.std.specs.List.{list_all}
use Rattle.std.proofs.lemmas.Bool.{cases_Bool, and_parts, true≢false}
use Rattle.std.specs.Cmp.Lexicographic.{same_text}
use Rattle.instruction_table.specs.declared.meaning.Operation.{Operation}
use Rattle.instruction_table.specs.declared.meaning.Operation.TheVariants.{Unknown}
use Rattle.instruction_table.specs.Instructions.{same_name}
use Rattle.instruction_table.specs.Operations.{is_among, conditional, ordinary, both, silent, left_out, other_operation}
use Rattle.instruction_table.specs.Others.{by_letter, rows_in, rows_of, meaning_in}

abbrev Rows : Type 0
Rows = List (List ℕ × Operation)

-- what each row means, by the specification and as it stands
abbrev meant : Rows → List Operation
meant rows = map (λ row. other_operation row.0) rows

abbrev told : Rows → List Operation
told rows = map (λ row. row.1) rows

-- each row is right
all_right : map (λ letter. meant letter.1) by_letter ≡ map (λ letter. told letter.1) by_letter
unfolding by_letter other_operation conditional ordinary both silent left_out
all_right = refl

-- each of some names has a row
abbrev has_row : List ℕ → Bool
has_row name = is_among name (map (λ row. row.0) (rows_of (slice_index name 0)))

abbrev have_rows : List (List ℕ) → Bool
have_rows list = list_all has_row list

conditional-rows : have_rows conditional ≡ true
unfolding conditional rows_of by_letter
conditional-rows = refl

ordinary-rows : have_rows ordinary ≡ true
unfolding ordinary rows_of by_letter
ordinary-rows = refl

both-rows : have_rows both ≡ true
unfolding both rows_of by_letter
both-rows = refl

silent-rows : have_rows silent ≡ true
unfolding silent rows_of by_letter
silent-rows = refl

left_out-rows : have_rows left_out ≡ true
unfolding left_out rows_of by_letter
left_out-rows = refl

-- ---- at the rows of one letter

rows_in-right : (c : ℕ) (letters : List (ℕ × Rows)) → map (λ letter. meant letter.1) letters ≡ map (λ letter. told letter.1) letters → meant (rows_in c letters) ≡ told (rows_in c letters)
rows_in-right c [] e = refl
rows_in-right c (letter ∷ letters) e =
    let P : Bool → Type 0 = λ b. meant (cond b letter.1 (rows_in c letters)) ≡ told (cond b letter.1 (rows_in c letters)) in
    elim (cases_Bool (c == letter.0)) [
      | inl is ↦ subst P (sym is) (cc)
      | inr other ↦ subst P (sym other) (rows_in-right c letters (cc))
    ]

rows_of-right : (c : ℕ) → meant (rows_of c) ≡ told (rows_of c)
unfolding rows_of
rows_of-right c = rows_in-right c by_letter all_right

-- what is found in right rows is what is meant
found : (name : List ℕ) (rows : Rows) → meant rows ≡ told rows → is_among name (map (λ row. row.0) rows) ≡ true → meaning_in name rows ≡ other_operation name
found name [] e among = absurd (true≢false (sym among))
found name (row ∷ rows) e among = elim (cases_Bool (same_name row.0 name)) [
  | inl same ↦
      let is : row.0 ≡ name = same_text row.0 name (sym same) in
      let head : other_operation row.0 ≡ row.1 = cc in
      ap (λ b. cond b row.1 (meaning_in name rows)) same ∙ sym head ∙ ap other_operation is
  | inr other ↦
      ap (λ b. cond b row.1 (meaning_in name rows)) other
      ∙ found name rows (cc) (ap (λ b. b || is_among name (map (λ row. row.0) rows)) (sym other) ∙ among)
]

missing : (name : List ℕ) (rows : Rows) → is_among name (map (λ row. row.0) rows) ≡ false → meaning_in name rows ≡ Unknown
missing name [] among = refl
missing name (row ∷ rows) among = elim (cases_Bool (same_name row.0 name)) [
  | inl same ↦ absurd (true≢false (ap (λ b. b || is_among name (map (λ row. row.0) rows)) (sym same) ∙ among))
  | inr other ↦
      ap (λ b. cond b row.1 (meaning_in name rows)) other
      ∙ missing name rows (ap (λ b. b || is_among name (map (λ row. row.0) rows)) (sym other) ∙ among)
]

-- a name without a row is none of those that have one
not_among : (name : List ℕ) (list : List (List ℕ)) → have_rows list ≡ true → has_row name ≡ false → is_among name list ≡ false
not_among name [] all none = refl
not_among name (other ∷ list) all none = elim (cases_Bool (same_name other name)) [
  | inl same ↦
      let is : other ≡ name = same_text other name (sym same) in
      absurd (true≢false (sym (and_parts (has_row other) (have_rows list) all).0 ∙ ap has_row is ∙ none))
  | inr apart ↦ ap (λ b. b || is_among name list) apart ∙ not_among name list (and_parts (has_row other) (have_rows list) all).1 none
]

unknown : (name : List ℕ) → has_row name ≡ false → other_operation name ≡ Unknown
unfolding other_operation
unknown name none =
    rw (
      not_among name conditional conditional-rows none,
      not_among name ordinary ordinary-rows none,
      not_among name both both-rows none,
      not_among name silent silent-rows none,
      not_among name left_out left_out-rows none,
    ) refl

-- the meaning by the rows of a name's first letter is the meaning
pub meaning-is : (name : List ℕ) → meaning_in name (rows_of (slice_index name 0)) ≡ other_operation name
meaning-is name = elim (cases_Bool (has_row name)) [
  | inl some ↦ found name (rows_of (slice_index name 0)) (rows_of-right (slice_index name 0)) some
  | inr none ↦ missing name (rows_of (slice_index name 0)) none ∙ sym (unknown name none)
]
