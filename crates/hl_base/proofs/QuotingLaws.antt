-- What each character leaves of quotes and parentheses.
use Rattle.std.proofs.Common.{◌≡◌, ◌∙◌, ℕ, Bool, true, false, cond, not, List, ◌∷◌, refl, sym, ap, subst, inl, inr}
use Rattle.std.specs.Prelude.{◌==◌, ◌&&◌, ◌||◌, slice_index}
use Rattle.std.specs.Char.{to_ascii_uppercase, is_ascii_digit}
use Rattle.std.proofs.lemmas.Bool.{cases_Bool, eqb-true, and_parts, true≢false}
use Rattle.hl_base.specs.declared.quoting.Mark.{Mark}
use Rattle.hl_base.specs.declared.quoting.Mark.TheVariants.{Free, Joined, Letter, Apostrophe, Quoted}
use Rattle.hl_base.specs.declared.quoting.Nesting.{Nesting}
use Rattle.hl_base.specs.Symbols.{is_letter}
use Rattle.hl_base.specs.Quoting.{names_attribute, is_attribute_letter, is_joining, is_attributed, is_of_attribute, is_quoted, depth, depth_outside, mark_outside, mark_behind, is_within, ends_in_letter, Marks, IsBehind}

and-swap : (a b : Bool) → (a && b) ≡ (b && a)
and-swap true true = refl
and-swap true false = refl
and-swap false true = refl
and-swap false false = refl

and-false : (a : Bool) → not (a && false) ≡ true
and-false true = refl
and-false false = refl

and-true : (a : Bool) → not (a && true) ≡ not a
and-true true = refl
and-true false = refl

-- a letter of an attribute reference goes on with a symbol
letter-joins : (c : ℕ) → is_attribute_letter c ≡ true → is_joining c ≡ true
letter-joins c h =
    let letter : is_letter c ≡ true = (and_parts (is_letter c) (names_attribute (to_ascii_uppercase c)) h).0 in
    ap (λ b. (b || is_ascii_digit c) || (c == 38)) letter

no_letter : (c : ℕ) → is_joining c ≡ false → is_attribute_letter c ≡ false
no_letter c h = elim (cases_Bool (is_attribute_letter c)) [
  | inl met ↦ absurd (true≢false (sym (letter-joins c met) ∙ h))
  | inr no_one ↦ no_one
]

no_letter_ends : (before : List ℕ) → is_joining (slice_index before 0) ≡ false → ends_in_letter before ≡ false
no_letter_ends before h = ap (λ b. b && not (is_joining (slice_index before 1))) (no_letter (slice_index before 0) h)

-- whether what comes next is quoted, by what the last character is
quoted-outside : (n c : ℕ) (before : List ℕ) → is_quoted c before ≡ false → is_quoted n (c ∷ before) ≡ ((c == 39) && not (is_of_attribute n before))
quoted-outside n c before q = ap (λ b. cond b (not (c == 39)) ((c == 39) && not (is_of_attribute n before))) q

quoted-inside : (n c : ℕ) (before : List ℕ) → is_quoted c before ≡ true → is_quoted n (c ∷ before) ≡ not (c == 39)
quoted-inside n c before q = ap (λ b. cond b (not (c == 39)) ((c == 39) && not (is_of_attribute n before))) q

-- outside quotes, no apostrophe
stays_outside : (n c : ℕ) (before : List ℕ) → is_quoted c before ≡ false → (c == 39) ≡ false → is_quoted n (c ∷ before) ≡ false
stays_outside n c before q other = quoted-outside n c before q ∙ ap (λ b. b && not (is_of_attribute n before)) other

outside : (begins : Bool) (c : ℕ) (before : List ℕ) → is_quoted c before ≡ false → (c == 39) ≡ false → begins ≡ not (is_joining (slice_index before 0)) → Marks (mark_outside begins c) (c ∷ before)
outside begins c before q other may =
    let P : Bool → Type 0 = λ b. Marks (cond b Letter (cond (is_joining c) Joined Free)) (c ∷ before) in
    let letter_is : ends_in_letter (c ∷ before) ≡ (is_attribute_letter c && begins) = ap (λ b. is_attribute_letter c && b) (sym may) in
    elim (cases_Bool (begins && is_attribute_letter c)) [
      | inl met ↦
          let parts = and_parts begins (is_attribute_letter c) met in
          subst P (sym met) (record {
            ends = (letter-joins c parts.1, letter_is ∙ ap (λ b. b && begins) parts.1 ∙ parts.0);
            within = λ n. stays_outside n c before q other;
          })
      | inr not_one ↦
          let Q : Bool → Type 0 = λ b. Marks (cond b Joined Free) (c ∷ before) in
          subst P (sym not_one) (elim (cases_Bool (is_joining c)) [
            | inl joins ↦ subst Q (sym joins) (record {
              ends = (joins, letter_is ∙ and-swap (is_attribute_letter c) begins ∙ not_one);
              within = λ n. stays_outside n c before q other;
            })
            | inr free ↦ subst Q (sym free) (record { ends = free; within = λ n. stays_outside n c before q other })
          ])
    ]

-- an apostrophe that opens quotes
opens : (c : ℕ) (before : List ℕ) → is_quoted c before ≡ false → (c == 39) ≡ true → ends_in_letter before ≡ false → Marks Quoted (c ∷ before)
opens c before q is none = record {
  ends = tt;
  within = λ n.
      quoted-outside n c before q
      ∙ ap (λ b. b && not (is_attributed n && ends_in_letter before)) is
      ∙ ap (λ b. not (is_attributed n && b)) none
      ∙ and-false (is_attributed n);
}

-- one behind an attribute's letter
waits : (c : ℕ) (before : List ℕ) → is_quoted c before ≡ false → (c == 39) ≡ true → ends_in_letter before ≡ true → Marks Apostrophe (c ∷ before)
waits c before q is some = record {
  ends = ap is_joining (eqb-true c 39 is);
  within = λ n.
      quoted-outside n c before q
      ∙ ap (λ b. b && not (is_attributed n && ends_in_letter before)) is
      ∙ ap (λ b. not (is_attributed n && b)) some
      ∙ and-true (is_attributed n);
}

-- within quotes
inside : (c : ℕ) (before : List ℕ) → is_quoted c before ≡ true → Marks (cond (c == 39) Free Quoted) (c ∷ before)
inside c before q =
    let P : Bool → Type 0 = λ b. Marks (cond b Free Quoted) (c ∷ before) in
    elim (cases_Bool (c == 39)) [
      | inl is ↦ subst P (sym is) (record { ends = ap is_joining (eqb-true c 39 is); within = λ n. quoted-inside n c before q ∙ ap not is })
      | inr other ↦ subst P (sym other) (record { ends = tt; within = λ n. quoted-inside n c before q ∙ ap not other })
    ]

-- an attributed character is no apostrophe
attributed-other : (c : ℕ) → is_attributed c ≡ true → (c == 39) ≡ false
attributed-other c h = elim (cases_Bool (c == 39)) [
  | inl is ↦ absurd (true≢false (sym h ∙ ap is_attributed (eqb-true c 39 is)))
  | inr other ↦ other
]

pub mark-behind : (mark : Mark) (c : ℕ) (before : List ℕ) → Marks mark before → Marks (mark_behind mark c) (c ∷ before)
mark-behind Free c before marks =
    let P : Bool → Type 0 = λ b. Marks (cond b Quoted (mark_outside true c)) (c ∷ before) in
    elim (cases_Bool (c == 39)) [
      | inl is ↦ subst P (sym is) (opens c before (marks.within c) is (no_letter_ends before marks.ends))
      | inr other ↦ subst P (sym other) (outside true c before (marks.within c) other (ap not (sym marks.ends)))
    ]
mark-behind Joined c before marks =
    let P : Bool → Type 0 = λ b. Marks (cond b Quoted (mark_outside false c)) (c ∷ before) in
    elim (cases_Bool (c == 39)) [
      | inl is ↦ subst P (sym is) (opens c before (marks.within c) is marks.ends.1)
      | inr other ↦ subst P (sym other) (outside false c before (marks.within c) other (ap not (sym marks.ends.0)))
    ]
mark-behind Letter c before marks =
    let P : Bool → Type 0 = λ b. Marks (cond b Apostrophe (mark_outside false c)) (c ∷ before) in
    elim (cases_Bool (c == 39)) [
      | inl is ↦ subst P (sym is) (waits c before (marks.within c) is marks.ends.1)
      | inr other ↦ subst P (sym other) (outside false c before (marks.within c) other (ap not (sym marks.ends.0)))
    ]
mark-behind Apostrophe c before marks =
    let P : Bool → Type 0 = λ b. Marks (cond b (mark_outside true c) (cond (c == 39) Free Quoted)) (c ∷ before) in
    elim (cases_Bool (is_attributed c)) [
      | inl met ↦ subst P (sym met) (outside true c before (marks.within c ∙ ap not met) (attributed-other c met) (ap not (sym marks.ends)))
      | inr other ↦ subst P (sym other) (inside c before (marks.within c ∙ ap not other))
    ]
mark-behind Quoted c before marks = inside c before (marks.within c)

-- a parenthesis outside quotes is counted, and one within is not
depth-behind : (nesting : Nesting) (c : ℕ) (before : List ℕ) → IsBehind nesting before → cond (is_within nesting.mark c) nesting.depth (depth_outside nesting.depth c) ≡ depth (c ∷ before)
depth-behind nesting c before is =
    ap (λ n. cond (is_within nesting.mark c) n (depth_outside n c)) is.depth
    ∙ ap (λ b. cond b (depth before) (depth_outside (depth before) c)) (sym (is.mark.within c))

-- the nesting behind one character more
pub behind-one : (old : Nesting) (mark : Mark) (n c : ℕ) (before : List ℕ) → mark ≡ mark_behind old.mark c → n ≡ cond (is_within old.mark c) old.depth (depth_outside old.depth c)
    → IsBehind old before → IsBehind (record { mark = mark; depth = n }) (c ∷ before)
behind-one old mark n c before mark_is depth_is is = record {
  mark = let P : Mark → Type 0 = λ m. Marks m (c ∷ before) in subst P (sym mark_is) (mark-behind old.mark c before is.mark);
  depth = depth_is ∙ depth-behind old c before is;
}
