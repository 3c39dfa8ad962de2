-- The two definitions of the end of the operand field.
use Rattle.std.proofs.Common.{◌≡◌, ◌∙◌, refl, ℕ, ◌+◌, Bool, true, false, cond, List, [], ◌∷◌, ◌++◌, Option, Some, None, sym, ap}
use Rattle.std.proofs.lemmas.Bool.{eq-eqb}
use Rattle.std.specs.Prelude.{not, ◌==◌, ◌&&◌, ◌||◌, nat_lt, slice_index}
use Rattle.hl_base.specs.Quoting.{is_quoted, depth}
use Rattle.hlasm_statements.specs.Columns.{Placed, placed, text_of, is_blank}
use Rattle.hlasm_statements.specs.Fields.{operand_field, ends_field, is_remark}
use Rattle.conditional_fields.specs.Endings.{ended, ends_here}

-- ---- whether a character ends the field

-- of a blank, which stands within quotes or not, where parentheses keep none
ungrouped : (blank quoted grouped : Bool) → (blank && not (quoted || (grouped && false))) ≡ (blank && not quoted)
ungrouped false quoted grouped = refl
ungrouped true true grouped = refl
ungrouped true false true = refl
ungrouped true false false = refl

ends-alike : (c : ℕ) (before : List ℕ) → (is_blank c && ends_field false c before) ≡ ends_here c before
ends-alike c before = ungrouped (is_blank c) (is_quoted c before) (nat_lt 0 (depth before))

-- of any, where they may keep some
kept : (blank quoted grouped keeps : Bool) → (blank && not quoted) ≡ false → (blank && not (quoted || (grouped && keeps))) ≡ false
kept false quoted grouped keeps goes = refl
kept true true grouped keeps goes = refl
kept true false grouped keeps goes = cc

goes-alike : (keeps : Bool) (c : ℕ) (before : List ℕ) → ends_here c before ≡ false → (is_blank c && ends_field keeps c before) ≡ false
goes-alike keeps c before goes = kept (is_blank c) (is_quoted c before) (nat_lt 0 (depth before)) keeps goes

-- ---- one line, or the standard format

by-end : (p : Placed) (behind field : List Placed) (others : List ℕ) (b e : Bool) → b ≡ e → behind ≡ [] → text_of field ≡ others →
    text_of (cond b behind (p ∷ field)) ≡ cond e [] (p.char ∷ others)
by-end p behind field others true true same none is = ap text_of none
by-end p behind field others true false same none is = cc
by-end p behind field others false true same none is = cc
by-end p behind field others false false same none is = ap (λ t. p.char ∷ t) is

pub standard : (before : List ℕ) (source : List Placed) → text_of (operand_field false false None before source) ≡ ended before (text_of source)
standard before [] = refl
standard before (p ∷ source) =
    by-end p [] (operand_field false false None (p.char ∷ before) source) (ended (p.char ∷ before) (text_of source)) (is_blank p.char && ends_field false p.char before)
    (ends_here p.char before) (ends-alike p.char before) refl (standard (p.char ∷ before) source)

same-line : (line : ℕ) → (line == line) ≡ true
same-line line = eq-eqb line line refl

-- a line that is remarks from here on has no more of the field
remarks : (alternate keeps : Bool) (line column : ℕ) (before text : List ℕ) → operand_field alternate keeps (Some line) before (placed line column text) ≡ []
remarks alternate keeps line column before [] = refl
remarks alternate keeps line column before (c ∷ text) =
    rw (same-line line) (remarks alternate keeps line (column + 1) before text)

no-more : (remarked : Bool) (field : List Placed) → field ≡ [] → cond remarked field [] ≡ []
no-more true field none = none
no-more false field none = refl

pub one_line : (alternate : Bool) (line column : ℕ) (before text : List ℕ) → text_of (operand_field alternate false None before (placed line column text)) ≡ ended before text
one_line alternate line column before [] = refl
one_line alternate line column before (c ∷ text) =
    by-end (record { char = c; line = line; column = column }) (cond (alternate && (slice_index before 0 == 44)) (operand_field alternate false (Some line) before (placed line (column + 1) text)) [])
    (operand_field alternate false None (c ∷ before) (placed line (column + 1) text)) (ended (c ∷ before) text) (is_blank c && ends_field false c before) (ends_here c before)
    (ends-alike c before) (no-more (alternate && (slice_index before 0 == 44)) (operand_field alternate false (Some line) before (placed line (column + 1) text)) (remarks alternate false line (column + 1) before text))
    (one_line alternate line (column + 1) (c ∷ before) text)

-- ---- any format

abbrev Begins : (text front : List ℕ) → Type 0
Begins text front = (more : List ℕ) × (text ≡ front ++ more)

begins-by : (p : Placed) (behind field : List Placed) (others : List ℕ) (b e : Bool) → (e ≡ false → b ≡ false) → Begins (text_of field) others →
    Begins (text_of (cond b behind (p ∷ field))) (cond e [] (p.char ∷ others))
begins-by p behind field others b true goes is = (text_of (cond b behind (p ∷ field)), refl)
begins-by p behind field others true false goes is = absurd (cc (goes refl))
begins-by p behind field others false false goes (more, is) = (more, ap (λ t. p.char ∷ t) is)

pub front : (alternate keeps : Bool) (before : List ℕ) (source : List Placed) → Begins (text_of (operand_field alternate keeps None before source)) (ended before (text_of source))
front alternate keeps before [] = ([], refl)
front alternate keeps before (p ∷ source) =
    begins-by p (cond (alternate && (slice_index before 0 == 44)) (operand_field alternate keeps (Some p.line) before source) []) (operand_field alternate keeps None (p.char ∷ before) source)
    (ended (p.char ∷ before) (text_of source)) (is_blank p.char && ends_field keeps p.char before) (ends_here p.char before) (goes-alike keeps p.char before)
    (front alternate keeps (p.char ∷ before) source)

-- ---- a field that was read before

goes-here : (c : ℕ) (before : List ℕ) → (is_blank c && ends_field false c before) ≡ false → ends_here c before ≡ false
goes-here c before goes = sym (ends-alike c before) ∙ goes

settled-by : (remarked stops : Bool) (before : List ℕ) (p : Placed) (passed over field : List Placed) → (is_blank p.char && ends_field false p.char before) ≡ stops →
    ended before (text_of passed) ≡ text_of passed → ended before (text_of over) ≡ text_of over → ended (p.char ∷ before) (text_of field) ≡ text_of field →
    ended before (text_of (cond remarked passed (cond stops over (p ∷ field)))) ≡ text_of (cond remarked passed (cond stops over (p ∷ field)))
settled-by true stops before p passed over field is one two three = one
settled-by false true before p passed over field is one two three = two
settled-by false false before p passed over field is one two three = rw (goes-here p.char before is) (ap (λ t. p.char ∷ t) three)

settled-over : (b : Bool) (before : List ℕ) (field : List Placed) → ended before (text_of field) ≡ text_of field → ended before (text_of (cond b field [])) ≡ text_of (cond b field [])
settled-over true before field is = is
settled-over false before field is = refl

settled-from : (alternate : Bool) (remarks : Option ℕ) (before : List ℕ) (source : List Placed) →
    ended before (text_of (operand_field alternate false remarks before source)) ≡ text_of (operand_field alternate false remarks before source)
settled-from alternate remarks before [] = refl
settled-from alternate remarks before (p ∷ source) =
    settled-by (is_remark remarks p.line) (is_blank p.char && ends_field false p.char before) before p (operand_field alternate false remarks before source)
    (cond (alternate && (slice_index before 0 == 44)) (operand_field alternate false (Some p.line) before source) []) (operand_field alternate false None (p.char ∷ before) source)
    refl (settled-from alternate remarks before source)
    (settled-over (alternate && (slice_index before 0 == 44)) before (operand_field alternate false (Some p.line) before source) (settled-from alternate (Some p.line) before source))
    (settled-from alternate None (p.char ∷ before) source)

pub settled : (alternate : Bool) (before : List ℕ) (source : List Placed) →
    ended before (text_of (operand_field alternate false None before source)) ≡ text_of (operand_field alternate false None before source)
settled alternate before source = settled-from alternate None before source
