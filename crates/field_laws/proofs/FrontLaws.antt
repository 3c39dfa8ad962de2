-- The operand field is fronts of its lines.
use Rattle.std.proofs.Common.{◌≡◌, ◌∙◌, refl, ℕ, Bool, true, false, cond, List, [], ◌∷◌, ◌++◌, Some, None, sym, ap, subst, append-nil}
use Rattle.std.specs.Prelude.{◌↔◌, ◌==◌, ◌&&◌}
use Rattle.std.specs.List.{onto_first}
use Rattle.hlasm_statements.specs.Columns.{Placed}
use Rattle.hlasm_statements.specs.Fields.{operand_field}
use Rattle.field_laws.specs.Fronts.{up_to, ends_at, BeginsWithEnd, IsFront, IsFrontOf, ends_in_comma, behind_line, IsOver, AreFronts, last, more, in_a_row, AreFrontsOf}

-- ---- one front

-- none, where the field ends at once
none : (keeps : Bool) (before : List ℕ) (rest : List Placed) → BeginsWithEnd keeps before rest → IsFront keeps before rest [] rest
none keeps before rest ends = record { whole = refl; goes_on = λ these p others e. nothing these p others e; ends = ends }
  where
    nothing : (these : List Placed) (p : Placed) (others : List Placed) → [] ≡ these ++ p ∷ others → ends_at keeps (up_to before these) p ≡ false
    nothing [] p others e = cc
    nothing (q ∷ these) p others e = cc

head-same : (p q : Placed) (these others : List Placed) → p ∷ these ≡ q ∷ others → p ≡ q
head-same p q these others e = cc

tail-same : (p q : Placed) (these others : List Placed) → p ∷ these ≡ q ∷ others → these ≡ others
tail-same p q these others e = cc

-- one more character before a front
one-more : (keeps : Bool) (before : List ℕ) (p : Placed) (source front rest : List Placed) → ends_at keeps before p ≡ false → IsFront keeps (p.char ∷ before) source front rest →
    IsFront keeps before (p ∷ source) (p ∷ front) rest
one-more keeps before p source front rest goes is = record { whole = ap (λ s. p ∷ s) is.whole; goes_on = goes_on; ends = is.ends }
  where
    goes_on : (these : List Placed) (q : Placed) (others : List Placed) → p ∷ front ≡ these ++ q ∷ others → ends_at keeps (up_to before these) q ≡ false
    goes_on [] q others e = subst (λ (r : Placed). ends_at keeps before r ≡ false) (head-same p q front others e) goes
    goes_on (t ∷ these) q others e =
        subst (λ (r : Placed). ends_at keeps (up_to (r.char ∷ before) these) q ≡ false) (head-same p t front (these ++ q ∷ others) e)
        (is.goes_on these q others (tail-same p t front (these ++ q ∷ others) e))

-- the front of a source by its first character
abbrev Fronted : (keeps : Bool) (before : List ℕ) (source field : List Placed) → Type 0
Fronted keeps before source field = (rest : List Placed) × IsFront keeps before source field rest

by-first : (keeps : Bool) (before : List ℕ) (p : Placed) (source field : List Placed) (b : Bool) → ends_at keeps before p ≡ b → Fronted keeps (p.char ∷ before) source field →
    Fronted keeps before (p ∷ source) (cond b [] (p ∷ field))
by-first keeps before p source field true e others = (p ∷ source, none keeps before (p ∷ source) e)
by-first keeps before p source field false e others = (others.0, one-more keeps before p source field others.0 e others.1)

front : (keeps : Bool) (before : List ℕ) (source : List Placed) → Fronted keeps before source (operand_field false keeps None before source)
front keeps before [] = ([], none keeps before [] tt)
front keeps before (p ∷ source) =
    by-first keeps before p source (operand_field false keeps None (p.char ∷ before) source) (ends_at keeps before p) refl (front keeps (p.char ∷ before) source)

-- the field goes on as long as its front does
reads : (alternate keeps : Bool) (before : List ℕ) (p : Placed) (source : List Placed) → ends_at keeps before p ≡ false →
    operand_field alternate keeps None before (p ∷ source) ≡ p ∷ operand_field alternate keeps None (p.char ∷ before) source
reads alternate keeps before p source goes =
    ap (λ b. cond b (cond (alternate && ends_in_comma before) (operand_field alternate keeps (Some p.line) before source) []) (p ∷ operand_field alternate keeps None (p.char ∷ before) source)) goes

passes : (alternate keeps : Bool) (before : List ℕ) (source front rest : List Placed) → IsFront keeps before source front rest →
    operand_field alternate keeps None before source ≡ front ++ operand_field alternate keeps None (up_to before front) rest
passes alternate keeps before source [] rest is = ap (operand_field alternate keeps None before) is.whole
passes alternate keeps before source (p ∷ front) rest is =
    let inner : IsFront keeps (p.char ∷ before) (front ++ rest) front rest =
    record { whole = refl; goes_on = λ these q others e. is.goes_on (p ∷ these) q others (ap (λ f. p ∷ f) e); ends = is.ends } in
    ap (operand_field alternate keeps None before) is.whole
    ∙ reads alternate keeps before p (front ++ rest) (is.goes_on [] p front refl)
    ∙ ap (λ f. p ∷ f) (passes alternate keeps (p.char ∷ before) (front ++ rest) front rest inner)

-- and stops where it ends
stops : (alternate keeps : Bool) (before : List ℕ) (p : Placed) (source : List Placed) → ends_at keeps before p ≡ true →
    operand_field alternate keeps None before (p ∷ source) ≡ cond (alternate && ends_in_comma before) (operand_field alternate keeps (Some p.line) before source) []
stops alternate keeps before p source ends =
    ap (λ b. cond b (cond (alternate && ends_in_comma before) (operand_field alternate keeps (Some p.line) before source) []) (p ∷ operand_field alternate keeps None (p.char ∷ before) source)) ends

over : (keeps : Bool) (before : List ℕ) (rest : List Placed) → BeginsWithEnd keeps before rest → operand_field false keeps None before rest ≡ []
over keeps before [] ends = refl
over keeps before (p ∷ rest) ends = stops false keeps before p rest ends

only : (keeps : Bool) (source field : List Placed) → IsFrontOf keeps source field → field ≡ operand_field false keeps None [] source
only keeps source field (rest, is) =
    sym (passes false keeps [] source field rest is ∙ ap (λ f. field ++ f) (over keeps (up_to [] field) rest is.ends) ∙ append-nil field)

pub standard : (keeps : Bool) (source field : List Placed) → (field ≡ operand_field false keeps None [] source) ↔ IsFrontOf keeps source field
standard keeps source field = (λ e. subst (IsFrontOf keeps source) (sym e) (front keeps [] source), only keeps source field)

-- ---- more than one

abbrev Rows : (keeps : Bool) (before : List ℕ) (source field : List Placed) → Type 0
Rows keeps before source field = (fronts : List (List Placed)) × AreFronts keeps before source fronts × (field ≡ in_a_row fronts)

-- one more character before fronts
longer : (keeps : Bool) (before : List ℕ) (p : Placed) (source : List Placed) (fronts : List (List Placed)) → ends_at keeps before p ≡ false → AreFronts keeps (p.char ∷ before) source fronts →
    AreFronts keeps before (p ∷ source) (onto_first p fronts)
longer keeps before p source _ goes (last _ _ one rest is over) = last before (p ∷ source) (p ∷ one) rest (one-more keeps before p source one rest goes is) over
longer keeps before p source _ goes (more _ _ one q rest fronts is comma others) = more before (p ∷ source) (p ∷ one) q rest fronts (one-more keeps before p source one (q ∷ rest) goes is) comma others

longer-row : (p : Placed) (fronts : List (List Placed)) → p ∷ in_a_row fronts ≡ in_a_row (onto_first p fronts)
longer-row p [] = refl
longer-row p (one ∷ fronts) = refl

goes-on : (keeps : Bool) (before : List ℕ) (p : Placed) (source field : List Placed) → ends_at keeps before p ≡ false → Rows keeps (p.char ∷ before) source field → Rows keeps before (p ∷ source) (p ∷ field)
goes-on keeps before p source field goes (fronts, are, is) = (onto_first p fronts, longer keeps before p source fronts goes are, ap (λ f. p ∷ f) is ∙ longer-row p fronts)

-- where the field ends, or its line has remarks
ended : (keeps : Bool) (before : List ℕ) (p : Placed) (source field : List Placed) (comma : Bool) → ends_at keeps before p ≡ true → ends_in_comma before ≡ comma → Rows keeps before (behind_line p.line source) field →
    Rows keeps before (p ∷ source) (cond comma field [])
ended keeps before p source field true ends is (fronts, are, row) =
    ([] ∷ fronts, more before (p ∷ source) [] p source fronts (none keeps before (p ∷ source) ends) is are, row)
ended keeps before p source field false ends is others = ([] ∷ [], last before (p ∷ source) [] (p ∷ source) (none keeps before (p ∷ source) ends) is, refl)

-- by the first character, which stands in no line of remarks
by-character : (keeps : Bool) (before : List ℕ) (p : Placed) (source field behind : List Placed) (b : Bool) → ends_at keeps before p ≡ b → Rows keeps (p.char ∷ before) source field →
    Rows keeps before (behind_line p.line source) behind → Rows keeps before (p ∷ source) (cond b (cond (ends_in_comma before) behind []) (p ∷ field))
by-character keeps before p source field behind true ends inside others = ended keeps before p source behind (ends_in_comma before) ends refl others
by-character keeps before p source field behind false ends inside others = goes-on keeps before p source field ends inside

-- by the line of the first character
by-line : (keeps : Bool) (before : List ℕ) (line : ℕ) (p : Placed) (source passed field : List Placed) (b : Bool) → Rows keeps before (behind_line line source) passed → Rows keeps before (p ∷ source) field →
    Rows keeps before (cond b (behind_line line source) (p ∷ source)) (cond b passed field)
by-line keeps before line p source passed field true behind here = behind
by-line keeps before line p source passed field false behind here = here

-- fronts of a source, and of what is left of it behind a line of remarks
record Whole (keeps : Bool) (source : List Placed) : Type 0 where
  here : (before : List ℕ) → Rows keeps before source (operand_field true keeps None before source)
  behind : (line : ℕ) (before : List ℕ) → Rows keeps before (behind_line line source) (operand_field true keeps (Some line) before source)

nothing-left : (keeps : Bool) (before : List ℕ) → Rows keeps before [] []
nothing-left keeps before = ([] ∷ [], last before [] [] [] (none keeps before [] tt) tt, refl)

whole : (keeps : Bool) (source : List Placed) → Whole keeps source
whole keeps [] = record { here = λ before. nothing-left keeps before; behind = λ line before. nothing-left keeps before }
whole keeps (p ∷ source) =
    let rest : Whole keeps source = whole keeps source in
    let first : (before : List ℕ) → Rows keeps before (p ∷ source) (operand_field true keeps None before (p ∷ source)) =
    λ before. by-character keeps before p source (operand_field true keeps None (p.char ∷ before) source) (operand_field true keeps (Some p.line) before source) (ends_at keeps before p) refl
    (rest.here (p.char ∷ before)) (rest.behind p.line before) in
    record {
      here = first;
      behind = λ line before. by-line keeps before line p source (operand_field true keeps (Some line) before source) (operand_field true keeps None before (p ∷ source)) (p.line == line) (rest.behind line before) (first before);
    }

-- behind a line of remarks the field goes on in the next line
chosen : (b : Bool) (x y : List Placed) (field : List Placed → List Placed) (passed here : List Placed) → passed ≡ field x → here ≡ field y → cond b passed here ≡ field (cond b x y)
chosen true x y field passed here one other = one
chosen false x y field passed here one other = other

skipped : (keeps : Bool) (before : List ℕ) (line : ℕ) (source : List Placed) →
    operand_field true keeps (Some line) before source ≡ operand_field true keeps None before (behind_line line source)
skipped keeps before line [] = refl
skipped keeps before line (p ∷ source) =
    chosen (p.line == line) (behind_line line source) (p ∷ source) (operand_field true keeps None before) (operand_field true keeps (Some line) before source)
    (operand_field true keeps None before (p ∷ source)) (skipped keeps before line source) refl

-- behind the last front nothing belongs to the field
over-for_good : (keeps : Bool) (before : List ℕ) (rest : List Placed) → BeginsWithEnd keeps before rest → IsOver before rest → operand_field true keeps None before rest ≡ []
over-for_good keeps before [] ends is = refl
over-for_good keeps before (p ∷ rest) ends is = stops true keeps before p rest ends ∙ ap (λ b. cond b (operand_field true keeps (Some p.line) before rest) []) is

in_lines : (keeps : Bool) (before : List ℕ) (source : List Placed) (fronts : List (List Placed)) → AreFronts keeps before source fronts → operand_field true keeps None before source ≡ in_a_row fronts
in_lines keeps before source _ (last _ _ one rest is over) =
    passes true keeps before source one rest is ∙ ap (λ f. one ++ f) (over-for_good keeps (up_to before one) rest is.ends over)
in_lines keeps before source _ (more _ _ one p rest fronts is comma others) =
    passes true keeps before source one (p ∷ rest) is
    ∙ ap (λ f. one ++ f) (stops true keeps (up_to before one) p rest is.ends ∙ ap (λ b. cond b (operand_field true keeps (Some p.line) (up_to before one) rest) []) comma
    ∙ skipped keeps (up_to before one) p.line rest ∙ in_lines keeps (up_to before one) (behind_line p.line rest) fronts others)

only-rows : (keeps : Bool) (source field : List Placed) → AreFrontsOf keeps source field → field ≡ operand_field true keeps None [] source
only-rows keeps source field (fronts, are, is) = is ∙ sym (in_lines keeps [] source fronts are)

pub alternate : (keeps : Bool) (source field : List Placed) → (field ≡ operand_field true keeps None [] source) ↔ AreFrontsOf keeps source field
alternate keeps source field = (λ e. subst (AreFrontsOf keeps source) (sym e) ((whole keeps source).here []), only-rows keeps source field)
