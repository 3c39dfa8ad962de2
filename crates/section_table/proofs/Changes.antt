-- What is done to the section at a place.
use Rattle.std.proofs.Common.{◌≡◌, ◌∙◌, ℕ, zero, suc, ◌<◌, List, [], ◌∷◌, length, map, get_or, set, Option, Some, slice_get, subst, sym, ap}
use Rattle.std.proofs.lemmas.List.{map-set}
use Rattle.std.proofs.lemmas.Option.{slice_get-get_or}
use Rattle.section_table.specs.declared.span.Span as declared
use Rattle.section_table.specs.Spans.{Span}
use Rattle.section_table.specs.Tables.{Table, changed, changed_at, span_in}
use Rattle.section_table.specs.Views.{span_of}

some_same : {X : Type 0} (x y : X) → Some x ≡ Some y → x ≡ y
some_same x y is = cc

slice_get-map : {X Y : Type 0} (f : X → Y) (xs : List X) (i : ℕ) (x : X) → slice_get xs i ≡ Some x → slice_get (map f xs) i ≡ Some (f x)
slice_get-map f [] i x is = absurd cc
slice_get-map f (z ∷ xs) zero x is = ap (λ w. Some (f w)) (some_same z x is)
slice_get-map f (z ∷ xs) (suc i) x is = slice_get-map f xs i x is

-- the span at a place, as contracts see it
pub span_there : (items : List declared.Span) (place : ℕ) (held : declared.Span) → place < length items → held ≡ get_or items place held →
    slice_get (map span_of items) place ≡ Some (span_of held)
span_there items place held inside is = slice_get-map span_of items place held (slice_get-get_or items place held inside ∙ ap Some (sym is))

-- a table as contracts see it
table : List (List ℕ) → List declared.Span → Option ℕ → Table
table names items current = record { names = names; spans = map span_of items; current = current }

-- the current section is changed
changed_here : (names : List (List ℕ)) (items : List declared.Span) (place : ℕ) (held now : declared.Span) (change : Span → Span) →
    place < length items → held ≡ get_or items place held → span_of now ≡ change (span_of held) →
    table names (set items place now) (Some place) ≡ changed change (table names items (Some place))
unfolding table
changed_here names items place held now change inside read is =
    let with_spans : List Span → Table = λ all. record { names = names; spans = all; current = Some place } in
    ap with_spans (map-set span_of items place now ∙ ap (set (map span_of items) place) is)
    ∙ sym (ap (λ o. changed_at place change o (table names items (Some place))) (span_there items place held inside read))

pub changed_there : (names : List (List ℕ)) (items : List declared.Span) (current : Option ℕ) (place : ℕ) (held now : declared.Span) (change : Span → Span) →
    current ≡ Some place → place < length items → held ≡ get_or items place held → span_of now ≡ change (span_of held) →
    record { names = names; spans = map span_of (set items place now); current = current } ≡ changed change (record { names = names; spans = map span_of items; current = current })
unfolding table
changed_there names items current place held now change at inside read is =
    let P : Option ℕ → Type 0 = λ o. table names (set items place now) o ≡ changed change (table names items o) in
    subst P (sym at) (changed_here names items place held now change inside read is)

-- what the current section gives
pub given_there : (items : List declared.Span) (current : Option ℕ) (place : ℕ) (held : declared.Span) →
    current ≡ Some place → place < length items → held ≡ get_or items place held → span_in current (map span_of items) ≡ Some (span_of held)
given_there items current place held at inside read = ap (λ o. span_in o (map span_of items)) at ∙ span_there items place held inside read
