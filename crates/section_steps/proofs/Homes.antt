-- Where the last pool stands.
use Rattle.std.proofs.Common.{◌≡◌, ℕ, ◌+◌, ◌<◌, ◌≤◌, true, false, cond, not, List, [], ◌∷◌, length, get_or, drop, Some, None, drop-cons, refl, sym, ap, ◌∙◌, arith, add-one, length-drop}
use Rattle.std.specs.Prelude.{slice_get}
use Rattle.std.proofs.lemmas.Option.{slice_get-get_or}
use Rattle.section_table.specs.Spans.{Span, fresh}
use Rattle.section_steps.specs.Pools.{is_control, control_from}

-- what stands at a number and behind it
at_number : (all : List Span) (n : ℕ) → n < length all → drop n all ≡ get_or all n (fresh true) ∷ drop (n + 1) all
at_number all n h = rw (add-one, drop-cons all n (fresh true)) refl

control_of : (all : List Span) (n : ℕ) → n < length all → is_control (slice_get all n) ≡ not (get_or all n (fresh true)).dummy
control_of all n h = ap is_control (slice_get-get_or all n (fresh true) h)

pub control_here : (all : List Span) (n : ℕ) → n < length all → is_control (slice_get all n) ≡ true → control_from n (drop n all) ≡ Some n
control_here all n h is =
    ap (control_from n) (at_number all n h)
    ∙ ap (λ b. cond b (Some n) (control_from (n + 1) (drop (n + 1) all))) (sym (control_of all n h) ∙ is)

pub control_next : (all : List Span) (n : ℕ) → n < length all → is_control (slice_get all n) ≡ false → control_from n (drop n all)
    ≡ control_from (n + 1) (drop (n + 1) all)
control_next all n h is =
    ap (control_from n) (at_number all n h)
    ∙ ap (λ b. cond b (Some n) (control_from (n + 1) (drop (n + 1) all))) (sym (control_of all n h) ∙ is)

nothing_left : (spans : List Span) → length spans ≡ 0 → (n : ℕ) → control_from n spans ≡ None
nothing_left [] h n = refl
nothing_left (span ∷ spans) h n = absurd (omega arith)

pub control_none : (all : List Span) (n : ℕ) → length all ≤ n → control_from n (drop n all) ≡ None
control_none all n h = nothing_left (drop n all) (omega (arith, length-drop n all)) n
