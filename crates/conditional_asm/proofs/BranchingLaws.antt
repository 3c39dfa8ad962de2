-- The pairs of an AIF, as they are tried.
use Rattle.std.proofs.Common.{◌≡◌, ◌∙◌, ◌+◌, ◌<◌, ◌≤◌, suc, ℕ, ℤ, List, ◌∷◌, length, get_or, drop, drop-cons, add-one, sym, ap, if◌then◌else◌}
use Rattle.std.specs.Prelude.{map}
use Rattle.std.proofs.Math.ListN.{drop_of_length-le}
use Rattle.cond_expr.specs.Outcome.{Outcome, gives, and_then}
use Rattle.cond_expr.specs.Told.{Told}
use Rattle.conditional_fields.specs.declared.branch.Selector.{Selector}
use Rattle.statement_reading.specs.Branches.{Choice}
use Rattle.statement_reading.specs.Views.{choice_of}
use Rattle.conditional_asm.specs.declared.act.Act.{Act}
use Rattle.conditional_asm.specs.declared.act.Act.TheVariants.{Next, Branch}
use Rattle.cond_expr.specs.Values.{number, is_true}
use Rattle.conditional_asm.specs.Branching.{by_first_true}

-- one pair whose condition has this number, and then those behind it
abbrev pub tried : Choice → Outcome Act → ℤ → Outcome Act
tried pair others n = if is_true n then gives (Branch pair.label) else others

abbrev pub one_of : Choice → Outcome Act → Told → Outcome Act
one_of pair others told = and_then (number pair.tree told) (tried pair others)

pub by_first_true-at : (pairs : List Selector) (i : ℕ) (one : Selector) (told : Told) → i < length pairs → one ≡ get_or pairs i one →
    by_first_true (map choice_of (drop i pairs)) told ≡ one_of (choice_of one) (by_first_true (map choice_of (drop (i + 1) pairs)) told) told
by_first_true-at pairs i one told h is =
    ap (λ ps. by_first_true (map choice_of ps) told) (drop-cons pairs i one h ∙ ap (λ p. p ∷ drop (suc i) pairs) (sym is))
    ∙ ap (λ k. one_of (choice_of one) (by_first_true (map choice_of (drop k pairs)) told) told) (sym (add-one i))

pub by_first_true-past : (pairs : List Selector) (i : ℕ) (told : Told) → length pairs ≤ i → by_first_true (map choice_of (drop i pairs)) told ≡ gives Next
by_first_true-past pairs i told h = ap (λ ps. by_first_true (map choice_of ps) told) (drop_of_length-le pairs h)
