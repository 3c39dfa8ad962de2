-- What stands in parentheses, as its characters are read.
use Rattle.std.proofs.Common.{◌≡◌, ◌∙◌, ℕ, ◌+◌, ◌==◌, true, false, List, [], ◌∷◌, length, refl, sym, ap, arith}
use Rattle.hl_base.specs.Quoting.{IsBehind, depth}
use Rattle.hl_base.specs.declared.quoting.Nesting.{Nesting}
use Rattle.statement_names.specs.Constants.{group_from}
use Rattle.statement_names.specs.Scans.{IsGrouped}

-- before the first character
pub group-init : (nesting : Nesting) (text : List ℕ) → IsBehind nesting [] → IsGrouped nesting 0 text (group_from [] text)
group-init nesting text behind = record { before = []; behind = behind; count_is = refl; same = refl }

here : (before rest : List ℕ) (c : ℕ) → (depth (c ∷ before) == 0) ≡ true → group_from before (c ∷ rest) ≡ length before + 1
here before rest c closed = rw closed refl

on : (before rest : List ℕ) (c : ℕ) → (depth (c ∷ before) == 0) ≡ false → group_from before (c ∷ rest) ≡ group_from (c ∷ before) rest
on before rest c open_yet = rw open_yet refl

-- behind one more, with which some are open
pub group-more : (old new : Nesting) (count c : ℕ) (left rest : List ℕ) (whole depth_now : ℕ) →
    IsGrouped old count left whole → left ≡ c ∷ rest →
    ((before : List ℕ) → IsBehind old before → IsBehind new (c ∷ before)) →
    ((before : List ℕ) → IsBehind new before → depth_now ≡ depth before) →
    (depth_now == 0) ≡ false →
    IsGrouped new (count + 1) rest whole
group-more old new count c left rest whole depth_now so_far splits reads deep open_yet =
    let before = so_far.before in
    let counted : count ≡ length before = so_far.count_is in
    let is_open : (depth (c ∷ before) == 0) ≡ false = ap (λ d. d == 0) (sym (deep (c ∷ before) (reads before so_far.behind))) ∙ open_yet in
    record {
      before = c ∷ before;
      behind = reads before so_far.behind;
      count_is = omega (arith, counted);
      same = sym (on before rest c is_open) ∙ ap (group_from before) (sym splits) ∙ so_far.same;
    }

-- behind one more, with which none is open
pub group-closed : (old new : Nesting) (count c : ℕ) (left rest : List ℕ) (whole depth_now : ℕ) →
    IsGrouped old count left whole → left ≡ c ∷ rest →
    ((before : List ℕ) → IsBehind old before → IsBehind new (c ∷ before)) →
    ((before : List ℕ) → IsBehind new before → depth_now ≡ depth before) →
    (depth_now == 0) ≡ true →
    count + 1 ≡ whole
group-closed old new count c left rest whole depth_now so_far splits reads deep closed =
    let before = so_far.before in
    let is_closed : (depth (c ∷ before) == 0) ≡ true = ap (λ d. d == 0) (sym (deep (c ∷ before) (reads before so_far.behind))) ∙ closed in
    ap (λ n. n + 1) so_far.count_is ∙ sym (here before rest c is_closed) ∙ ap (group_from before) (sym splits) ∙ so_far.same

-- behind the last
pub group-end : (nesting : Nesting) (count : ℕ) (left : List ℕ) (whole : ℕ) → IsGrouped nesting count left whole → left ≡ [] → 0 ≡ whole
group-end nesting count left whole so_far end = ap (group_from so_far.before) (sym end) ∙ so_far.same
