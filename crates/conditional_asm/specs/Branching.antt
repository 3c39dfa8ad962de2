-- Where AGO and AIF branch to (HLASM Language Reference SC26-4940, "Computed AGO instruction", "AIF instruction").
use Rattle.std.specs.Prelude.{ℕ, zero, suc, List, [], ◌∷◌, Option, None, ℤ, pos, negsuc, slice_get, if◌then◌else◌}
use Rattle.cond_expr.specs.Told.{Told}
use Rattle.cond_expr.specs.Outcome.{Outcome, gives, and_then}
use Rattle.cond_expr.specs.Values.{number, is_true}
use Rattle.statement_reading.specs.Branches.{Choice}
use Rattle.conditional_asm.specs.declared.act.Act.{Act}
use Rattle.conditional_asm.specs.declared.act.Act.TheVariants.{Next, Branch}

-- the sequence symbol of this number, counted from 1
abbrev pub label_of : ℤ → List (List ℕ) → Option (List ℕ)
label_of (pos zero) labels = None
label_of (pos (suc before)) labels = slice_get labels before
label_of (negsuc n) labels = None

-- a branch by the first pair whose logical expression is true; those behind it are not evaluated
abbrev pub by_first_true : List Choice → Told → Outcome Act
by_first_true [] told = gives Next
by_first_true (pair ∷ pairs) told =
    and_then (number pair.tree told) (λ n. if is_true n then gives (Branch pair.label) else by_first_true pairs told)
