-- What holds of the step that comes next, where a function of its own says what that is told.
use Rattle.std.proofs.Common.{IfOk, OnOk, Result, Ok, Err, ◌≡◌, sym, subst}
use Rattle.kept_values.specs.Trees.{Tree}
use Rattle.asking_core.specs.Machines.{Told}
use Rattle.asking_core.specs.Actions.{told_of}
use Rattle.asking_core.specs.declared.machine.Given.{Given}
use Rattle.expansion_memo.specs.declared.walk.Next.{Next}
use Rattle.expansion_memo.specs.declared.walk.Next.TheVariants as next
use Rattle.expansion_memo.specs.Walks.{Tells}

pub at_ok : {A E : Type 0} (P : A → Type 0) (r : Result A E) (x : A) → r ≡ Ok x → P x → IfOk r P
at_ok {A} {E} P r x is holds = let At : Result A E → Type 0 = λ y. IfOk y P in subst At (sym is) holds

tells_that : {V C : Type 0} (value : V → Tree) (t : Told) (P : Next V C → Type 0) (n : Next V C) → Tells value t n →
    ((g : Given V) → told_of value g ≡ t → P (next.Tell g)) → P n
tells_that value t P (next.Tell g) is go = go g is
tells_that value t P next.Counts is go = absurd is
tells_that value t P (next.Enters c) is go = absurd is
tells_that value t P next.Leaves is go = absurd is
tells_that value t P next.Ends is go = absurd is

pub ok_told : {V C E : Type 0} (value : V → Tree) (t : Told) (X : Type 0) (P : Next V C → Type 0) (r : Result (Next V C) E) →
    IfOk r (Tells value t) → OnOk r X → ((g : Given V) → told_of value g ≡ t → X → P (next.Tell g)) → IfOk r P
ok_told value t X P (Ok n) tells x go = tells_that value t P n tells (λ g is. go g is x)
ok_told value t X P (Err e) tells x go = tt
