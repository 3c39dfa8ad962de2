-- How the telling of two evaluations makes that of one after the other.
use Rattle.std.proofs.Common.{◌≡◌, Bool, true, false, cond, List, ◌++◌, Result, Ok, Err, sym, ap, subst, ◌∙◌, append_assoc, append-nil}
use Rattle.std.specs.Result.{IsErrAnd}
use Rattle.hl_base.specs.declared.note.Note.{Note}
use Rattle.cond_expr.specs.declared.stop.Stop.{Stop}
use Rattle.cond_expr.specs.declared.stop.Stop.TheVariants.{Asked, OutOfMemory}
use Rattle.cond_expr.specs.Outcome.{Outcome, Gives, Asks, gives, noting, and_then, Tells}

-- notes before those that an evaluation gives
Tells-noting : {W : Type 0} (fresh : List Note) (o : Outcome W) (before middle after : List Note) (r : Result W Stop) →
    middle ≡ before ++ fresh → Tells o middle after r → Tells (noting fresh o) before after r
Tells-noting fresh (Gives w more) before middle after (Ok v) is tells =
    (tells.0, tells.1 ∙ ap (λ notes. notes ++ more) is ∙ append_assoc before fresh more)
Tells-noting fresh (Gives w more) before middle after (Err (Asked key)) is tells = tells
Tells-noting fresh (Gives w more) before middle after (Err OutOfMemory) is tells = tt
Tells-noting fresh (Asks key) before middle after (Ok v) is tells = tells
Tells-noting fresh (Asks key) before middle after (Err (Asked other)) is tells = tells
Tells-noting fresh (Asks key) before middle after (Err OutOfMemory) is tells = tt

-- a value, and then what the next evaluation tells
pub Tells-and_then : {V W : Type 0} (o : Outcome V) (next : V → Outcome W) (before middle after : List Note) (v : V) (r : Result W Stop) →
    Tells o before middle (Ok v) → Tells (next v) middle after r → Tells (and_then o next) before after r
Tells-and_then (Gives w fresh) next before middle after v r first second =
    Tells-noting fresh (next w) before middle after r first.1 (subst (λ u. Tells (next u) middle after r) first.0 second)
Tells-and_then (Asks key) next before middle after v r first second = absurd first

-- want of memory is always free
pub out_of_memory : {W : Type 0} (o : Outcome W) (before after : List Note) → Tells o before after (Err OutOfMemory)
out_of_memory (Gives w fresh) before after = tt
out_of_memory (Asks key) before after = tt

-- an evaluation that stops
pub Tells-stop : {V W : Type 0} (o : Outcome V) (next : V → Outcome W) (before middle after : List Note) (stop : Stop) →
    Tells o before middle (Err stop) → Tells (and_then o next) before after (Err stop)
Tells-stop (Gives w fresh) next before middle after (Asked key) first = absurd first
Tells-stop (Gives w fresh) next before middle after OutOfMemory first = out_of_memory (noting fresh (next w)) before after
Tells-stop (Asks key) next before middle after (Asked other) first = first
Tells-stop (Asks key) next before middle after OutOfMemory first = tt

-- the same at the exit of a `?`
pub Tells-failed : {V W : Type 0} (o : Outcome V) (next : V → Outcome W) (before middle after : List Note) (stop : Stop) (r : Result W Stop) →
    IsErrAnd r (λ x. x ≡ stop) → Tells o before middle (Err stop) → Tells (and_then o next) before after r
Tells-failed o next before middle after stop (Ok v) failed first = absurd failed
Tells-failed o next before middle after stop (Err x) failed first =
    subst (λ s. Tells (and_then o next) before after (Err s)) (sym failed) (Tells-stop o next before middle after stop first)

-- nothing more is noted
pub Tells-gives : {V : Type 0} (v w : V) (notes : List Note) → w ≡ v → Tells (gives v) notes notes (Ok w)
Tells-gives v w notes is = (is, sym (append-nil notes))

-- the value of the first, which is known by an equation
pub Tells-known : {V W : Type 0} (o : Outcome V) (next : V → Outcome W) (before middle after : List Note) (u v : V) (r : Result W Stop) →
    u ≡ v → Tells o before middle (Ok u) → Tells (next v) middle after r → Tells (and_then o next) before after r
Tells-known o next before middle after u v r is first second =
    Tells-and_then o next before middle after v r (subst (λ x. Tells o before middle (Ok x)) is first) second

-- one of two outcomes, by a test
pub Tells-true : {V : Type 0} (b : Bool) (x y : Outcome V) (before after : List Note) (r : Result V Stop) → b ≡ true → Tells x before after r →
    Tells (cond b x y) before after r
Tells-true true x y before after r is tells = tells
Tells-true false x y before after r is tells = cc

pub Tells-false : {V : Type 0} (b : Bool) (x y : Outcome V) (before after : List Note) (r : Result V Stop) → b ≡ false → Tells y before after r →
    Tells (cond b x y) before after r
Tells-false true x y before after r is tells = cc
Tells-false false x y before after r is tells = tells
