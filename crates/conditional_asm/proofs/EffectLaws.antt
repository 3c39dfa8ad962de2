-- Want of memory, an operation that is no name, one that a macro definition may replace, and how an effect is shown.
use Rattle.std.proofs.Common.{◌≡◌, ◌∙◌, refl, ℕ, Bool, true, false, List, [], ◌∷◌, ◌++◌, length, Result, Ok, Err, sym, ap, subst}
use Rattle.std.specs.Prelude.{◌==◌, if◌then◌else◌}
use Rattle.std.specs.Result.{IsErrAnd}
use Rattle.hl_base.specs.declared.note.Note.{Note}
use Rattle.hl_base.specs.declared.set.Key.{Key}
use Rattle.cond_expr.specs.declared.stop.Stop.{Stop}
use Rattle.cond_expr.specs.declared.stop.Stop.TheVariants.{Asked, OutOfMemory}
use Rattle.cond_expr.specs.Outcome.{Outcome, Gives, Asks, and_then, Tells}
use Rattle.cond_expr.proofs.OutcomeLemmas.{Tells-known, Tells-stop, out_of_memory}
use Rattle.conditional_asm.specs.declared.act.Act.{Act}
use Rattle.conditional_asm.specs.declared.act.Act.TheVariants as act
use Rattle.conditional_asm.specs.declared.act.Effect.{Effect}
use Rattle.conditional_asm.specs.Effects.{shown, nameless}
use Rattle.conditional_asm.specs.Generating.{open_quote}
use Rattle.conditional_asm.specs.Repeating.{once}
use Rattle.conditional_asm.specs.Troubles.{undefined}

-- want of memory at the exit of a `?`
pub wants_memory : {V : Type 0} (o : Outcome V) (before after : List Note) (r : Result V Stop) → IsErrAnd r (λ x. x ≡ OutOfMemory) → Tells o before after r
wants_memory o before after (Ok v) failed = absurd failed
wants_memory o before after (Err stop) failed = subst (λ (s : Stop). Tells o before after (Err s)) (sym failed) (out_of_memory o before after)

-- an operation that is no name, and has a character
pub undefined_op : (op text : List ℕ) (open_end : Bool) → text ≡ op → (length text == 0) ≡ false → nameless op open_end ≡ Gives act.Next (open_quote open_end ++ undefined op ∷ [])
undefined_op [] text open_end is some = let none : (length text == 0) ≡ true = ap (λ (t : List ℕ). length t == 0) is in cc
undefined_op (c ∷ op) text open_end is some = refl

-- an operation that may be replaced, where it is known whether it is defined
pub replaced : (lasting is found : Bool) (defined : Outcome Bool) (x y z : Outcome Act) (before after : List Note) (r : Result Act Stop) → lasting ≡ false → found ≡ is →
    Tells defined before before (Ok found) → Tells (if is then y else z) before after r → Tells (if lasting then x else and_then defined (λ b. if b then y else z)) before after r
replaced true is found defined x y z before after r other same first rest = cc
replaced false is found defined x y z before after r other same first rest = Tells-known defined (λ b. if b then y else z) before before after found is r same first rest

-- the same where that is asked
pub unknown : (lasting : Bool) (defined : Outcome Bool) (x : Outcome Act) (next : Bool → Outcome Act) (before after : List Note) (stop : Stop) → lasting ≡ false →
    Tells defined before before (Err stop) → Tells (if lasting then x else and_then defined next) before after (Err stop)
unknown true defined x next before after stop other first = cc
unknown false defined x next before after stop other first = Tells-stop defined next before before after stop first

-- an act with its notes
pub shows : (o : Outcome Act) (before notes left : List Note) (done : Act) → before ≡ [] → left ≡ once notes → Tells o before notes (Ok done) → record { act = done; notes = left } ≡ shown o
shows (Gives v more) before notes left done none is tells =
    let one : Act → Effect = λ a. record { act = a; notes = left } in
    let two : List Note → Effect = λ n. record { act = v; notes = n } in
    ap one tells.0 ∙ ap two (is ∙ ap once (tells.1 ∙ ap (λ b. b ++ more) none))
shows (Asks key) before notes left done none is tells = absurd tells

-- a key that is asked, and no note
pub shows_asked : (o : Outcome Act) (before after fresh : List Note) (key : Key) → fresh ≡ [] → Tells o before after (Err (Asked key)) → record { act = act.Ask key; notes = fresh } ≡ shown o
shows_asked (Gives v more) before after fresh key none tells = absurd tells
shows_asked (Asks wanted) before after fresh key none tells =
    let one : Key → Effect = λ k. record { act = act.Ask k; notes = fresh } in
    let two : List Note → Effect = λ n. record { act = act.Ask wanted; notes = n } in
    ap one tells ∙ ap two none
