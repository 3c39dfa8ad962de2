use Rattle.std.proofs.Common.{◌≡◌, ◌+◌, Bool, true, false, drop, Ok, Err, sym, ap, subst, refl, arith}
use Rattle.std.specs.Prelude.{map}
use Rattle.statement_reading.specs.Views.{choice_of}
use Rattle.expression_grammar.specs.Views.{tree_of}
use Rattle.cond_expr.specs.Outcome.{Outcome, Tells, gives}
use Rattle.cond_expr.specs.Values.{number, is_true}
use Rattle.cond_expr.proofs.OutcomeLemmas.{Tells-and_then, Tells-stop, Tells-gives, Tells-true, Tells-false}
use Rattle.conditional_asm.specs.declared.act.Act.{Act}
use Rattle.conditional_asm.specs.declared.act.Act.TheVariants.{Next, Branch}
use Rattle.conditional_asm.specs.Branching.{by_first_true}
use Rattle.conditional_asm.proofs.BranchingLaws.{by_first_true-at, by_first_true-past, tried}
use Rattle.conditional_asm.proofs.aif.aif.Goals as goal

pub loop-pair-init : goal.loop-pair-init
loop-pair-init g c = λ after r t. t

pub returns-in-Err : goal.returns-in-Err
returns-in-Err g c =
    let told = g.Q.Lookups.told c.args.q.now in
    let i = c.loop-pair.pair-index in
    let all = c.args.pairs.now in
    let one = c.pair-item.result in
    let stop = c.in-Err.stop in
    c.loop-pair.invariant c.number.new.notes (Err stop)
    (subst (λ (o : Outcome Act). Tells o c.loop-pair.notes c.number.new.notes (Err stop))
    (sym (by_first_true-at all i one told c.loop-pair-test.true c.pair-item.is))
    (Tells-stop (number (tree_of one.tree) told) (tried (choice_of one) (by_first_true (map choice_of (drop (i + 1) all)) told)) c.loop-pair.notes c.number.new.notes c.number.new.notes stop c.in-Err.ensures))

pub returns-then-n-ne0 : goal.returns-then-n-ne0
returns-then-n-ne0 g c =
    let told = g.Q.Lookups.told c.args.q.now in
    let i = c.loop-pair.pair-index in
    let all = c.args.pairs.now in
    let one = c.pair-item.result in
    let others = by_first_true (map choice_of (drop (i + 1) all)) told in
    let yes : is_true c.in-Ok.n ≡ true = let holds = c.if-n-ne0.true in grind arith in
    c.loop-pair.invariant c.number.new.notes (Ok (Branch c.copy.result))
    (subst (λ (o : Outcome Act). Tells o c.loop-pair.notes c.number.new.notes (Ok (Branch c.copy.result)))
    (sym (by_first_true-at all i one told c.loop-pair-test.true c.pair-item.is))
    (Tells-and_then (number (tree_of one.tree) told) (tried (choice_of one) others) c.loop-pair.notes c.number.new.notes c.number.new.notes c.in-Ok.n (Ok (Branch c.copy.result)) c.in-Ok.ensures
    (Tells-true (is_true c.in-Ok.n) (gives (Branch one.label)) others c.number.new.notes c.number.new.notes (Ok (Branch c.copy.result)) yes
    (Tells-gives (Branch one.label) (Branch c.copy.result) c.number.new.notes (ap Branch c.copy.ensures)))))

pub loop-pair-preserved : goal.loop-pair-preserved
loop-pair-preserved g c =
    let told = g.Q.Lookups.told c.args.q.now in
    let i = c.loop-pair.pair-index in
    let all = c.args.pairs.now in
    let one = c.pair-item.result in
    let others = by_first_true (map choice_of (drop (i + 1) all)) told in
    let no : is_true c.in-Ok.n ≡ false = let fails = c.if-n-ne0.false in grind arith in
    λ after r t. c.loop-pair.invariant after r
    (subst (λ (o : Outcome Act). Tells o c.loop-pair.notes after r)
    (sym (by_first_true-at all i one told c.loop-pair-test.true c.pair-item.is))
    (Tells-and_then (number (tree_of one.tree) told) (tried (choice_of one) others) c.loop-pair.notes c.number.new.notes after c.in-Ok.n r c.in-Ok.ensures
    (Tells-false (is_true c.in-Ok.n) (gives (Branch one.label)) others c.number.new.notes after r no t)))

pub returns : goal.returns
returns g c =
    let told = g.Q.Lookups.told c.args.q.now in
    c.loop-pair.invariant c.loop-pair.notes (Ok Next)
    (subst (λ (o : Outcome Act). Tells o c.loop-pair.notes c.loop-pair.notes (Ok Next))
    (sym (by_first_true-past c.args.pairs.now c.loop-pair.pair-index told c.loop-pair-test.false))
    (Tells-gives Next Next c.loop-pair.notes refl))
