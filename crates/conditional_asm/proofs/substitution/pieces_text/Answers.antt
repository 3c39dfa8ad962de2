use Rattle.std.proofs.Common.{◌≡◌, ◌∙◌, ◌+◌, ◌++◌, ℕ, List, drop, Ok, Err, sym, ap, subst}
use Rattle.std.specs.Prelude.{map}
use Rattle.cond_expr.specs.Outcome.{Outcome, Tells}
use Rattle.statement_reading.specs.Views.{part_of}
use Rattle.conditional_asm.specs.Substitution.{substituted, part_text}
use Rattle.conditional_asm.proofs.SubstitutionLaws.{behind_text, tells-all, tells-more, tells-stop, tells-end, substituted-at, substituted-past}
use Rattle.conditional_asm.proofs.substitution.pieces_text.Goals as goal

pub loop-piece-init : goal.loop-piece-init
loop-piece-init g c =
    let all = substituted (map part_of c.args.pieces.now) (g.Q.Lookups.told c.args.q.now) in
    λ after r t. tells-all all c.args.notes.now after r (subst (λ (w : List ℕ). Tells (behind_text w all) c.args.notes.now after r) c.new-whole.ensures t)

pub returns-in-Err : goal.returns-in-Err
returns-in-Err g c =
    let told = g.Q.Lookups.told c.args.q.now in
    let i = c.loop-piece.piece-index in
    let all = c.args.pieces.now in
    let others = substituted (map part_of (drop (i + 1) all)) told in
    let stop = c.in-Err.stop in
    c.loop-piece.invariant c.piece_text.new.notes (Err stop)
    (subst (λ (o : Outcome (List ℕ)). Tells (behind_text c.loop-piece.whole o) c.loop-piece.notes c.piece_text.new.notes (Err stop))
    (sym (substituted-at all i c.piece-item.result told c.loop-piece-test.true c.piece-item.is))
    (tells-stop (part_text (part_of c.piece-item.result) told) others c.loop-piece.whole c.loop-piece.notes c.piece_text.new.notes c.piece_text.new.notes stop c.in-Err.ensures))

pub loop-piece-preserved : goal.loop-piece-preserved
loop-piece-preserved g c =
    let told = g.Q.Lookups.told c.args.q.now in
    let i = c.loop-piece.piece-index in
    let all = c.args.pieces.now in
    let others = substituted (map part_of (drop (i + 1) all)) told in
    let text = c.in-Ok.text in
    let grown : c.push_str.new.self ≡ c.loop-piece.whole ++ text = c.in_ok-push_str-in-Ok.ensures.ok ∙ ap (λ more. c.loop-piece.whole ++ more) c.as_str.ensures.characters in
    λ after r t. c.loop-piece.invariant after r
    (subst (λ (o : Outcome (List ℕ)). Tells (behind_text c.loop-piece.whole o) c.loop-piece.notes after r)
    (sym (substituted-at all i c.piece-item.result told c.loop-piece-test.true c.piece-item.is))
    (tells-more (part_text (part_of c.piece-item.result) told) others c.loop-piece.whole text c.loop-piece.notes c.piece_text.new.notes after r c.in-Ok.ensures
    (subst (λ (w : List ℕ). Tells (behind_text w others) c.piece_text.new.notes after r) grown t)))

pub returns : goal.returns
returns g c =
    let told = g.Q.Lookups.told c.args.q.now in
    c.loop-piece.invariant c.loop-piece.notes (Ok c.loop-piece.whole)
    (subst (λ (o : Outcome (List ℕ)). Tells (behind_text c.loop-piece.whole o) c.loop-piece.notes c.loop-piece.notes (Ok c.loop-piece.whole))
    (sym (substituted-past c.args.pieces.now c.loop-piece.piece-index told c.loop-piece-test.false))
    (tells-end c.loop-piece.whole c.loop-piece.notes))
