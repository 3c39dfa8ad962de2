use Rattle.std.proofs.Common.{◌≡◌, ℕ, ◌-◌, ◌<◌, ◌≤◌, refl, subst, rules}
use Rattle.std.specs.Prelude.{Option}
use Rattle.character_grammar.specs.declared.text_point.TextPoint.{TextPoint}
use Rattle.character_grammar.specs.declared.text_reader.TextMoved.{TextMoved}
use Rattle.expression_grammar.specs.Spelling.{Placed, most_parts}
use Rattle.character_grammar.specs.TextReading.{TextState, text_step, text_weight}
use Rattle.character_grammar.specs.TextViews.{TextMoves, text_state}
use Rattle.character_grammar.proofs.TextMoveLaws.{text_advance_none, text_advance_some, text_advance_over}
use Rattle.character_grammar.proofs.parse_text.advance_anywhere.Goals as goal

pub returns-in_default : goal.returns-in_default
returns-in_default c =
    let state : TextState = text_state c.args.progress.now.point in
    let p : Placed = record { at = c.args.at; code = c.args.c } in
    let m : TextMoves (text_step state p) (text_weight state) c.in_ok-moved.field-0 =
    subst (λ (q : TextPoint). TextMoves (text_step (text_state q) p) (text_weight (text_state q)) c.in_ok-moved.field-0) c.replace-point.ensures.value c.in_ok-moved.ensures in
    (refl, text_advance_none state p (subst (λ (o : Option TextMoved). TextMoves (text_step state p) (text_weight state) o) c.in_default.is m))

pub returns-then-moved-from : goal.returns-then-moved-from
returns-then-moved-from c =
    let state : TextState = text_state c.args.progress.now.point in
    let p : Placed = record { at = c.args.at; code = c.args.c } in
    let m : TextMoves (text_step state p) (text_weight state) c.in_ok-moved.field-0 =
    subst (λ (q : TextPoint). TextMoves (text_step (text_state q) p) (text_weight (text_state q)) c.in_ok-moved.field-0) c.replace-point.ensures.value c.in_ok-moved.ensures in
    let most : c.from.result ≡ most_parts = search rules in
    let over : most_parts - c.args.progress.now.weight < c.in-Some.moved.more = subst (λ (n : ℕ). n - c.args.progress.now.weight < c.in-Some.moved.more) most c.if-moved-from.true in (
      refl,
      text_advance_over state p c.args.progress.now.weight c.in-Some.moved
          (subst (λ (o : Option TextMoved). TextMoves (text_step state p) (text_weight state) o) c.in-Some.is m) c.requires.weighed c.requires.small over,
    )

pub returns : goal.returns
returns c =
    let state : TextState = text_state c.args.progress.now.point in
    let p : Placed = record { at = c.args.at; code = c.args.c } in
    let m : TextMoves (text_step state p) (text_weight state) c.in_ok-moved.field-0 =
    subst (λ (q : TextPoint). TextMoves (text_step (text_state q) p) (text_weight (text_state q)) c.in_ok-moved.field-0) c.replace-point.ensures.value c.in_ok-moved.ensures in
    let most : c.from.result ≡ most_parts = search rules in
    let within : c.in-Some.moved.more ≤ most_parts - c.args.progress.now.weight = subst (λ (n : ℕ). c.in-Some.moved.more ≤ n - c.args.progress.now.weight) most c.if-moved-from.false in
    text_advance_some state p c.args.progress.now.weight c.in-Some.moved
    (subst (λ (o : Option TextMoved). TextMoves (text_step state p) (text_weight state) o) c.in-Some.is m) c.requires.weighed c.requires.small within
