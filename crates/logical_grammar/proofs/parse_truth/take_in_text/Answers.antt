use Rattle.std.proofs.Common.{Bool, true, subst, sym}
use Rattle.character_grammar.specs.TextReading.{TextState}
use Rattle.character_grammar.specs.TextViews.{Takes, text_state}
use Rattle.logical_grammar.specs.LogicReading as logic
use Rattle.logical_grammar.specs.LogicViews.{LogicTakes}
use Rattle.logical_grammar.proofs.LogicInPlace.{text_takes}
use Rattle.logical_grammar.proofs.parse_truth.take_in_text.Goals as goal

pub returns-then-branch : goal.returns-then-branch
returns-then-branch c = λ relation.
    let before : TextState = text_state c.args.inner.now in
    let after : TextState = text_state c.take_plain.new.point in
    let taken : Takes before c.args.c after true = subst (λ (b : Bool). Takes before c.args.c after b) c.if-branch.true c.in_ok-take_plain.ensures in
    subst (λ (b : Bool). LogicTakes (logic.Text relation before c.args.touch.now) c.args.c (logic.Text relation after b) true) (sym c.is_symbol_character.ensures)
    (text_takes relation before after c.args.touch.now c.args.c taken)
