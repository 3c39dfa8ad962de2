use Rattle.std.proofs.Common.{Bool, true, subst}
use Rattle.expression_grammar.specs.Spelling.{Placed}
use Rattle.character_grammar.specs.TextReading.{TextState}
use Rattle.character_grammar.specs.TextViews.{Takes, text_state}
use Rattle.character_grammar.proofs.TextMoveLaws.{text_advance_same}
use Rattle.character_grammar.proofs.parse_text.advance_text.Goals as goal

pub returns-then-branch : goal.returns-then-branch
returns-then-branch c =
    let before : TextState = text_state c.args.progress.now.point in
    let after : TextState = text_state c.take_plain.new.point in
    let p : Placed = record { at = c.args.at; code = c.args.c } in
    let taken : Takes before c.args.c after true = subst (λ (b : Bool). Takes before c.args.c after b) c.if-branch.true c.in_ok-take_plain.ensures in
    text_advance_same before after p c.args.progress.now.weight (taken c.args.at).0 (taken c.args.at).1 c.requires.weighed c.requires.small
