use Rattle.std.proofs.Common.{◌∙◌, ◌+◌, ap, refl}
use Rattle.expression_grammar.specs.Characters.{kind_of}
use Rattle.expression_grammar.specs.Spelling.{Placed}
use Rattle.expression_grammar.specs.Trees.{Items, NoItems, size_items}
use Rattle.character_grammar.specs.TextReading.{go_inside, after_symbol, opened_size, Opened, text_step}
use Rattle.character_grammar.specs.TextViews.{opened_of}
use Rattle.expression_grammar.specs.Views.{items_in}
use Rattle.character_grammar.proofs.TextMoveLaws.{stays}
use Rattle.character_grammar.proofs.TextWeights.{inside-least, symbol-weight}
use Rattle.character_grammar.proofs.text_reader.text_step.Goals as goal

pub returns-in_ok-next-in-Inside : goal.returns-in_ok-next-in-Inside
unfolding text_step
returns-in_ok-next-in-Inside c =
    let opened : Opened = opened_of c.in-Inside.opened in
    let items : Items = items_in NoItems c.in-Inside.items.items in
    let p : Placed = record { at = c.args.at; code = c.args.c } in
    rw c.in-Inside.is
    (stays (go_inside opened items c.in-Inside.plain (kind_of c.args.c) p) (opened_size opened + size_items items) (record { point = c.in_ok-next-in-Inside.next; more = 0 }) c.moved.result
    c.moved.ensures refl (c.in_ok-next-in-Inside.ensures ∙ ap (λ k. go_inside opened items c.in-Inside.plain k p) c.kind_of-kind.ensures)
    (inside-least opened items c.in-Inside.plain (kind_of c.args.c) p))

pub returns-in_ok-next-in-Behind : goal.returns-in_ok-next-in-Behind
unfolding text_step
returns-in_ok-next-in-Behind c =
    let opened : Opened = opened_of c.in-Behind.opened in
    let items : Items = items_in NoItems c.in-Behind.items.items in
    let p : Placed = record { at = c.args.at; code = c.args.c } in
    rw c.in-Behind.is
    (stays (after_symbol opened items (kind_of c.args.c) p) (opened_size opened + size_items items) (record { point = c.in_ok-next-in-Behind.next; more = 0 }) c.moved-in-Behind.result
    c.moved-in-Behind.ensures refl (c.in_ok-next-in-Behind.ensures ∙ ap (λ k. after_symbol opened items k p) c.kind_of-kind.ensures)
    (symbol-weight opened items (kind_of c.args.c) p))
