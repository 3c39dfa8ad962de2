use Rattle.std.proofs.Common.{◌∙◌, Some, sym, ap}
use Rattle.std.proofs.lemmas.Result.{IfOk-weaker}
use Rattle.plain_expansion.specs.Questions.{and_then, led_by}
use Rattle.asked_definitions.specs.Asked.{sought}
use Rattle.macro_expand.specs.Acts.{called_by}
use Rattle.macro_expand.specs.Codes.{led_to, passage_by, placed_by, told_by}
use Rattle.macro_expand.specs.Passages.{label_at}
use Rattle.macro_expand.proofs.performing.acting.Goals as goal

pub returns-in-Call : goal.returns-in-Call
returns-in-Call c =
    let told = told_by c.args.answers.now in
    let here = c.args.here.now in
    let s = c.args.statement.now in
    let known = c.args.known.now in
    let name = c.in-Call.name in
    let label = label_at (passage_by here.listing) here.position in
    IfOk-weaker c.calling.result _ _
    (λ p is. λ e.
    is
    ∙ ap (λ l. Some (led_by told (and_then (sought name) (called_by l s.operands known name c.args.notes)))) (sym c.requires.label)
    ∙ ap (λ os. Some (led_by told (and_then (sought name) (called_by label os known name c.args.notes)))) (sym c.requires.operands)
    ∙ ap (λ a. Some (led_to told (placed_by here e) known a c.args.notes)) (sym c.in-Call.is))
    c.calling.ensures
