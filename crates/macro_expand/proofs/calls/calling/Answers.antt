use Rattle.std.proofs.Common.{◌∙◌, Some, sym, ap}
use Rattle.std.proofs.lemmas.Result.{IfOk-weaker}
use Rattle.kept_values.specs.Keys.{key_tree}
use Rattle.asked_definitions.specs.Asked.{sought}
use Rattle.asked_definitions.specs.Led.{operation_led, sought_by}
use Rattle.macro_expand.specs.Acts as acts
use Rattle.macro_expand.specs.Codes.{told_by}
use Rattle.macro_expand.proofs.TreeLaws.{then-comes, then-wants}
use Rattle.macro_expand.proofs.calls.calling.Goals as goal

pub returns-in-Wants : goal.returns-in-Wants
returns-in-Wants c =
    let s = c.args.statement.now in
    let next = acts.called_by s.label s.operands c.args.known.now c.args.name.now c.args.notes in
    ap Some (sym (
    then-wants (told_by c.args.answers.now) next (sought c.args.name.now) (key_tree c.in-Wants.key)
    (sym c.in_ok-key.ensures ∙ ap operation_led c.in-Wants.is)))

pub returns-in-Found : goal.returns-in-Found
returns-in-Found c =
    let s = c.args.statement.now in
    let next = acts.called_by s.label s.operands c.args.known.now c.args.name.now c.args.notes in
    IfOk-weaker c.called_by.result _ _
    (λ p is.
    is
    ∙ ap Some (sym (
    then-comes (told_by c.args.answers.now) next (sought c.args.name.now) (sought_by c.in-Found.found)
    (sym c.in_ok-key.ensures ∙ ap operation_led c.in-Found.is))))
    c.called_by.ensures
