use Rattle.std.proofs.Common.{◌∙◌, Some, sym, ap}
use Rattle.std.proofs.lemmas.Result.{IfOk-weaker}
use Rattle.macro_library.specs.Contents.{content_of}
use Rattle.macro_expand.specs.Codes.{told_by}
use Rattle.macro_expand.proofs.CallLaws.{calling-led, entries, shown-made, shown-unreadable, shown-wants}
use Rattle.macro_expand.proofs.calls.entering.Goals as goal

pub returns-in-Wants : goal.returns-in-Wants
returns-in-Wants c =
    let told = told_by c.args.answers.now in
    let known = c.args.known.now in
    let s = c.args.statement.now in
    let content = content_of c.args.definition.definition.value in
    let notes = c.args.notes in
    ap Some (sym (
    calling-led told known s.label s.operands notes content
    ∙ shown-wants told content notes (entries told known s.label s.operands notes content) c.in-Wants.key (sym c.in-Wants.is ∙ c.in_ok-key.ensures)))

pub returns-in-Made : goal.returns-in-Made
returns-in-Made c =
    let told = told_by c.args.answers.now in
    let known = c.args.known.now in
    let s = c.args.statement.now in
    let content = content_of c.args.definition.definition.value in
    let notes = c.args.notes in
    IfOk-weaker c.labelling.result _ _
    (λ p is.
    is known
    ∙ ap Some (sym (
    calling-led told known s.label s.operands notes content
    ∙ shown-made told content notes (entries told known s.label s.operands notes content) c.in-Made.values c.in-Made.more
    (sym c.in-Made.is ∙ c.in_ok-key.ensures))))
    c.labelling.ensures

pub returns-in-Unreadable : goal.returns-in-Unreadable
returns-in-Unreadable c =
    let told = told_by c.args.answers.now in
    let known = c.args.known.now in
    let s = c.args.statement.now in
    let content = content_of c.args.definition.definition.value in
    let notes = c.args.notes in
    IfOk-weaker c.not_entered.result _ _
    (λ p is.
    is known
    ∙ ap Some (sym (
    calling-led told known s.label s.operands notes content
    ∙ shown-unreadable told content notes (entries told known s.label s.operands notes content) c.in-Unreadable.more
    (sym c.in-Unreadable.is ∙ c.in_ok-key.ensures))))
    c.not_entered.ensures
