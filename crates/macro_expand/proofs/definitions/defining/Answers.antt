use Rattle.std.proofs.Common.{◌≡◌, ◌∙◌, Some, Ok, Err, sym, ap}
use Rattle.std.proofs.lemmas.Result.{IfOk-weaker}
use Rattle.hl_base.specs.declared.set.Key.TheVariants as key
use Rattle.kept_values.specs.Keys.{key_tree}
use Rattle.plain_expansion.specs.Questions.{Comes, done, led_by}
use Rattle.statement_listing.specs.Listings.{line_number}
use Rattle.macro_library.specs.Contents.{content_of}
use Rattle.asked_definitions.specs.Asked.{definition_at}
use Rattle.asked_definitions.specs.Led.{definition_led}
use Rattle.macro_expand.specs.Acts as acts
use Rattle.macro_expand.specs.Codes.{passage_by, told_by}
use Rattle.macro_expand.specs.Passages.{lines_of}
use Rattle.macro_expand.proofs.PassageLaws.{line_number-bare}
use Rattle.macro_expand.proofs.TreeLaws.{then-comes, then-wants}
use Rattle.macro_expand.proofs.definitions.defining.Goals as goal

pub returns-in_default : goal.returns-in_default
returns-in_default c = λ k.
    let told = told_by c.args.answers.now in
    let here = c.args.here.now in
    let passage = passage_by here.listing in
    c.going_on.ensures k
    ∙ ap (λ s. Some (Comes (acts.going_on k s))) c.in_ok-quiet.ensures
    ∙ ap (λ o. Some (led_by told (acts.defining passage k c.args.notes o))) (c.in_default.ensures ∙ sym (line_number-bare here.listing.listing here.position))

pub returns-in-Wants : goal.returns-in-Wants
returns-in-Wants c = λ k.
    let told = told_by c.args.answers.now in
    let here = c.args.here.now in
    let passage = passage_by here.listing in
    let start = c.in-Some.start in
    let some : Some start ≡ line_number (lines_of passage) here.position = c.in-Some.ensures ∙ sym (line_number-bare here.listing.listing here.position) in
    ap Some (sym (
    then-wants told (λ read. done (acts.defined (acts.behind passage start) k c.args.notes read)) (definition_at passage.list start)
    (key_tree (key.Member c.in-Wants.name)) (sym c.in_ok-name.ensures ∙ ap definition_led c.in-Wants.is)))
    ∙ ap (λ o. Some (led_by told (acts.defining passage k c.args.notes o))) some

pub returns-in-Read : goal.returns-in-Read
returns-in-Read c =
    let told = told_by c.args.answers.now in
    let here = c.args.here.now in
    let passage = passage_by here.listing in
    let start = c.in-Some.start in
    let content = content_of c.in-Read.definition in
    let some : Some start ≡ line_number (lines_of passage) here.position = c.in-Some.ensures ∙ sym (line_number-bare here.listing.listing here.position) in
    IfOk-weaker c.defined.result _ _
    (λ p is. λ k.
    is k
    ∙ ap (λ n. Some (Comes (acts.defined n k c.args.notes (Ok content)))) c.in_ok-next.ensures
    ∙ ap Some (sym (
    then-comes told (λ read. done (acts.defined (acts.behind passage start) k c.args.notes read)) (definition_at passage.list start) (Ok content)
    (sym c.in_ok-name.ensures ∙ ap definition_led c.in-Read.is)))
    ∙ ap (λ o. Some (led_by told (acts.defining passage k c.args.notes o))) some)
    c.defined.ensures

pub returns-in-Refused : goal.returns-in-Refused
returns-in-Refused c =
    let told = told_by c.args.answers.now in
    let here = c.args.here.now in
    let passage = passage_by here.listing in
    let start = c.in-Some.start in
    let some : Some start ≡ line_number (lines_of passage) here.position = c.in-Some.ensures ∙ sym (line_number-bare here.listing.listing here.position) in
    IfOk-weaker c.not_defined.result _ _
    (λ p is. λ k.
    is k
    ∙ ap (λ n. Some (Comes (acts.defined n k c.args.notes (Err c.in-Refused.fault)))) c.in_ok-next.ensures
    ∙ ap Some (sym (
    then-comes told (λ read. done (acts.defined (acts.behind passage start) k c.args.notes read)) (definition_at passage.list start) (Err c.in-Refused.fault)
    (sym c.in_ok-name.ensures ∙ ap definition_led c.in-Refused.is)))
    ∙ ap (λ o. Some (led_by told (acts.defining passage k c.args.notes o))) some)
    c.not_defined.ensures
