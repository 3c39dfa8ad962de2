use Rattle.std.proofs.Common.{◌∙◌, map, ap}
use Rattle.std.proofs.lemmas.Result.{IfOk-weaker}
use Rattle.kept_values.specs.Keys.{key_tree}
use Rattle.kept_values.specs.Trees.{look_up}
use Rattle.asking_core.specs.Places.{pairs_of}
use Rattle.plain_expansion.specs.Questions.{Comes, led_by}
use Rattle.macro_library.specs.Contents.{content_of, written}
use Rattle.macro_library.specs.Members.{statements_in}
use Rattle.call_sites.specs.Values.{known_tree}
use Rattle.asked_definitions.specs.Asked.{definition_at, is_macro}
use Rattle.asked_definitions.proofs.DefiningLaws.{defined-led}
use Rattle.asked_definitions.proofs.KeptLaws.{kept-led}
use Rattle.asked_definitions.proofs.operation.at_macro.Goals as goal

pub returns-in_ok-definition-in-Some : goal.returns-in_ok-definition-in-Some
returns-in_ok-definition-in-Some c =
    ap (λ d. Comes (is_macro (content_of d))) c.in_ok-definition-in-Some.ensures.cases
    ∙ kept-led (look_up (pairs_of key_tree known_tree c.args.answers.now)) (statements_in c.args.member.now) c.args.start _ c.in-Some.ensures

pub returns-in_ok-asked_definition-in-None : goal.returns-in_ok-asked_definition-in-None
returns-in_ok-asked_definition-in-None c =
    let told = look_up (pairs_of key_tree known_tree c.args.answers.now) in
    let list = statements_in c.args.member.now in
    IfOk-weaker c.defined.result _ _
    (λ found is.
    is
    ∙ defined-led told (definition_at (map written list) c.args.start) c.in_ok-asked_definition-in-None.field-0
    (c.in_ok-asked_definition-in-None.ensures
    ∙ ap (λ l. led_by told (definition_at (map written l) c.args.start)) (c.list.ensures ∙ ap statements_in c.file.ensures)))
    c.defined.ensures
