use Rattle.std.proofs.Common.{◌≡◌, ◌∙◌, Some, sym, ap}
use Rattle.hl_base.specs.declared.set.Key.TheVariants as key
use Rattle.kept_values.specs.Keys.{key_tree}
use Rattle.kept_values.specs.Trees.{look_up}
use Rattle.macro_library.proofs.TreeLaws.{content_back, content_of_tree}
use Rattle.asking_core.specs.Places.{pairs_of}
use Rattle.plain_expansion.specs.Questions.{Comes, led_by, led_on}
use Rattle.macro_library.specs.Contents.{Content, content_of}
use Rattle.call_sites.specs.Values.{definition_known, known_tree}
use Rattle.asked_definitions.specs.Asked.{is_macro, sought_by}
use Rattle.asked_definitions.proofs.operation.asked_operation.Goals as goal

pub returns-in_ok-definition-in-Macro : goal.returns-in_ok-definition-in-Macro
returns-in_ok-definition-in-Macro c =
    let told = look_up (pairs_of key_tree known_tree c.args.answers.now) in
    let name = c.args.name.now in
    let content = c.in-Macro.known in
    let same : content_of c.in_ok-definition-in-Macro.definition.definition.value ≡ content =
    content_of_tree _ _ c.in_ok-definition-in-Macro.ensures ∙ c.definition.ensures in
    let some : Some (definition_known content) ≡ told (key_tree (key.Op name)) =
    ap (λ k. Some (known_tree k)) (sym c.in-Macro.is) ∙ c.in-Some.ensures ∙ ap (λ n. told (key_tree (key.Op n))) c.copy.ensures in
    ap (λ (x : Content). Comes (is_macro x)) (same ∙ sym (content_back content))
    ∙ ap (λ o. led_on (key_tree (key.Op name)) (λ value. led_by told (sought_by name value)) o) some
