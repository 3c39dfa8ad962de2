use Rattle.std.proofs.Common.{◌≡◌, ◌∙◌, Some, refl, sym, ap}
use Rattle.std.proofs.lemmas.Result.{IfOk-weaker}
use Rattle.std.specs.List.{slice_get}
use Rattle.std.specs.Option.{option_map}
use Rattle.hlasm_statements.specs.declared.statement.Statement.{Statement}
use Rattle.question_trees.specs.Bridge.{answers_in, led_as}
use Rattle.plain_expansion.specs.Questions.{led_by}
use Rattle.conditional_asm.specs.Effects.{effect_of}
use Rattle.statement_reading.specs.Readings.{Reading}
use Rattle.statement_reading.specs.Views.{reading_of}
use Rattle.statement_listing.specs.Listings.{Lent, elements, lent}
use Rattle.statement_listing.proofs.ListingLaws.{lent-past, lent-there}
use Rattle.expansion_step.specs.Meaning.{performed_by}
use Rattle.call_knowledge.specs.Standing as standing
use Rattle.macro_expand.specs.Codes.{means, passage_by, placed_by, told_by}
use Rattle.macro_expand.specs.Language.{effect_tree, led_on_act}
use Rattle.macro_expand.specs.Passages.{Placed}
use Rattle.macro_expand.proofs.EffectLaws.{effects_lead}
use Rattle.macro_expand.proofs.PassageLaws.{element-led, elements-bare, label-there, none-placed, operands-there, placed_at, statement-at}
use Rattle.macro_expand.proofs.language.HlasmLanguageCodedLanguage.perform.Goals as goal

pub returns-in_default : goal.returns-in_default
returns-in_default c =
    let here = c.args.here.now in
    let known = c.args.known.now in
    let told = told_by c.args.answers.now in
    let list = here.listing.listing in
    ap (option_map (λ (s : Placed). led_by told (effect_tree s known)))
    (sym (none-placed (passage_by here.listing) list here.position (lent-past list here.position (sym c.in_default.ensures)) refl))

pub returns-in_default-reading : goal.returns-in_default-reading
returns-in_default-reading c =
    let here = c.args.here.now in
    let known = c.args.known.now in
    let told = told_by c.args.answers.now in
    let list = here.listing.listing in
    let line = c.in-Some.line.now in
    let none = lent-there list here.position line (sym c.in-Some.ensures)
    ∙ ap (option_map (λ (r : Reading). let l : Lent = record { origin = line.origin; reading = r } in l)) (sym c.in_default-reading.ensures) in
    ap (option_map (λ (s : Placed). led_by told (effect_tree s known))) (sym (none-placed (passage_by here.listing) list here.position none refl))

pub performed-requires-clause-label : goal.performed-requires-clause-label
performed-requires-clause-label c =
    let here = c.args.here.now in
    label-there here.listing.listing here.position c.in-Some.line.now (sym c.in-Some.ensures) ∙ sym (ap (λ (s : Statement). s.label) c.statement.ensures)

pub performed-requires-clause-operands : goal.performed-requires-clause-operands
performed-requires-clause-operands c =
    let here = c.args.here.now in
    operands-there here.listing.listing here.position c.in-Some.line.now (sym c.in-Some.ensures) ∙ sym (ap (λ (s : Statement). s.operands) c.statement.ensures)

pub returns : goal.returns
returns c =
    let here = c.args.here.now in
    let known = c.args.known.now in
    let told = told_by c.args.answers.now in
    let list = here.listing.listing in
    let line = c.in-Some.line.now in
    let reading = reading_of c.in-Some-reading.reading.now in
    let passage = passage_by here.listing in
    let goes = λ (s : Placed). led_by told (effect_tree s known) in
    let there = lent-there list here.position line (sym c.in-Some.ensures)
    ∙ ap (option_map (λ (r : Reading). let l : Lent = record { origin = line.origin; reading = r } in l)) (sym c.in-Some-reading.ensures) in
    IfOk-weaker c.performed.result _ _
    (λ p is.
    element-led passage here.position goes (slice_get (elements list) here.position) line.origin reading (performed_by means known p) there
    (λ e same.
    is e
    ∙ ap (λ r. Some (led_on_act told (placed_by here e) known (led_as (λ noted. noted) (effect_of r (standing.told_by known (answers_in told)))))) (sym same)
    ∙ ap Some (sym (effects_lead (placed_by here e) known told)))
    ∙ ap (λ es. option_map goes (option_map (placed_at passage here.position) (slice_get es here.position))) (sym (elements-bare list))
    ∙ ap (option_map goes) (sym (statement-at passage here.position)))
    c.performed.ensures
