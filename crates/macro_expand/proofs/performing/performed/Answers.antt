use Rattle.std.proofs.Common.{◌≡◌, Some, ap, ◌∙◌}
use Rattle.statement_listing.specs.Listings.{Element}
use Rattle.question_trees.specs.Bridge.{answers_in, led_as}
use Rattle.conditional_asm.specs.declared.act.Effect.{Effect}
use Rattle.conditional_asm.specs.Effects.{effect_of}
use Rattle.conditional_asm.proofs.ActLaws.{effect-gives}
use Rattle.statement_reading.specs.Views.{reading_of}
use Rattle.expansion_step.specs.Meaning.{performed_by}
use Rattle.expansion_step.proofs.Steps.{if_ok-map}
use Rattle.call_knowledge.specs.Standing as standing
use Rattle.macro_expand.specs.Codes.{led_to, means, placed_by, told_by}
use Rattle.macro_expand.specs.Language.{led_on_act}
use Rattle.macro_expand.proofs.GivenLaws.{shown-led}
use Rattle.macro_expand.proofs.performing.performed.Goals as goal

pub returns : goal.returns
returns c =
    let known = c.args.known.now in
    let told = told_by c.args.answers.now in
    let here = c.args.here.now in
    let o = effect_of (reading_of c.args.read.now) (standing.told_by known (answers_in told)) in
    let done = c.in_ok-effect.effect in
    if_ok-map c.acting.result (λ p. (e : Element) → performed_by means known p ≡ Some (led_to told (placed_by here e) known done.act done.notes))
    (λ p. (e : Element) → performed_by means known p ≡ Some (led_on_act told (placed_by here e) known (led_as (λ noted. noted) o)))
    (λ p is. λ e. is e ∙ ap Some (ap {A = Effect} (λ x. led_to told (placed_by here e) known x.act x.notes) c.in_ok-effect.ensures
    ∙ shown-led told (placed_by here e) known o (effect-gives (reading_of c.args.read.now) (standing.told_by known (answers_in told)))))
    c.acting.ensures
