-- The tree of a statement leads as far as its effect, and from there as far as its act.
use Rattle.std.proofs.Common.{◌≡◌, ◌∙◌, refl, ap}
use Rattle.kept_values.specs.Trees.{Tree}
use Rattle.plain_expansion.specs.Language.{Effect}
use Rattle.plain_expansion.specs.Questions.{Comes, Wants, Led, led_by}
use Rattle.question_trees.specs.Bridge.{over_trees}
use Rattle.question_trees.proofs.Following.{leads_as_far}
use Rattle.cond_expr.specs.Asking.{Noted}
use Rattle.conditional_asm.specs.declared.act.Act.{Act}
use Rattle.conditional_asm.specs.Effects.{effect_of}
use Rattle.conditional_asm.proofs.AskingActs.{effect-asks}
use Rattle.call_knowledge.specs.Standing.{frame, told_by}
use Rattle.macro_expand.specs.Acts.{words}
use Rattle.macro_expand.specs.Language.{made, effect_tree, led_on_act, EffectsAreThoseOfStatements}
use Rattle.macro_expand.specs.Passages.{Placed}
use Rattle.call_knowledge.specs.Knowledge.{Knowledge}
use Rattle.std.proofs.Common.{Option}
use Rattle.macro_expand.proofs.TreeLaws.{led_and_then, led_then}

led_as_act : (told : Tree → Option Tree) (s : Placed) (known : Knowledge) (led : Led Tree (Noted Act)) →
    led_then told (made s known) led ≡ led_on_act told s known led
led_as_act told s known (Comes noted) = refl
led_as_act told s known (Wants key) = refl

pub effects_lead : EffectsAreThoseOfStatements
effects_lead s known told =
    let tree = over_trees (λ (noted : Noted Act). noted) (effect-asks (frame known) s.element.reading).tree in
    led_and_then told (made s known) tree
    ∙ led_as_act told s known (led_by told tree)
    ∙ ap (led_on_act told s known)
    (leads_as_far Act (Noted Act) (λ answers. effect_of s.element.reading (told_by known answers)) (effect-asks (frame known) s.element.reading)
    (λ noted. noted) told)
