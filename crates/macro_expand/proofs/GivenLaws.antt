-- What is shown of an effect tells how far it is led.
use Rattle.std.proofs.Common.{◌≡◌, List, Option, refl}
use Rattle.kept_values.specs.Trees.{Tree as Coded}
use Rattle.plain_expansion.specs.Questions.{led_by}
use Rattle.question_trees.specs.Bridge.{led_as}
use Rattle.hl_base.specs.declared.note.Note.{Note}
use Rattle.cond_expr.specs.Outcome.{Outcome, Gives, Asks}
use Rattle.conditional_asm.specs.declared.act.Act.{Act}
use Rattle.conditional_asm.specs.declared.act.Act.TheVariants as act
use Rattle.conditional_asm.specs.Effects as effects
use Rattle.conditional_asm.specs.Repeating.{once}
use Rattle.conditional_asm.proofs.ActLaws.{IsAct, GivesAct}
use Rattle.call_knowledge.specs.Knowledge.{Knowledge}
use Rattle.macro_expand.specs.Acts.{acted}
use Rattle.macro_expand.specs.Language.{led_on_act}
use Rattle.macro_expand.specs.Passages.{Placed}
use Rattle.macro_expand.specs.Codes.{led_to}

module _ (told : Coded → Option Coded) (s : Placed) (known : Knowledge) where
  act-led : (done : Act) (notes : List Note) → IsAct done → led_to told s known done notes ≡ led_by told (acted s known done notes)
  act-led (act.Ask key) notes is = absurd is
  act-led act.Next notes is = refl
  act-led (act.Branch label) notes is = refl
  act-led (act.Actr count) notes is = refl
  act-led (act.Set name element v) notes is = refl
  act-led (act.Declare list) notes is = refl
  act-led act.Define notes is = refl
  act-led (act.Call name) notes is = refl
  act-led (act.Copy member) notes is = refl
  act-led (act.Generate line) notes is = refl
  act-led (act.Leave name) notes is = refl
  act-led (act.End line) notes is = refl

  pub shown-led : (o : Outcome Act) → GivesAct o →
      led_to told s known (effects.shown o).act (effects.shown o).notes ≡ led_on_act told s known (led_as (λ noted. noted) o)
  shown-led (Gives done notes) is = act-led done (once notes) is
  shown-led (Asks key) is = refl
