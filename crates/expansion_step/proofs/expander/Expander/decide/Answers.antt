use Rattle.std.proofs.Common.{◌≡◌, sym, ap, ◌∙◌, Some}
use Rattle.std.specs.Prelude.{option_map}
use Rattle.kept_values.specs.Trees.{look_up}
use Rattle.plain_expansion.specs.Questions.{Comes, led_by}
use Rattle.plain_expansion.specs.Expansion.{statement_at}
use Rattle.plain_expansion.specs.Engine.{Doing, step_by}
use Rattle.expansion_step.specs.Meaning.{meaning, pairs_by, stack_by, effect_by, performed_by}
use Rattle.expansion_step.specs.Places.{deciding}
use Rattle.expansion_step.specs.Takes.{Takes}
use Rattle.expansion_step.proofs.Steps.{decides-does, if_ok-map}
use Rattle.expansion_step.proofs.expander.Expander.decide.Goals as goal

pub returns-in-Ok-Does : goal.returns-in-Ok-Does
returns-in-Ok-Does g c =
    let L = g.X.CodedLanguage.language in
    let m = meaning g.X.CodedLanguage.reads g.X.CodedLanguage.call_of g.X.Call.Kept.code g.X.Key.Kept.code g.X.Value.Kept.code in
    let x = stack_by m c.args.stack.now in
    let effect = effect_by m x.known c.in-Ok-Does.said c.in-Ok-Does.act in
    let o = statement_at L x.here in
    let pairs = pairs_by m c.args.answers.items in
    let is : Some (Comes effect) ≡ option_map (λ s. led_by (look_up pairs) (L.effect_of s x.known)) o =
    sym (ap (performed_by m x.known) c.in-Ok-Does.field-0-is) ∙ c.in-Ok-Does.ensures
    ∙ ap (λ l. option_map (λ s. led_by (look_up (pairs_by m l)) (L.effect_of s x.known)) o) c.as_slice.ensures.value in
    if_ok-map c.carry.result (Takes m (Doing (step_by L effect x)) c.carry.new.stack) (Takes m (deciding m o x pairs) c.carry.new.stack)
    (λ t. decides-does m o x pairs effect c.carry.new.stack t is) c.carry.ensures
