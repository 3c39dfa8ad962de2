use Rattle.std.proofs.Common.{sym, ap}
use Rattle.plain_expansion.specs.Engine.{Doing, step_by}
use Rattle.expansion_step.specs.declared.act.Act.TheVariants as does
use Rattle.expansion_step.specs.Meaning.{meaning, stack_by, effect_by}
use Rattle.expansion_step.specs.Takes.{Takes}
use Rattle.expansion_step.proofs.Steps.{if_ok-map, takes-at}
use Rattle.expansion_step.proofs.expander.Expander.carry.Goals as goal

pub returns-in-Continues : goal.returns-in-Continues
returns-in-Continues g c =
    let L = g.X.CodedLanguage.language in
    let m = meaning g.X.CodedLanguage.reads g.X.CodedLanguage.call_of g.X.Call.Kept.code g.X.Key.Kept.code g.X.Value.Kept.code in
    let x = stack_by m c.args.stack.now in
    let said = c.args.said in
    if_ok-map c.continue_on.result (Takes m (Doing (step_by L (effect_by m x.known said (does.Continues c.in-Continues.change c.in-Continues.puts)) x)) c.continue_on.new.stack)
    (Takes m (Doing (step_by L (effect_by m x.known said c.args.act) x)) c.continue_on.new.stack)
    (λ t. takes-at m (Doing (step_by L (effect_by m x.known said (does.Continues c.in-Continues.change c.in-Continues.puts)) x)) (Doing (step_by L (effect_by m x.known said c.args.act) x)) c.continue_on.new.stack t
    (ap (λ a. Doing (step_by L (effect_by m x.known said a) x)) (sym c.in-Continues.is))) c.continue_on.ensures

pub returns-in-Skips : goal.returns-in-Skips
returns-in-Skips g c =
    let L = g.X.CodedLanguage.language in
    let m = meaning g.X.CodedLanguage.reads g.X.CodedLanguage.call_of g.X.Call.Kept.code g.X.Key.Kept.code g.X.Value.Kept.code in
    let x = stack_by m c.args.stack.now in
    let said = c.args.said in
    if_ok-map c.skip_to.result (Takes m (Doing (step_by L (effect_by m x.known said (does.Skips c.in-Skips.position c.in-Skips.change c.in-Skips.puts)) x)) c.skip_to.new.stack)
    (Takes m (Doing (step_by L (effect_by m x.known said c.args.act) x)) c.skip_to.new.stack)
    (λ t. takes-at m (Doing (step_by L (effect_by m x.known said (does.Skips c.in-Skips.position c.in-Skips.change c.in-Skips.puts)) x)) (Doing (step_by L (effect_by m x.known said c.args.act) x)) c.skip_to.new.stack t
    (ap (λ a. Doing (step_by L (effect_by m x.known said a) x)) (sym c.in-Skips.is))) c.skip_to.ensures

pub returns-in-Enters : goal.returns-in-Enters
returns-in-Enters g c =
    let L = g.X.CodedLanguage.language in
    let m = meaning g.X.CodedLanguage.reads g.X.CodedLanguage.call_of g.X.Call.Kept.code g.X.Key.Kept.code g.X.Value.Kept.code in
    let x = stack_by m c.args.stack.now in
    let said = c.args.said in
    if_ok-map c.try_frame.result (Takes m (Doing (step_by L (effect_by m x.known said (does.Enters c.in-Enters.limited c.in-Enters.entry)) x)) c.try_frame.new.stack)
    (Takes m (Doing (step_by L (effect_by m x.known said c.args.act) x)) c.try_frame.new.stack)
    (λ t. takes-at m (Doing (step_by L (effect_by m x.known said (does.Enters c.in-Enters.limited c.in-Enters.entry)) x)) (Doing (step_by L (effect_by m x.known said c.args.act) x)) c.try_frame.new.stack t
    (ap (λ a. Doing (step_by L (effect_by m x.known said a) x)) (sym c.in-Enters.is))) c.try_frame.ensures

pub returns-in-Returns : goal.returns-in-Returns
returns-in-Returns g c =
    let L = g.X.CodedLanguage.language in
    let m = meaning g.X.CodedLanguage.reads g.X.CodedLanguage.call_of g.X.Call.Kept.code g.X.Key.Kept.code g.X.Value.Kept.code in
    let x = stack_by m c.args.stack.now in
    let said = c.args.said in
    if_ok-map c.return_from.result (Takes m (Doing (step_by L (effect_by m x.known said does.Returns) x)) c.return_from.new.stack)
    (Takes m (Doing (step_by L (effect_by m x.known said c.args.act) x)) c.return_from.new.stack)
    (λ t. takes-at m (Doing (step_by L (effect_by m x.known said does.Returns) x)) (Doing (step_by L (effect_by m x.known said c.args.act) x)) c.return_from.new.stack t
    (ap (λ a. Doing (step_by L (effect_by m x.known said a) x)) (sym c.in-Returns.is))) c.return_from.ensures

pub returns-in-Finishes : goal.returns-in-Finishes
returns-in-Finishes g c =
    let L = g.X.CodedLanguage.language in
    let m = meaning g.X.CodedLanguage.reads g.X.CodedLanguage.call_of g.X.Call.Kept.code g.X.Key.Kept.code g.X.Value.Kept.code in
    let x = stack_by m c.args.stack.now in
    let said = c.args.said in
    if_ok-map c.finish.result (Takes m (Doing (step_by L (effect_by m x.known said does.Finishes) x)) c.finish.new.stack)
    (Takes m (Doing (step_by L (effect_by m x.known said c.args.act) x)) c.finish.new.stack)
    (λ t. takes-at m (Doing (step_by L (effect_by m x.known said does.Finishes) x)) (Doing (step_by L (effect_by m x.known said c.args.act) x)) c.finish.new.stack t
    (ap (λ a. Doing (step_by L (effect_by m x.known said a) x)) (sym c.in-Finishes.is))) c.finish.ensures
