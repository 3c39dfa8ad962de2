use Rattle.std.proofs.Common.{Some, ◌∙◌, ap, sym}
use Rattle.std.specs.Option.{option_map}
use Rattle.variable_meanings.specs.Meanings.{sets, set_meaning}
use Rattle.variable_meanings.proofs.FindLaws.{find-on, find-here}
use Rattle.variable_meanings.proofs.place.by_setting.Goals as goal

pub returns-then-is_same : goal.returns-then-is_same
returns-then-is_same c =
    ap Some c.set_meaning.ensures
    ∙ ap (option_map (set_meaning c.args.own))
    (find-here (sets c.args.name.now) c.args.settings.now c.loop-setting.setting-index c.setting-item.result c.loop-setting-test.true c.setting-item.is
    (sym c.is_same.ensures ∙ c.if-is_same.true) c.loop-setting.invariant)

pub loop-setting-preserved : goal.loop-setting-preserved
loop-setting-preserved c =
    find-on (sets c.args.name.now) c.args.settings.now c.loop-setting.setting-index c.setting-item.result c.loop-setting-test.true c.setting-item.is
    (sym c.is_same.ensures ∙ c.if-is_same.false) c.loop-setting.invariant
