use Rattle.std.proofs.Common.{arith}
use Rattle.operand_checks.specs.Settings.{setting_of}
use Rattle.operand_checks.proofs.Turns.{operands_more, operands_end}
use Rattle.operand_checks.proofs.machine.push_operands.Goals as goal

pub loop-text-preserved : goal.loop-text-preserved
loop-text-preserved c =
    operands_more (setting_of c.args.setting.now) c.args.targets c.loop-text.places.now c.places_behind-places.result.now c.loop-text.kinds.now
    c.others_of-kinds.result.now c.args.texts.now c.loop-text.text-index c.text-item.result c.loop-text.rows.items c.push_next.new.rows.items _
    c.places_behind-places.ensures c.others_of-kinds.ensures c.loop-text.invariant c.in_ok-push_next.ensures (omega arith) c.text-item.is

pub returns : goal.returns
returns c =
    operands_end (setting_of c.args.setting.now) c.args.targets c.loop-text.places.now c.loop-text.kinds.now c.args.texts.now c.loop-text.text-index
    c.loop-text.rows.items _ (omega arith) c.loop-text.invariant
