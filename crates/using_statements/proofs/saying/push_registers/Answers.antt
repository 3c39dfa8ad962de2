use Rattle.ordinary_symbols.specs.Shown.{table_of}
use Rattle.ordinary_symbols.specs.Table.{known}
use Rattle.using_statements.proofs.Turns.{registers_flag, registers_more}
use Rattle.using_statements.proofs.saying.push_registers.Goals as goal

pub loop-formula-preserved : goal.loop-formula-preserved
loop-formula-preserved c =
    let known_of = known (table_of c.args.symbols.now) in
    record {
      said = registers_more known_of c.args.here c.args.is_bad c.loop-formula.is_bad c.args.rows.now.items c.loop-formula.rows.items
          c.push_register.new.rows.items c.args.formulas.now c.loop-formula.formula-index c.formula-item.result
          c.loop-formula.invariant.said c.loop-formula.invariant.flag c.in_ok-is_bad.ensures.said c.loop-formula-test.true c.formula-item.is;
      flag = registers_flag known_of c.args.here c.args.is_bad c.loop-formula.is_bad c.in_ok-is_bad.is_bad
          c.args.formulas.now c.loop-formula.formula-index c.formula-item.result
          c.loop-formula.invariant.flag c.in_ok-is_bad.ensures.bad c.loop-formula-test.true c.formula-item.is;
    }
