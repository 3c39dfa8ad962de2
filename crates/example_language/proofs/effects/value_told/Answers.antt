use Rattle.example_language.proofs.LineLaws.{told-here, told-on, told-none}
use Rattle.example_language.proofs.effects.value_told.Goals as goal

pub returns-in-Value : goal.returns-in-Value
returns-in-Value c = told-here c.args.answers.now c.loop-noted.noted-index _ c.loop-noted-test.true c.in-Value.is c.loop-noted.invariant

pub loop-noted-preserved : goal.loop-noted-preserved
loop-noted-preserved c = told-on c.args.answers.now c.loop-noted.noted-index _ c.loop-noted-test.true c.in_default.is c.loop-noted.invariant

pub returns : goal.returns
returns c = told-none c.args.answers.now c.loop-noted.noted-index c.loop-noted-test.false c.loop-noted.invariant
