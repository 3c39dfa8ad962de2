use Rattle.std.proofs.Common.{sym, ap, ◌∙◌, reverse}
use Rattle.asking_core.specs.Places.{pair_of}
use Rattle.plain_expansion.specs.Engine as engine
use Rattle.plain_expansion.specs.Engine.{Doing, Telling, Standing, Adding, Entering, puts_then, roomy_step, next_place}
use Rattle.expansion_step.specs.Meaning.{meaning, call_by, pairs_by, stack_by, entry_by}
use Rattle.expansion_step.proofs.Lists.{map-reversed}
use Rattle.expansion_step.proofs.expander.Expander.enter.Goals as goal

pub returns-in-Calling : goal.returns-in-Calling
returns-in-Calling g c =
    let L = g.X.CodedLanguage.language in
    let m = meaning g.X.CodedLanguage.reads g.X.CodedLanguage.call_of g.X.Call.Kept.code g.X.Key.Kept.code g.X.Value.Kept.code in
    let x = stack_by m c.args.stack.now in
    let item = g.X.CodedLanguage.reads.item c.args.item.value in
    record {
      action = sym (ap (λ y. engine.move_of L (Doing (roomy_step item (entry_by m y) x))) c.in-Calling.is);
      place =
          ap (λ y. Standing (Doing (Telling item (Adding (puts_then y (Entering (call_by m c.in-Calling.call) x))))))
          (ap (λ l. reverse (pairs_by m l)) c.reverse.ensures.items ∙ map-reversed
          (pair_of g.X.Key.Kept.code g.X.Value.Kept.code) c.in-Calling.puts.items)
          ∙ sym (ap (λ y. next_place L (Doing (roomy_step item (entry_by m y) x))) c.in-Calling.is);
    }
