use Rattle.std.proofs.Common.{refl, ap, ◌∙◌, reverse}
use Rattle.asking_core.specs.Places.{pair_of}
use Rattle.plain_expansion.specs.Engine.{Doing, Performing, Standing, puts_then}
use Rattle.expansion_step.specs.Meaning.{meaning, pairs_by, stack_by}
use Rattle.expansion_step.specs.Places.{onward_by, counted_first}
use Rattle.expansion_step.proofs.Lists.{map-reversed}
use Rattle.expansion_step.proofs.expander.Expander.tell.Goals as goal

pub returns : goal.returns
returns g c = λ x.
    let L = g.X.CodedLanguage.language in
    let m = meaning g.X.CodedLanguage.reads g.X.CodedLanguage.call_of g.X.Call.Kept.code g.X.Key.Kept.code g.X.Value.Kept.code in
    record {
      action = refl;
      place =
          ap (λ y. Standing (Doing (Performing (counted_first m c.args.counts (puts_then y (onward_by m c.args.onward (stack_by m x)))))))
          (ap (λ l. reverse (pairs_by m l)) c.reverse.ensures.items ∙ map-reversed
          (pair_of g.X.Key.Kept.code g.X.Value.Kept.code) c.args.puts.items);
    }
