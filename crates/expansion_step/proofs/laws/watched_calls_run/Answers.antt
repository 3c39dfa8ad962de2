use Rattle.plain_expansion.proofs.Watching.{watched_runs_keep_to_it}
use Rattle.expansion_step.specs.Watch.{most_actions}
use Rattle.expansion_step.proofs.laws.watched_calls_run.Goals as goal

pub returns : goal.returns
returns g c = λ call s fuel depth run plain keeps.
    let X = g.X.CodedLanguage in
    record {
      follows = (watched_runs_keep_to_it X.language most_actions X.moving X.writable call run).1 (plain.follows, keeps);
      agrees = plain.agrees;
      within = plain.within;
    }
