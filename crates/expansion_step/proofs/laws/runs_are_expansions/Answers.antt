use Rattle.plain_expansion.proofs.Theorem.{careful_runs_are_expansions}
use Rattle.expansion_step.specs.Watch.{most_actions}
use Rattle.expansion_step.proofs.laws.runs_are_expansions.Goals as goal

pub returns : goal.returns
returns g c =
    let X = g.X.CodedLanguage in
    careful_runs_are_expansions X.language g.W.World.model most_actions X.moving X.writable
