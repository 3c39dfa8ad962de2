use Rattle.std.proofs.Common.{refl}
use Rattle.running_calls.proofs.DoneLaws.{follows-on, means-as_told}
use Rattle.running_calls.proofs.laws.calls_follow_the_points.Goals as goal

pub returns-clause-begin : goal.returns-clause-begin
returns-clause-begin c = λ level. refl

pub returns-clause-go_on : goal.returns-clause-go_on
returns-clause-go_on c = follows-on

pub returns-clause-meaning : goal.returns-clause-meaning
returns-clause-meaning c = means-as_told
