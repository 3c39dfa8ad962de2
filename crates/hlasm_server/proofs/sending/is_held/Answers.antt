use Rattle.std.proofs.Common.{◌≡◌, true, false, nat_lt, arith}
use Rattle.std.proofs.lemmas.Bool.Decides.{nat_tests}
use Rattle.hlasm_server.specs.Waiting.{most_held}
use Rattle.hlasm_server.proofs.WaitingLaws.{asks_nothing, asks_once}
use Rattle.hlasm_server.proofs.sending.is_held.Goals as goal

pub returns-then-since-lt-MOST_HELD-clause-asks : goal.returns-then-since-lt-MOST_HELD-clause-asks
returns-then-since-lt-MOST_HELD-clause-asks g c =
    let few : nat_lt c.args.since most_held ≡ true = grind (arith, nat_tests) in
    asks_once c.args.since c.waiting.result _ _ few c.waiting.ensures.answer c.waiting.ensures.rest

pub returns-else-since-lt-MOST_HELD-clause-asks : goal.returns-else-since-lt-MOST_HELD-clause-asks
returns-else-since-lt-MOST_HELD-clause-asks g c =
    let many : nat_lt c.args.since most_held ≡ false = grind (arith, nat_tests) in
    asks_nothing c.args.since _ many
