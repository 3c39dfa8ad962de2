use Rattle.std.proofs.Common.{rules, sym}
use Rattle.waiting_requests.proofs.WaitLaws.{without_none}
use Rattle.waiting_requests.proofs.waiting.Waiting.cancel.Goals as goal

pub returns-then-not-waits-clause-ok : goal.returns-then-not-waits-clause-ok
returns-then-not-waits-clause-ok c = sym (without_none c.args.self.now c.args.id (search rules))
