use Rattle.hl_base.proofs.QuotingLaws.{behind-one}
use Rattle.hl_base.proofs.quoting.Nesting.read.Goals as goal

pub returns : goal.returns
returns c = λ before is. behind-one c.args.self.now c.behind-self.result c.in_ok-self.field-0 c.args.c before c.behind-self.ensures c.in_ok-self.ensures is
