use Rattle.std.proofs.Common.{sym}
use Rattle.member_paths.proofs.PathLaws.{before_period-cut, before_period-uncut}
use Rattle.member_paths.proofs.name.before_period.Goals as goal

pub returns-in-Some : goal.returns-in-Some
returns-in-Some c = sym (before_period-cut c.args.text.now c.utf8.text _ _ c.in-Some.ensures.cases)

pub returns-in-None : goal.returns-in-None
returns-in-None c = sym (before_period-uncut c.args.text.now c.utf8.text c.in-None.ensures.cases)
