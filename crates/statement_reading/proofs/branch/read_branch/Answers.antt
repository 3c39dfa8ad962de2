use Rattle.std.specs.Str.{chars}
use Rattle.statement_reading.proofs.BranchLaws.{says_goto}
use Rattle.statement_reading.proofs.branch.read_branch.Goals as goal

pub returns : goal.returns
returns c = says_goto (chars c.args.field.now) c.ago.result c.ago.ensures
