use Rattle.std.proofs.Common.{◌∙◌, sym}
use Rattle.std.specs.Str.{chars}
use Rattle.statement_reading.proofs.BranchLaws.{says_pair}
use Rattle.statement_reading.proofs.branch.read_pair.Goals as goal

pub returns-then-begins_with : goal.returns-then-begins_with
returns-then-begins_with c = says_pair (chars c.args.operand.now) c.choice.result (sym c.begins_with.ensures ∙ c.if-begins_with.true) c.choice.ensures
