use Rattle.std.specs.Str.{chars}
use Rattle.cond_expr.proofs.trouble.outside.Goals as goal

pub returns : goal.returns
unfolding chars
returns c = c.note.ensures
