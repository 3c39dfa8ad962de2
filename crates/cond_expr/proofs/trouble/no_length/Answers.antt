use Rattle.std.specs.Str.{chars}
use Rattle.cond_expr.proofs.trouble.no_length.Goals as goal

pub returns : goal.returns
unfolding chars
returns c = c.note.ensures
