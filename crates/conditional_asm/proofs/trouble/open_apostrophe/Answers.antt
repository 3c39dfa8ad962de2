use Rattle.std.specs.Str.{chars}
use Rattle.conditional_asm.proofs.trouble.open_apostrophe.Goals as goal

pub returns : goal.returns
unfolding chars
returns c = c.note.ensures
