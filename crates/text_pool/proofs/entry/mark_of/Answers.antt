use Rattle.std.proofs.Common.{rules}
use Rattle.text_pool.specs.Marks.{mark_of}
use Rattle.text_pool.proofs.entry.mark_of.Goals as goal

pub returns : goal.returns
unfolding mark_of
returns c = search rules
