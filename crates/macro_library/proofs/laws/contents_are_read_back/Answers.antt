use Rattle.macro_library.proofs.TreeLaws.{content_back}
use Rattle.macro_library.proofs.laws.contents_are_read_back.Goals as goal

pub returns : goal.returns
returns c = content_back
