use Rattle.asking_core.proofs.MergeLaws.{look_up-merged}
use Rattle.asking_core.proofs.laws.merged_footprints_say_both.Goals as goal

pub returns : goal.returns
returns c = look_up-merged
