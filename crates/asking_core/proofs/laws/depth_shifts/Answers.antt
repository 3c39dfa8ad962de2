use Rattle.asking_core.proofs.Shifts.{depth_shift}
use Rattle.asking_core.proofs.laws.depth_shifts.Goals as goal

pub returns : goal.returns
returns g c = λ t f more d e o w p k m h. depth_shift t f more d e o w p k m h
