use Rattle.asking_core.proofs.Shifts.{fuel_shift}
use Rattle.asking_core.proofs.laws.fuel_shifts.Goals as goal

pub returns : goal.returns
returns g c = λ t f more d o w p k. fuel_shift t f more d o w p k
