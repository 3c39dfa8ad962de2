use Rattle.asking_core.proofs.Parity.{parity_fits_else, law_is_broken}
use Rattle.asking_core.proofs.example.an_unfit_world_breaks_the_law.Goals as goal

pub returns : goal.returns
returns c = record { else_fit = parity_fits_else; broken = law_is_broken }
