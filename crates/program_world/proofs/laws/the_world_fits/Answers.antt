use Rattle.program_world.proofs.WorldLaws.{program_world_fits}
use Rattle.program_world.proofs.laws.the_world_fits.Goals as goal

pub returns : goal.returns
returns c = program_world_fits
