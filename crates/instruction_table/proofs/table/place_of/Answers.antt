use Rattle.std.proofs.Common.{ap}
use Rattle.instruction_table.specs.Places.{place_of, place_by}
use Rattle.instruction_table.proofs.table.place_of.Goals as goal

pub returns : goal.returns
unfolding place_of
returns c = ap place_by c.from_be_bytes-number.ensures
