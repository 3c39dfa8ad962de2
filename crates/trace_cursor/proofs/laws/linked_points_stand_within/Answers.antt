use Rattle.trace_cursor.proofs.StackLemmas.{linked_stacks}
use Rattle.trace_cursor.proofs.laws.linked_points_stand_within.Goals as goal

pub returns : goal.returns
returns c old new parent child links = linked_stacks old new parent child links
