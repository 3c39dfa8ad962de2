use Rattle.trace_cursor.proofs.TracedLemmas.{points_plain}
use Rattle.trace_cursor.proofs.laws.traced_points_are_the_points.Goals as goal

pub returns : goal.returns
returns c nodes x = points_plain nodes x
