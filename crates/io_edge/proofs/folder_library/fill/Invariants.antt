-- no more was read than there is room for
use Rattle.std.proofs.Common.{◌≤◌, length}
use Rattle.io_edge.proofs.folder_library.fill.Given as goal

abbrev pub invariant-loop : goal.invariant-loop
invariant-loop g l = l.filled ≤ length l.room
