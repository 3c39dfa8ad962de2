use Rattle.std.proofs.Common.{◌≡◌, length, map}
use Rattle.kept_values.specs.Lists.{list_tree}
use Rattle.macro_library.specs.Trees.{row_tree}
use Rattle.call_sites.specs.Calls as calls
use Rattle.call_sites.proofs.call_site.operands_number.Given as goal

-- the operands that are left bring the number of what was read to that of the whole
abbrev pub invariant-loop-left : goal.invariant-loop-left
invariant-loop-left l =
    calls.operands_number l.number (row_tree (map list_tree l.left)) ≡ calls.operands_number l.start (row_tree (map list_tree l.operands))

abbrev pub decreases-loop-left : goal.decreases-loop-left
decreases-loop-left l = length l.left
