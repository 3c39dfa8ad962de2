use Rattle.std.proofs.Common.{◌≡◌, drop}
use Rattle.kept_values.specs.Trees.{number_from}
use Rattle.kept_values.specs.Lists.{list_tree}
use Rattle.kept_values.proofs.number.bytes_number.Given as goal

-- the bytes that are left bring the number of what was read to that of the whole
abbrev pub invariant-loop-byte : goal.invariant-loop-byte
invariant-loop-byte l = number_from l.number (list_tree (drop l.byte-index l.bytes)) ≡ number_from l.start (list_tree l.bytes)
