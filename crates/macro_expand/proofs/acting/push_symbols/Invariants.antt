use Rattle.std.proofs.Common.{◌≡◌, ◌++◌, length, map}
use Rattle.kept_values.specs.Keys.{key_tree}
use Rattle.asking_core.specs.Places.{pairs_of}
use Rattle.call_sites.specs.Values.{known_tree}
use Rattle.macro_expand.specs.Acts.{symbol_put}
use Rattle.macro_expand.proofs.acting.push_symbols.Given as goal

-- what was put so far, and then what is left
abbrev pub invariant-loop-one : goal.invariant-loop-one
invariant-loop-one l =
    pairs_of key_tree known_tree l.puts.items ++ map symbol_put l.found.items
    ≡ pairs_of key_tree known_tree l.initial.puts.items ++ map symbol_put l.initial.found.items

abbrev pub decreases-loop-one : goal.decreases-loop-one
decreases-loop-one l = length l.found.items
