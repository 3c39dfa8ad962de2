use Rattle.kept_values.specs.Keys.{key_tree}
use Rattle.program_world.proofs.PairLaws.{SoFar}
use Rattle.program_world.proofs.puts.place_in.Given as goal

-- none of the pairs before has the key
abbrev pub invariant-loop-place : goal.invariant-loop-place
invariant-loop-place l = SoFar l.pairs l.place (key_tree l.key)
