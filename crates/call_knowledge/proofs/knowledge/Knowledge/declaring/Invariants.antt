use Rattle.std.proofs.Common.{◌≡◌, ◌++◌, [], drop}
use Rattle.call_knowledge.specs.Deeds.{names_of, new_ones, repeated}
use Rattle.call_knowledge.proofs.knowledge.Knowledge.declaring.Given as goal

-- those so far, and then those that are left
abbrev pub invariant-loop-d : goal.invariant-loop-d
invariant-loop-d l =
    (new_ones l.self [] l.list ≡ l.all.declared ++ new_ones l.self (names_of l.all.earlier) (drop l.d-index l.list))
    × (repeated l.self [] l.list ≡ l.all.notes ++ repeated l.self (names_of l.all.earlier) (drop l.d-index l.list))
