use Rattle.std.proofs.Common.{◌≡◌, drop}
use Rattle.call_knowledge.specs.Changes.{declared_all}
use Rattle.call_knowledge.proofs.knowledge.Knowledge.declare_all.Given as goal

-- what was declared, and then what is left
abbrev pub invariant-loop-d : goal.invariant-loop-d
invariant-loop-d l = declared_all l.list l.fn.self ≡ declared_all (drop l.d-index l.list) l.self
