use Rattle.std.proofs.Common.{◌≡◌, drop}
use Rattle.call_knowledge.specs.Knowledge.{system_of}
use Rattle.call_knowledge.proofs.system.system_of.Given as goal

-- what is left has the symbol that all have
abbrev pub invariant-loop-system : goal.invariant-loop-system
invariant-loop-system l = system_of l.systems l.name ≡ system_of (drop l.system-index l.systems) l.name
