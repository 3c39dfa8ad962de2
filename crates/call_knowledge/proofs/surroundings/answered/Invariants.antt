use Rattle.std.proofs.Common.{◌≡◌, drop}
use Rattle.call_knowledge.specs.Tellings.{answers_of}
use Rattle.call_knowledge.proofs.surroundings.answered.Given as goal

-- what is left has the answer that all have
abbrev pub invariant-loop-noted : goal.invariant-loop-noted
invariant-loop-noted l = answers_of l.answers l.key ≡ answers_of (drop l.noted-index l.answers) l.key
