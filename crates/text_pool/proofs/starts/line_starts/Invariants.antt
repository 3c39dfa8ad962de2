use Rattle.text_pool.proofs.StartLemmas.{AreFirst}
use Rattle.text_pool.proofs.starts.line_starts.Given as goal

-- the lines so far begin there, and the next one here
abbrev pub invariant-loop : goal.invariant-loop
invariant-loop l = AreFirst l.text l.starts.items l.start
