use Rattle.std.proofs.Common.{◌≡◌, false, drop}
use Rattle.kept_outcomes.proofs.PutLists.{with_rest}
use Rattle.kept_outcomes.proofs.summary.CallSummary.join_puts.Given as goal

-- what is left to be put brings what was joined to the whole
abbrev pub invariant-loop-put : goal.invariant-loop-put
invariant-loop-put g l = record {
  kept : l.self.at_told ≡ false;
  whole : with_rest g.K.Kept.code g.V.Kept.code l.self (drop l.put-index l.puts) ≡ with_rest g.K.Kept.code g.V.Kept.code l.initial.self l.puts;
}
