-- the index has the members among the paths so far
use Rattle.group_members.specs.Gathering.{IndexesFirst}
use Rattle.group_members.proofs.index.MemberIndex.of.Given as goal

abbrev pub invariant-loop-number : goal.invariant-loop-number
invariant-loop-number l = IndexesFirst l.store.store l.number l.index
