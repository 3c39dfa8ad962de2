use Rattle.std.proofs.Common.{◌≡◌, ◌-◌, length}
use Rattle.document_store.proofs.MemberLemmas.{emptied_to}
use Rattle.document_store.proofs.store.DocumentStore.drop_members.Given as goal

abbrev pub invariant-loop-number : goal.invariant-loop-number
invariant-loop-number l = l.self.store ≡ emptied_to l.number l.initial.self.store

abbrev pub decreases-loop-number : goal.decreases-loop-number
decreases-loop-number l = length l.initial.self.store.files - l.number
