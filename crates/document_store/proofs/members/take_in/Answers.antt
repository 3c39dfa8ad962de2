use Rattle.std.proofs.Common.{ap}
use Rattle.document_store.specs.Members.{file_given}
use Rattle.document_store.proofs.MemberLemmas.{taken_from}
use Rattle.document_store.proofs.members.take_in.Goals as goal

pub returns-in_ok-id-in-Some-clause-taken : goal.returns-in_ok-id-in-Some-clause-taken
returns-in_ok-id-in-Some-clause-taken c = taken_from _ _ _ _ _ (ap file_given c.in-Some.is) c.in_ok-id-in-Some.ensures.interned
