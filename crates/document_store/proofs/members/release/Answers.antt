use Rattle.document_store.proofs.MemberLemmas.{let_go_from}
use Rattle.document_store.proofs.members.release.Goals as goal

pub returns-in-File : goal.returns-in-File
returns-in-File c = let_go_from _ _ _ _ c.in-File.is c.requires (record { last = c.release.ensures.last; others = c.release.ensures.others })
