use Rattle.call_sites.proofs.CallLaws.{call_tree-called, called-call_tree}
use Rattle.call_sites.proofs.call_site.CallSiteKept.same.Goals as goal

pub returns : goal.returns
returns c = (λ is. call_tree-called _ _ (c.same_call.ensures.0 is), λ is. c.same_call.ensures.1 (called-call_tree _ _ is))
