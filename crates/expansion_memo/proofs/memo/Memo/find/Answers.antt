use Rattle.std.proofs.Common.{List, Option, IfOk, MatchOption, subst}
use Rattle.expansion_memo.specs.Kept.{KeptOutcome, HoldsThere, NoneHolds}
use Rattle.expansion_memo.proofs.memo.Memo.find.Goals as goal

pub returns-clause-found : goal.returns-clause-found
returns-clause-found g c =
    let W = g.W.World.model in
    let s = g.W.World.state c.args.world.now in
    let call = g.M.Call.Kept.code c.args.call.now in
    let F : List (Option KeptOutcome) → Type 0 = λ ks.
    IfOk c.find.result (λ r. MatchOption r (NoneHolds W s c.args.fuel c.args.depth call ks) (HoldsThere W s c.args.fuel c.args.depth call ks)) in
    subst F c.self.view_is c.find.ensures.found
