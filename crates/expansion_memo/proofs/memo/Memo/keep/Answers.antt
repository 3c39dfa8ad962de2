use Rattle.std.proofs.Common.{List, Option, ◌≡◌, Some, [], ◌∷◌, ◌++◌, OnOk, OnErr, subst}
use Rattle.expansion_memo.specs.Kept.{KeptOutcome}
use Rattle.expansion_memo.specs.Entries.{kept_by}
use Rattle.expansion_memo.proofs.Reused.{stand_kept}
use Rattle.expansion_memo.proofs.memo.Memo.keep.Goals as goal

pub returns-clause-stand : goal.returns-clause-stand
returns-clause-stand g c = λ nodes.
    let o = kept_by g.M.Call.Kept.code c.args.entry in
    let F : List (Option KeptOutcome) → Type 0 = λ ks. OnOk c.keep.result (c.keep.new.self ≡ ks ++ Some o ∷ []) in
    let E : List (Option KeptOutcome) → Type 0 = λ ks. OnErr c.keep.result (c.keep.new.self ≡ ks) in
    stand_kept g.M.AskMachine.model g.M.AskMachine.rebased g.M.AskMachine.call_of g.M.AskMachine.item_of nodes
    c.keep.result c.args.self.now c.keep.new.self o (subst F c.self.view_is c.keep.ensures.ok) (subst E c.self.view_is c.keep.ensures.err)
