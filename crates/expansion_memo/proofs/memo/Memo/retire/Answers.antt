use Rattle.std.proofs.Common.{◌≡◌, List, Option, map, sym, ap, ◌∙◌, subst}
use Rattle.expansion_memo.specs.Kept.{KeptOutcome, AllStand, while_live}
use Rattle.expansion_memo.proofs.KeptLists.{live_stand}
use Rattle.expansion_memo.proofs.memo.Memo.retire.Goals as goal

pub returns-clause-stand : goal.returns-clause-stand
returns-clause-stand g c = λ stand.
    let old = c.args.arena.now.nodes in
    let new = c.release.new.self.nodes in
    let given_up : c.give_up_dead.new.self ≡ map (while_live new) c.args.self.now = c.give_up_dead.ensures ∙ ap (map (while_live new)) c.self.view_is in
    let S : List (Option KeptOutcome) → Type 0 = AllStand g.M.AskMachine.model g.M.AskMachine.rebased g.M.AskMachine.call_of g.M.AskMachine.item_of new in
    subst S (sym given_up)
    (live_stand g.M.AskMachine.model g.M.AskMachine.rebased g.M.AskMachine.call_of g.M.AskMachine.item_of old new c.args.self.now
    (λ y live. (c.release.ensures.released.keeps y live).points) stand)
