use Rattle.std.proofs.Common.{List, Option, sym, subst}
use Rattle.expansion_memo.specs.Kept.{KeptOutcome}
use Rattle.expansion_memo.specs.Entries.{kept_of, IsFindable}
use Rattle.expansion_memo.proofs.KeptLists.{findable_live}
use Rattle.expansion_memo.proofs.table.Table.give_up_dead.Goals as goal

pub invariant_of-self : goal.invariant_of-self
invariant_of-self g c =
    let call = g.C.Kept.number_of in
    let value = g.V.Kept.number_of in
    let x = c.self.inside in
    let F : List (Option KeptOutcome) → Type 0 = λ ks. IsFindable call value ks x.answers x.firsts.numbers x.firsts.keys in
    subst F (sym c.give_up_all.ensures)
    (findable_live c.args.arena.now.nodes call value (kept_of g.C.Kept.code x.entries.items) x.answers x.firsts.numbers x.firsts.keys c.self.invariant)
