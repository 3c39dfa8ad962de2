use Rattle.std.proofs.Common.{◌∙◌, ◌+◌, ◌++◌, ap, drop}
use Rattle.call_knowledge.specs.Deeds.{names_of, new_ones, repeated}
use Rattle.call_knowledge.proofs.ListLaws.{item-in}
use Rattle.call_knowledge.proofs.knowledge.Knowledge.declaring.Goals as goal

pub loop-d-preserved : goal.loop-d-preserved
loop-d-preserved c =
    let k = c.args.self.now in
    let all = c.loop-d.all in
    let names = names_of all.earlier in
    let d = c.d-item.result in
    let rest = drop (c.loop-d.d-index + 1) c.args.list.now in
    let left = item-in c.args.list.now c.as_slice-d-items.result.now c.loop-d.d-index d c.as_slice-d-items.ensures c.loop-d-test.true c.d-item.is in (
      c.loop-d.invariant.0 ∙ ap (λ ds. all.declared ++ new_ones k names ds) left ∙ c.in_ok-declare_next.ensures.declared rest,
      c.loop-d.invariant.1 ∙ ap (λ ds. all.notes ++ repeated k names ds) left ∙ c.in_ok-declare_next.ensures.notes rest,
    )
