use Rattle.std.proofs.Common.{◌-◌, refl}
use Rattle.trace_arena.specs.Nodes.{with_owners}
use Rattle.trace_arena.proofs.SlotLemmas.{set_read, nexts_of_set, nexts_stay}
use Rattle.trace_arena.proofs.release.give_up.Goals as goal

pub returns-then-lose_owner-clause-nodes : goal.returns-then-lose_owner-clause-nodes
returns-then-lose_owner-clause-nodes g c =
    set_read c.args.slots.now.items c.args.index c.index_mut.result.now c.lose_owner.new.slot (λ n. with_owners n (n.owners - 1)) c.requires.inside c.index_mut.ensures.value c.lose_owner.ensures.node

pub returns-then-lose_owner-clause-waits : goal.returns-then-lose_owner-clause-waits
returns-then-lose_owner-clause-waits g c = λ _.
    (refl, nexts_of_set c.args.slots.now.items c.args.index c.lose_owner.new.slot c.args.waiting c.if-lose_owner.ensures.queued)

pub returns-else-lose_owner-clause-nodes : goal.returns-else-lose_owner-clause-nodes
returns-else-lose_owner-clause-nodes g c =
    set_read c.args.slots.now.items c.args.index c.index_mut.result.now c.lose_owner.new.slot (λ n. with_owners n (n.owners - 1)) c.requires.inside c.index_mut.ensures.value c.lose_owner.ensures.node

pub returns-else-lose_owner-clause-stays : goal.returns-else-lose_owner-clause-stays
returns-else-lose_owner-clause-stays g c = λ _.
    (refl, nexts_stay c.args.slots.now.items c.args.index c.index_mut.result.now c.lose_owner.new.slot c.requires.inside c.index_mut.ensures.value c.if-lose_owner.ensures.stays)
