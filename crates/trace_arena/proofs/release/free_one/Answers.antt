use Rattle.std.proofs.Common.{arith}
use Rattle.trace_arena.proofs.ReleaseLemmas.{front_inside, popped_owned, popped_inside, popped_frees, popped_less, done_owners, done_frees, done_less}
use Rattle.trace_arena.proofs.release.free_one.Goals as goal

pub index_mut-requires : goal.index_mut-requires
index_mut-requires g c =
    omega (arith, front_inside c.args.slots.now.items c.args.queues.waiting c.args.index c.requires.first c.requires.frees)

pub give_up-waiting-requires-clause-inside : goal.give_up-waiting-requires-clause-inside
give_up-waiting-requires-clause-inside g c =
    popped_inside c.args.slots.now.items c.args.queues.waiting c.args.index c.requires.first c.requires.frees c.index_mut.result.now c.pop_link.new.slot c.in-Some.link
    c.index_mut.ensures.value c.in-Some.ensures.links c.in-Some.ensures.node c.in-Some.ensures.next

pub give_up-waiting-requires-clause-owned : goal.give_up-waiting-requires-clause-owned
give_up-waiting-requires-clause-owned g c =
    popped_owned c.args.slots.now.items c.args.queues.waiting c.args.index c.requires.first c.requires.frees c.index_mut.result.now c.pop_link.new.slot c.in-Some.link
    c.index_mut.ensures.value c.in-Some.ensures.links c.in-Some.ensures.node c.in-Some.ensures.next

pub returns-in-Some-clause-frees : goal.returns-in-Some-clause-frees
returns-in-Some-clause-frees g c =
    popped_frees c.args.slots.now.items c.args.queues.waiting c.args.index c.requires.first c.requires.frees c.index_mut.result.now c.pop_link.new.slot c.in-Some.link
    c.index_mut.ensures.value c.in-Some.ensures.links c.in-Some.ensures.node c.in-Some.ensures.next c.give_up-waiting.new.slots.items c.give_up-waiting.result
    c.give_up-waiting.ensures.nodes c.give_up-waiting.ensures.waits c.give_up-waiting.ensures.stays

pub returns-in-Some-clause-less : goal.returns-in-Some-clause-less
returns-in-Some-clause-less g c =
    popped_less c.args.slots.now.items c.args.queues.waiting c.args.index c.requires.first c.requires.frees c.index_mut.result.now c.pop_link.new.slot c.in-Some.link
    c.index_mut.ensures.value c.in-Some.ensures.links c.in-Some.ensures.node c.in-Some.ensures.next c.give_up-waiting.new.slots.items c.give_up-waiting.result
    c.give_up-waiting.ensures.nodes c.give_up-waiting.ensures.waits c.give_up-waiting.ensures.stays

pub index_mut-requires-2 : goal.index_mut-requires-2
index_mut-requires-2 g c =
    omega (arith, front_inside c.args.slots.now.items c.args.queues.waiting c.args.index c.requires.first c.requires.frees)

pub finish-waiting-requires : goal.finish-waiting-requires
finish-waiting-requires g c =
    done_owners c.args.slots.now.items c.args.queues.waiting c.args.index c.requires.first c.requires.frees c.index_mut.result.now c.pop_link.new.slot c.index_mut-2.result.now
    c.pop_link.new.slot c.args.queues.free c.args.queues.free c.index_mut.ensures.value c.in_default.ensures.links c.in_default.ensures.node c.in_default.ensures.next c.index_mut-2.ensures.value

pub returns-clause-frees : goal.returns-clause-frees
returns-clause-frees g c =
    done_frees c.args.slots.now.items c.args.queues.waiting c.args.index c.requires.first c.requires.frees c.index_mut.result.now c.pop_link.new.slot c.index_mut-2.result.now
    c.finish-waiting.new.slot c.args.queues.free c.finish-waiting.result c.index_mut.ensures.value c.in_default.ensures.links c.in_default.ensures.node c.in_default.ensures.next c.index_mut-2.ensures.value
    c.finish-waiting.ensures.node c.finish-waiting.ensures.next c.finish-waiting.ensures.behind

pub returns-clause-less : goal.returns-clause-less
returns-clause-less g c =
    done_less c.args.slots.now.items c.args.queues.waiting c.args.index c.requires.first c.requires.frees c.index_mut.result.now c.pop_link.new.slot c.index_mut-2.result.now
    c.finish-waiting.new.slot c.args.queues.free c.finish-waiting.result c.index_mut.ensures.value c.in_default.ensures.links c.in_default.ensures.node c.in_default.ensures.next c.index_mut-2.ensures.value
    c.finish-waiting.ensures.node c.finish-waiting.ensures.next c.finish-waiting.ensures.behind
