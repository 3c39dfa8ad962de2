use Rattle.std.proofs.Common.{ap, refl}
use Rattle.trace_arena.proofs.CallLemmas.{retain_slots}
use Rattle.trace_arena.proofs.arena.TraceArena.retain.Goals as goal

pub invariant_of-self-2 : goal.invariant_of-self-2
invariant_of-self-2 g c =
    (retain_slots c.self.inside.slots.items _ (ap (λ a. a.nodes) c.self.view_is) c.self.invariant c.args.node.0 c.index_mut-slot.result.now _ c.in-Some.owners c.requires.live c.index_mut-slot.ensures.value c.in-Some.ensures.1 refl).whole

pub returns-clause-retained : goal.returns-clause-retained
returns-clause-retained g c =
    (retain_slots c.self.inside.slots.items _ (ap (λ a. a.nodes) c.self.view_is) c.self.invariant c.args.node.0 c.index_mut-slot.result.now _ c.in-Some.owners c.requires.live c.index_mut-slot.ensures.value c.in-Some.ensures.1 refl).change
