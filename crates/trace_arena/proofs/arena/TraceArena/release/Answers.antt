use Rattle.std.proofs.Common.{ap}
use Rattle.trace_arena.proofs.ReleaseLemmas.{left_frees, release_slots}
use Rattle.trace_arena.proofs.arena.TraceArena.release.Goals as goal

pub free_waiting-self-inside-requires : goal.free_waiting-self-inside-requires
free_waiting-self-inside-requires g c =
    left_frees c.self.inside.slots.items _ (ap (λ a. a.nodes) c.self.view_is) c.self.invariant c.args.node.0 c.requires.owned c.give_up-waiting.new.slots.items c.give_up-waiting.result
    c.give_up-waiting.ensures.nodes c.give_up-waiting.ensures.waits c.give_up-waiting.ensures.stays

pub invariant_of-self : goal.invariant_of-self
invariant_of-self g c =
    (release_slots c.self.inside.slots.items _ (ap (λ a. a.nodes) c.self.view_is) c.self.invariant c.args.node.0 c.requires.owned c.give_up-waiting.new.slots.items c.give_up-waiting.result
    c.give_up-waiting.ensures.nodes c.give_up-waiting.ensures.waits c.give_up-waiting.ensures.stays c.free_waiting-self-inside.new.slots.items c.free_waiting-self-inside.ensures).whole

pub returns-clause-released : goal.returns-clause-released
returns-clause-released g c =
    (release_slots c.self.inside.slots.items _ (ap (λ a. a.nodes) c.self.view_is) c.self.invariant c.args.node.0 c.requires.owned c.give_up-waiting.new.slots.items c.give_up-waiting.result
    c.give_up-waiting.ensures.nodes c.give_up-waiting.ensures.waits c.give_up-waiting.ensures.stays c.free_waiting-self-inside.new.slots.items c.free_waiting-self-inside.ensures).change
