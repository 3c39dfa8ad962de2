use Rattle.std.proofs.Common.{arith, ap}
use Rattle.trace_arena.proofs.CallLemmas.{begin_again, begin_anew}
use Rattle.trace_arena.proofs.arena.TraceArena.begin.Goals as goal

pub invariant_of-self : goal.invariant_of-self
invariant_of-self g c =
    (begin_again c.self.inside.slots.items _ (ap (λ a. a.nodes) c.self.view_is) c.self.invariant c.in-Some.number c.reopen-self-inside.new.slot c.in-Some.ensures.0 c.in-Some.ensures.1 c.reopen-self-inside.ensures).whole

pub returns-in-Some-clause-begun : goal.returns-in-Some-clause-begun
returns-in-Some-clause-begun g c =
    (begin_again c.self.inside.slots.items _ (ap (λ a. a.nodes) c.self.view_is) c.self.invariant c.in-Some.number c.reopen-self-inside.new.slot c.in-Some.ensures.0 c.in-Some.ensures.1 c.reopen-self-inside.ensures).change

pub invariant_of-self-2 : goal.invariant_of-self-2
invariant_of-self-2 g c =
    (begin_anew c.self.inside.slots.items _ (ap (λ a. a.nodes) c.self.view_is) c.self.invariant c.in-Ok.number c.new_slot.result c.push.new.self.items (omega arith) c.new_slot.ensures c.in_ok-push.ensures.items).whole

pub returns-clause-begun : goal.returns-clause-begun
returns-clause-begun g c =
    (begin_anew c.self.inside.slots.items _ (ap (λ a. a.nodes) c.self.view_is) c.self.invariant c.in-Ok.number c.new_slot.result c.push.new.self.items (omega arith) c.new_slot.ensures c.in_ok-push.ensures.items).change
