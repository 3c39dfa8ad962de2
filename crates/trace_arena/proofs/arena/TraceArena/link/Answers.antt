use Rattle.std.proofs.Common.{List, sym, ap, subst, refl}
use Rattle.trace_arena.specs.Nodes.{Node}
use Rattle.trace_arena.specs.Whole.{IsWhole}
use Rattle.trace_arena.proofs.CallLemmas.{on_err, same_arena, append_refused, link_slots}
use Rattle.trace_arena.proofs.arena.TraceArena.link.Goals as goal

pub invariant_of-self : goal.invariant_of-self
invariant_of-self g c =
    let same = append_refused c.self.inside.slots.items _ (ap (λ a. a.nodes) c.self.view_is) c.self.invariant _ _ c.push_link.new.slot c.requires.unshared c.index_mut.ensures.value c.in_err-push_link.ensures.err in
    subst (λ (ns : List (Node _)). IsWhole ns) (sym same) c.self.invariant

pub returns-in_err-push_link-clause-refused : goal.returns-in_err-push_link-clause-refused
returns-in_err-push_link-clause-refused g c =
    let same = append_refused c.self.inside.slots.items _ (ap (λ a. a.nodes) c.self.view_is) c.self.invariant _ _ c.push_link.new.slot c.requires.unshared c.index_mut.ensures.value c.in_err-push_link.ensures.err in
    on_err c.from_residual.result (same_arena _ _ _ c.self.inside.made same c.self.view_is)

pub invariant_of-self-2 : goal.invariant_of-self-2
invariant_of-self-2 g c =
    (link_slots c.self.inside.slots.items _ (ap (λ a. a.nodes) c.self.view_is) c.self.invariant _ c.args.child c.index-slot.result.now c.index_mut.result.now c.push_link.new.slot
    c.index_mut-2.result.now _ c.in-Some.owners c.requires.unshared c.requires.live c.requires.other c.index-slot.ensures c.index_mut.ensures.value
    c.in_ok-push_link.ensures.ok c.index_mut-2.ensures.value c.in-Some.ensures.1 refl).whole

pub returns-clause-linked : goal.returns-clause-linked
returns-clause-linked g c =
    (link_slots c.self.inside.slots.items _ (ap (λ a. a.nodes) c.self.view_is) c.self.invariant _ c.args.child c.index-slot.result.now c.index_mut.result.now c.push_link.new.slot
    c.index_mut-2.result.now _ c.in-Some.owners c.requires.unshared c.requires.live c.requires.other c.index-slot.ensures c.index_mut.ensures.value
    c.in_ok-push_link.ensures.ok c.index_mut-2.ensures.value c.in-Some.ensures.1 refl).change
