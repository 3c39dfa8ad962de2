use Rattle.std.proofs.Common.{List, sym, ap, subst}
use Rattle.trace_arena.specs.Nodes.{Node}
use Rattle.trace_arena.specs.Whole.{IsWhole}
use Rattle.trace_arena.proofs.CallLemmas.{on_err, same_arena, append_slots, append_refused}
use Rattle.trace_arena.proofs.arena.TraceArena.append.Goals as goal

pub invariant_of-self : goal.invariant_of-self
invariant_of-self g c =
    let same = append_refused c.self.inside.slots.items _ (ap (λ a. a.nodes) c.self.view_is) c.self.invariant _ _ c.push_item.new.slot c.requires.unshared c.index_mut.ensures.value c.in_err-push_item.ensures.err in
    subst (λ (ns : List (Node _)). IsWhole ns) (sym same) c.self.invariant

pub returns-in_err-push_item-clause-refused : goal.returns-in_err-push_item-clause-refused
returns-in_err-push_item-clause-refused g c =
    let same = append_refused c.self.inside.slots.items _ (ap (λ a. a.nodes) c.self.view_is) c.self.invariant _ _ c.push_item.new.slot c.requires.unshared c.index_mut.ensures.value c.in_err-push_item.ensures.err in
    on_err c.from_residual.result (same_arena _ _ _ c.self.inside.made same c.self.view_is)

pub invariant_of-self-2 : goal.invariant_of-self-2
invariant_of-self-2 g c =
    (append_slots c.self.inside.slots.items _ (ap (λ a. a.nodes) c.self.view_is) c.self.invariant _ c.args.item _ c.push_item.new.slot c.requires.unshared c.index_mut.ensures.value c.in_ok-push_item.ensures.ok).whole

pub returns-clause-appended : goal.returns-clause-appended
returns-clause-appended g c =
    (append_slots c.self.inside.slots.items _ (ap (λ a. a.nodes) c.self.view_is) c.self.invariant _ c.args.item _ c.push_item.new.slot c.requires.unshared c.index_mut.ensures.value c.in_ok-push_item.ensures.ok).change
