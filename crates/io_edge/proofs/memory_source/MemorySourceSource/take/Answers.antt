use Rattle.std.proofs.Common.{◌≡◌, ◌∙◌, drop, Some, sym, ap, List, ℕ}
use Rattle.io_edge.proofs.PieceLemmas.{taken-overwritten}
use Rattle.io_edge.proofs.MemorySourceLemmas.{nothing_given}
use Rattle.io_edge.proofs.memory_source.MemorySourceSource.take.Goals as goal

-- what was left is what the buffer now begins with, and then what is left
pub returns-clause-given : goal.returns-clause-given
returns-clause-given c =
    let rest = c.split_at.ensures.back ∙ ap (λ (bytes : List ℕ). drop c.self.inside.taken bytes) c.deref-3.ensures.value in
    let count = rw rest at c.give-count.ensures.count in
    let written = rw rest at c.give-count.ensures.buffer in
    ap Some (sym (ap (λ s. s.bytes) c.self.view_is)
    ∙ taken-overwritten c.self.inside.bytes.items _ _ c.self.inside.taken _ _ count written)

-- every size is positive, so nothing is given only where nothing is left
pub returns-clause-end : goal.returns-clause-end
returns-clause-end c = λ none room.
    let nothing : c.give-count.result ≡ 0 = cc in
    let rest = c.split_at.ensures.back ∙ ap (λ (bytes : List ℕ). drop c.self.inside.taken bytes) c.deref-3.ensures.value in
    let limit = rw c.deref-2.ensures.value at c.allowed-most.ensures in
    let count = rw (rest, limit) at c.give-count.ensures.count in
    sym (ap (λ s. s.bytes) c.self.view_is)
    ∙ nothing_given c.self.inside.sizes.items _ c.self.inside.turn _ _ c.self.invariant.sizes_positive room count nothing
