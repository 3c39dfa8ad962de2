use Rattle.std.proofs.Common.{◌∙◌, take, drop, sym, ap, List, ℕ}
use Rattle.io_edge.proofs.PieceLemmas.{taken-overwritten}
use Rattle.io_edge.proofs.std_source.StdSource.give_ahead.Goals as goal

-- what was read ahead is what the buffer now begins with, and then what is still ahead
pub returns-clause-given : goal.returns-clause-given
returns-clause-given g c =
    let filled = c.split_at.ensures.front ∙ ap (λ (bytes : List ℕ). take c.self.inside.end bytes) c.deref.ensures.value in
    let ahead = c.split_at-2.ensures.back ∙ ap (λ (bytes : List ℕ). drop c.self.inside.next bytes) filled in
    let count = rw ahead at c.give-count.ensures.count in
    let written = rw ahead at c.give-count.ensures.buffer in
    sym (ap (λ s. s.buffered) c.self.view_is)
    ∙ taken-overwritten (take c.self.inside.end c.self.inside.buffer.items) _ _ c.self.inside.next _ _ count written
