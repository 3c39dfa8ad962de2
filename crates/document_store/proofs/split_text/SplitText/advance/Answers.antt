use Rattle.std.proofs.Common.{◌+◌, ◌++◌, take, drop, sym, subst, ap, ◌∙◌}
use Rattle.std.proofs.lemmas.List.{with_items_is}
use Rattle.std.specs.List.{copy_within}
use Rattle.std.specs.Prelude.{IsCharBoundary}
use Rattle.document_store.specs.Parts.{Parts}
use Rattle.document_store.proofs.SplitLemmas.{holds_advanced}
use Rattle.document_store.proofs.split_text.SplitText.advance.Goals as goal

pub invariant_of-self : goal.invariant_of-self
invariant_of-self c =
    (holds_advanced _ _ _ _ c.args.count c.self.invariant
    (subst (λ (p : Parts). IsCharBoundary p.back c.args.count) (sym c.self.view_is) c.requires) (with_items_is c.self.inside.bytes c.move_bytes.new.bytes (c.move_bytes.ensures.len ∙ c.as_mut_slice-bytes.ensures.len)
    ∙ c.move_bytes.ensures.after ∙ ap (λ bs. copy_within bs c.self.inside.start (c.self.inside.start + c.args.count) c.self.inside.end) c.as_mut_slice-bytes.ensures.value)).are

pub returns : goal.returns
returns c =
    (holds_advanced _ _ _ _ c.args.count c.self.invariant
    (subst (λ (p : Parts). IsCharBoundary p.back c.args.count) (sym c.self.view_is) c.requires) (with_items_is c.self.inside.bytes c.move_bytes.new.bytes (c.move_bytes.ensures.len ∙ c.as_mut_slice-bytes.ensures.len)
    ∙ c.move_bytes.ensures.after ∙ ap (λ bs. copy_within bs c.self.inside.start (c.self.inside.start + c.args.count) c.self.inside.end) c.as_mut_slice-bytes.ensures.value)).is
    ∙ ap (λ (p : Parts). record { front = p.front ++ take c.args.count p.back; room = p.room; back = drop c.args.count p.back }) c.self.view_is
