use Rattle.std.proofs.Common.{◌-◌, ◌++◌, take, drop, sym, subst, ap, ◌∙◌}
use Rattle.std.proofs.lemmas.List.{with_items_is}
use Rattle.std.specs.List.{copy_within}
use Rattle.std.specs.Prelude.{IsCharBoundary, IsUtf8}
use Rattle.document_store.specs.Parts.{Parts}
use Rattle.document_store.proofs.SplitLemmas.{holds_gone_back}
use Rattle.document_store.proofs.split_text.SplitText.go_back.Goals as goal

pub invariant_of-self : goal.invariant_of-self
invariant_of-self c =
    (holds_gone_back _ _ _ _ c.args.at c.self.invariant
    (subst (λ (p : Parts). IsCharBoundary p.front c.args.at) (sym c.self.view_is) c.requires) (with_items_is c.self.inside.bytes c.move_bytes.new.bytes (c.move_bytes.ensures.len ∙ c.as_mut_slice-bytes.ensures.len)
    ∙ c.move_bytes.ensures.after ∙ ap (λ bs. copy_within bs c.args.at c.self.inside.end (c.self.inside.start - (c.self.inside.end - c.args.at))) c.as_mut_slice-bytes.ensures.value)).are

pub returns-clause-texts : goal.returns-clause-texts
returns-clause-texts c = subst (λ (p : Parts). IsUtf8 p.back) c.self.view_is c.self.invariant.back

pub returns-clause-parts : goal.returns-clause-parts
returns-clause-parts c =
    (holds_gone_back _ _ _ _ c.args.at c.self.invariant
    (subst (λ (p : Parts). IsCharBoundary p.front c.args.at) (sym c.self.view_is) c.requires) (with_items_is c.self.inside.bytes c.move_bytes.new.bytes (c.move_bytes.ensures.len ∙ c.as_mut_slice-bytes.ensures.len)
    ∙ c.move_bytes.ensures.after ∙ ap (λ bs. copy_within bs c.args.at c.self.inside.end (c.self.inside.start - (c.self.inside.end - c.args.at))) c.as_mut_slice-bytes.ensures.value)).is
    ∙ ap (λ (p : Parts). record { front = take c.args.at p.front; room = p.room; back = drop c.args.at p.front ++ p.back }) c.self.view_is
