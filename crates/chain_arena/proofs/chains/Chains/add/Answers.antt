use Rattle.std.proofs.Common.{◌≡◌, ℕ, Some, sym, ap, subst, ◌∙◌}
use Rattle.slab.specs.Slab.{get, Updates}
use Rattle.chain_arena.proofs.ChainLemmas.{HasLinks-same, HasLinks-free, HasLinks-added}
use Rattle.chain_arena.proofs.chains.Chains.add.Goals as goal

pub invariant_of-self : goal.invariant_of-self
invariant_of-self g c = record {
  left = HasLinks-same c.self.inside.links c.prepare.new.links _ c.self.inside.lefts.lists c.prepare.new.lefts.lists c.prepare.ensures.links c.prepare.ensures.lefts c.self.invariant.left;
  right = HasLinks-same c.self.inside.links c.prepare.new.links _ c.self.inside.rights.lists c.prepare.new.rights.lists c.prepare.ensures.links c.prepare.ensures.rights c.self.invariant.right;
}

pub push_last-requires-clause-unlisted : goal.push_last-requires-clause-unlisted
push_last-requires-clause-unlisted g c =
    let is : c.insert_reserved.result ≡ c.in-Ok.number = c.insert_reserved.ensures.key ∙ sym c.in-Ok.ensures.number in
    HasLinks-free c.prepare.new.links _ c.prepare.new.lefts.lists c.in-Ok.number
    (HasLinks-same c.self.inside.links c.prepare.new.links _ c.self.inside.lefts.lists c.prepare.new.lefts.lists c.prepare.ensures.links c.prepare.ensures.lefts c.self.invariant.left) (ap (get c.prepare.new.links) (sym is) ∙ c.insert_reserved.ensures.was_vacant)

pub push_last-requires-2-clause-unlisted : goal.push_last-requires-2-clause-unlisted
push_last-requires-2-clause-unlisted g c =
    let is : c.insert_reserved.result ≡ c.in-Ok.number = c.insert_reserved.ensures.key ∙ sym c.in-Ok.ensures.number in
    HasLinks-free c.prepare.new.links _ c.prepare.new.rights.lists c.in-Ok.number
    (HasLinks-same c.self.inside.links c.prepare.new.links _ c.self.inside.rights.lists c.prepare.new.rights.lists c.prepare.ensures.links c.prepare.ensures.rights c.self.invariant.right) (ap (get c.prepare.new.links) (sym is) ∙ c.insert_reserved.ensures.was_vacant)

pub invariant_of-self-2 : goal.invariant_of-self-2
invariant_of-self-2 g c =
    let is : c.insert_reserved.result ≡ c.in-Ok.number = c.insert_reserved.ensures.key ∙ sym c.in-Ok.ensures.number in
    let updates =
    subst (λ (k : ℕ). Updates c.prepare.new.links c.insert_reserved.new.self k (Some (record { left = c.args.left; right = c.args.right; item = c.args.item })))
    is c.insert_reserved.ensures.updates in
    record {
      left = HasLinks-added c.prepare.new.links c.insert_reserved.new.self _ c.prepare.new.lefts.lists c.push_last.new.self.lists c.in-Ok.number _
          (HasLinks-same c.self.inside.links c.prepare.new.links _ c.self.inside.lefts.lists c.prepare.new.lefts.lists c.prepare.ensures.links c.prepare.ensures.lefts c.self.invariant.left) (ap (get c.prepare.new.links) (sym is) ∙ c.insert_reserved.ensures.was_vacant) updates c.push_last.ensures.changes;
      right = HasLinks-added c.prepare.new.links c.insert_reserved.new.self _ c.prepare.new.rights.lists c.push_last-2.new.self.lists c.in-Ok.number _
          (HasLinks-same c.self.inside.links c.prepare.new.links _ c.self.inside.rights.lists c.prepare.new.rights.lists c.prepare.ensures.links c.prepare.ensures.rights c.self.invariant.right) (ap (get c.prepare.new.links) (sym is) ∙ c.insert_reserved.ensures.was_vacant) updates c.push_last-2.ensures.changes;
    }
