use Rattle.std.proofs.Common.{◌∙◌, ap, sym, subst, arith}
use Rattle.chain_arena.specs.Lists.{list_at, IsIn, after}
use Rattle.chain_arena.specs.Index.{Lists}
use Rattle.chain_arena.proofs.IndexLemmas.{listed_within, next_is, link_is}
use Rattle.chain_arena.proofs.index.IndexLists.next.Goals as goal

pub index-requires : goal.index-requires
index-requires c =
    let there = subst (λ (u : Lists). IsIn c.args.index (list_at u.lists c.requires.listed.0)) (sym c.self.view_is) c.requires.listed.1 in
    omega (
      arith,
      listed_within c.self.inside.heads.items c.self.inside.nexts.items c.self.inside.previous.items c.self.invariant
          c.requires.listed.0 c.args.index there,
    )

pub returns : goal.returns
returns c = λ n listed.
    let there = subst (λ (u : Lists). IsIn c.args.index (list_at u.lists n)) (sym c.self.view_is) listed in
    link_is _ c.args.index c.index.result.now (listed_within _ _ _ c.self.invariant n c.args.index there) c.index.ensures
    ∙ next_is _ _ _ c.self.invariant n c.args.index there
    ∙ ap (λ (u : Lists). after c.args.index (list_at u.lists n)) c.self.view_is
