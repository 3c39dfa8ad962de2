use Rattle.std.proofs.Common.{ap, sym, ◌∙◌}
use Rattle.std.proofs.lemmas.Result.{IfOk-weaker}
use Rattle.answers_feed.specs.Inside.{relation_in}
use Rattle.answers_feed.specs.Sites.{shelf}
use Rattle.answers_feed.proofs.ShelfLaws.{kept_after}
use Rattle.answers_feed.proofs.shelf.Shelf.relation_of.Goals as goal

pub returns-in-Some-clause-relation : goal.returns-in-Some-clause-relation
returns-in-Some-clause-relation c =
    IfOk-weaker c.relation_in.result _ _
    (λ relation is. is ∙ ap (λ site. relation_in site c.args.frame.now)
    (c.args.self.now.known c.args.frame.now.origin.path.0 c.in-Some.site.now (sym c.in-Some.ensures.value)))
    c.relation_in.ensures

pub invariant_of-self : goal.invariant_of-self
invariant_of-self c = record {
  known = kept_after c.insert.result (shelf c.args.self.now.folders.now c.args.self.now.store.now.store) c.args.self.now.sites c.insert.new.self c.args.frame.now.origin.path.0 c.in_ok-site.site
      c.args.self.now.known c.in_ok-site.ensures c.insert.ensures.updates c.insert.ensures.err;
}
