use Rattle.std.proofs.Common.{ap, ◌∙◌}
use Rattle.answers_feed.specs.Diagnostics.{relation_of}
use Rattle.answers_feed.specs.Kept.{members_in}
use Rattle.answers_feed.specs.Sites.{site_at}
use Rattle.answers_feed.proofs.ListLaws.{map_next}
use Rattle.answers_feed.proofs.diagnostics.relations_of.Goals as goal

pub loop-frame-preserved : goal.loop-frame-preserved
loop-frame-preserved c =
    let frame = c.frame-item.result in
    let made = c.in_ok-relation_of.ensures.relation ∙ ap (λ members. relation_of (site_at c.args.program.0 c.args.own.now members) frame) c.loop-frame.invariant.1 in (
      map_next (relation_of (site_at c.args.program.0 c.args.own.now (members_in c.args.members.now))) c.args.frames.now c.loop-frame.related c.push.new.self
          c.loop-frame.frame-index frame c.in_ok-relation_of.field-0 c.loop-frame.invariant.0 c.loop-frame-test.true c.frame-item.is made c.in_ok-push.ensures.ok,
      c.in_ok-relation_of.ensures.same ∙ c.loop-frame.invariant.1,
    )
