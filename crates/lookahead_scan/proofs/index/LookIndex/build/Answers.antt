use Rattle.std.proofs.Common.{◌≡◌, [], rules}
use Rattle.lookahead_scan.specs.Index.{founds}
use Rattle.lookahead_scan.specs.Looks.{offer, offers}
use Rattle.lookahead_scan.proofs.Finding.{finds-indexed}
use Rattle.lookahead_scan.proofs.index.LookIndex.build.Goals as goal

pub returns : goal.returns
returns g c = λ name after.
    let members = g.P.Present.members c.args.present.now in
    let none : c.loop-sight.left.items ≡ [] = search rules in
    finds-indexed (offer members) c.loop-sight.left.items c.loop-sight.at name after (offers members c.args.list.now)
    (founds c.loop-sight.index name) c.loop-sight.index.ends.items none (c.loop-sight.invariant.0 name) c.loop-sight.invariant.1
