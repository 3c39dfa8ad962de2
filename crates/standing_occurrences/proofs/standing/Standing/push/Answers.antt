use Rattle.std.proofs.Common.{ap, ◌∙◌, not, [], ◌∷◌, ◌++◌}
use Rattle.standing_occurrences.proofs.PlaceLaws.{kept_tells, stands_new, stands_not}
use Rattle.standing_occurrences.proofs.standing.Standing.push.Goals as goal

pub returns-then-branch-clause-ok : goal.returns-then-branch-clause-ok
returns-then-branch-clause-ok c =
    let told = kept_tells c.self.inside.places.keys c.self.inside.occurrences.items c.args.self.now c.of.result c.args.occurrence c.self.invariant c.self.view_is c.of.ensures in
    stands_new c.args.self.now _ c.args.occurrence c.in_ok-insert.field-0 (c.in_ok-insert.ensures.added ∙ ap not told) c.if-branch.true
    (c.push_within.ensures ∙ ap (λ items. items ++ c.args.occurrence ∷ []) (c.reserve.ensures.items ∙ c.self.view_is))

pub returns-else-branch-clause-ok : goal.returns-else-branch-clause-ok
returns-else-branch-clause-ok c =
    let told = kept_tells c.self.inside.places.keys c.self.inside.occurrences.items c.args.self.now c.of.result c.args.occurrence c.self.invariant c.self.view_is c.of.ensures in
    stands_not c.args.self.now _ c.args.occurrence c.in_ok-insert.field-0 (c.in_ok-insert.ensures.added ∙ ap not told) c.if-branch.false (c.reserve.ensures.items ∙ c.self.view_is)
