use Rattle.std.proofs.Common.{◌≡◌, ◌||◌, ◌==◌, false, take, drop, is_some, sym, ap, ◌∙◌}
use Rattle.std.specs.HashMap.{get_by}
use Rattle.kept_values.specs.Trees.{look_up}
use Rattle.asking_core.specs.Places.{few, pairs_of}
use Rattle.asking_core.proofs.FootprintSteps.{among_parts, absent_behind}
use Rattle.asking_core.proofs.footprint.Footprint.is_noted.Goals as goal

pub returns-in-None : goal.returns-in-None
returns-in-None g c =
    let key = g.K.Kept.code c.args.key.now in
    let front : is_some (look_up (pairs_of g.K.Kept.code g.V.Kept.code (take few c.self.inside.pairs.items)) key) ≡ false = cc in
    let absent = ap is_some (ap (λ x. get_by (λ b. x == b) c.self.inside.places) (sym c.number.ensures) ∙ sym c.in-None.ensures.value) in
    let behind = absent_behind g.K.Kept.code g.V.Kept.code g.K.Kept.number_of c.self.inside.places key absent few c.self.inside.pairs.items c.self.invariant in
    let whole = among_parts g.K.Kept.code g.V.Kept.code few c.self.inside.pairs.items key
    ∙ ap (λ x. x || is_some (look_up (pairs_of g.K.Kept.code g.V.Kept.code (drop few c.self.inside.pairs.items)) key)) front
    ∙ behind in
    let view = c.self.view_is in
    cc
