use Rattle.std.proofs.Common.{◌∙◌, ap}
use Rattle.look_places.specs.Places.{look_behind, numbers}
use Rattle.look_places.proofs.FindingLaws.{foreseen}
use Rattle.look_places.proofs.foresight.Foresight.of.Goals as goal

pub returns : goal.returns
returns g c = λ name place.
    let members = g.P.Present.members c.args.present.now in
    foreseen members c.in_ok-statements.statements c.in_ok-index.index c.in_ok-index.ensures c.in_ok-numbers.numbers.items
    (c.in_ok-numbers.ensures ∙ ap (numbers 0) c.as_slice.ensures) name place
    ∙ ap (λ list. look_behind members list name place) c.in_ok-statements.ensures
