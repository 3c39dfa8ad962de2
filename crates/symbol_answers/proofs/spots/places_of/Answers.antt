use Rattle.symbol_answers.specs.Order.{spot_of}
use Rattle.symbol_answers.specs.Questions.{is_reference}
use Rattle.symbol_answers.proofs.ListLaws.{filter_next}
use Rattle.symbol_answers.proofs.spots.places_of.Goals as goal

pub loop-one-preserved : goal.loop-one-preserved
loop-one-preserved c =
    filter_next (spot_of c.args.store.now.store) (is_reference c.args.entity.now c.args.declarations) c.args.occurrences.now _ _ c.loop-one.one-index c.one-item.result
    c.loop-one.invariant c.loop-one-test.true c.one-item.is c.in_ok-add_reference.ensures
