use Rattle.std.proofs.Common.{◌∙◌}
use Rattle.lsp_messages.specs.Written.{place_value}
use Rattle.lsp_messages.proofs.TokenLaws.{left_after_next}
use Rattle.lsp_messages.proofs.answering.write_places.Goals as goal

pub loop-place-preserved : goal.loop-place-preserved
loop-place-preserved c = record {
  before = c.in_ok-write_location.ensures.before ∙ c.loop-place.invariant.before;
  tokens = left_after_next place_value c.args.places.now c.loop-place.place-index c.place-item.result _ _ _ c.loop-place-test.true c.place-item.is c.loop-place.invariant.tokens c.in_ok-write_location.ensures.tokens;
}
