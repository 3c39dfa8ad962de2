use Rattle.std.proofs.lemmas.Str.{IsCharBoundary-end}
use Rattle.document_store.proofs.seeking.place_back.Goals as goal

pub loop-init : goal.loop-init
loop-init c = IsCharBoundary-end c.args.text.now

pub line_before-at-requires : goal.line_before-at-requires
line_before-at-requires c = c.loop.invariant.0
