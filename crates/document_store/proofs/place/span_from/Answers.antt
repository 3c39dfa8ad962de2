use Rattle.std.proofs.Common.{◌∙◌, sym, ap}
use Rattle.std.specs.Prelude.{chars}
use Rattle.document_store.specs.Positions.{place_of}
use Rattle.document_store.specs.Places.{bytes_before}
use Rattle.document_store.proofs.PlaceLemmas.{lines_in_order, same_position}
use Rattle.document_store.proofs.place.span_from.Goals as goal

pub place_behind-end-requires-clause-behind : goal.place_behind-end-requires-clause-behind
place_behind-end-requires-clause-behind c = lines_in_order c.args.from c.args.to c.requires.order
