use Rattle.std.proofs.Common.{◌∙◌, is_some, sym, ap}
use Rattle.statement_listing.proofs.ListingLaws.{copied-some, elements-are}
use Rattle.statement_listing.proofs.listing.Listing.has.Goals as goal

pub returns : goal.returns
returns c = c.is_some.ensures ∙ copied-some c.point.result ∙ ap is_some c.point.ensures ∙ sym (elements-are c.args.self.now c.args.place)
