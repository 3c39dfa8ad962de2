use Rattle.std.proofs.Common.{◌∙◌, sym}
use Rattle.statement_listing.proofs.ListingLaws.{lent-there, lent-past}
use Rattle.statement_listing.proofs.listing.Listing.element.Goals as goal

pub returns-in-Some : goal.returns-in-Some
returns-in-Some c = c.lend.ensures ∙ sym (lent-there c.args.self.now c.args.place c.in-Some.line.now (sym c.in-Some.ensures))

pub returns-in-None : goal.returns-in-None
returns-in-None c = sym (lent-past c.args.self.now c.args.place (sym c.in-None.ensures))
