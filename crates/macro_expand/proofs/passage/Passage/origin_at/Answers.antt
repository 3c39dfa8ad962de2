use Rattle.std.proofs.Common.{◌∙◌, sym, ap}
use Rattle.std.specs.Prelude.{slice_get}
use Rattle.statement_listing.specs.Listings.{elements}
use Rattle.statement_listing.specs.Views.{lent_of}
use Rattle.macro_expand.specs.Passages.{origin_in}
use Rattle.macro_expand.proofs.PassageLaws.{elements-bare, lent-origin, none-origin}
use Rattle.macro_expand.proofs.passage.Passage.origin_at.Goals as goal

pub returns-in-Some : goal.returns-in-Some
returns-in-Some c =
    let list = c.args.self.now.listing in
    lent-origin (slice_get (elements list) c.args.place) (lent_of c.in-Some.element) c.in-Some.ensures
    ∙ ap (λ es. origin_in (slice_get es c.args.place)) (sym (elements-bare list))

pub returns-in-None : goal.returns-in-None
returns-in-None c =
    let list = c.args.self.now.listing in
    none-origin (slice_get (elements list) c.args.place) c.in-None.ensures
    ∙ ap (λ es. origin_in (slice_get es c.args.place)) (sym (elements-bare list))
