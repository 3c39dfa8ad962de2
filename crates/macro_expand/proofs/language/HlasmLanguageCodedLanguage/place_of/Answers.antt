use Rattle.std.proofs.Common.{◌∙◌, sym, ap}
use Rattle.statement_listing.specs.Listings.{elements, place_of}
use Rattle.macro_expand.specs.Codes.{passage_by}
use Rattle.macro_expand.proofs.PassageLaws.{elements-bare, place-first}
use Rattle.macro_expand.proofs.language.HlasmLanguageCodedLanguage.place_of.Goals as goal

pub returns : goal.returns
returns c =
    let passage = c.args.listing.now in
    c.place_of.ensures
    ∙ ap (place_of c.args.label.now) (sym (elements-bare passage.listing))
    ∙ place-first (passage_by passage) c.args.label.now
