use Rattle.std.proofs.Common.{◌∙◌, sym, ap}
use Rattle.std.specs.List.{slice_get}
use Rattle.std.specs.Option.{is_some}
use Rattle.macro_expand.specs.Codes.{passage_by}
use Rattle.macro_expand.proofs.PassageLaws.{elements-bare, statement-some}
use Rattle.macro_expand.proofs.language.HlasmLanguageCodedLanguage.has_statement.Goals as goal

pub returns : goal.returns
returns c =
    let here = c.args.here.now in
    c.has.ensures
    ∙ ap (λ es. is_some (slice_get es here.position)) (sym (elements-bare here.listing.listing))
    ∙ sym (statement-some (passage_by here.listing) here.position)
