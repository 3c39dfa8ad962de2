use Rattle.std.proofs.Common.{◌≡◌, ◌∙◌, ap, sym, subst}
use Rattle.std.specs.Str.{chars}
use Rattle.hlasm_statements.specs.Statements.{statements_of}
use Rattle.statement_listing.specs.Listings.{Listed, listing_of}
use Rattle.text_lists.specs.Lists.{AreWhole, number_in}
use Rattle.text_lists.proofs.WholeLaws.{all_whole}
use Rattle.text_lists.proofs.list.TextList.of.Goals as goal

pub invariant_of-result : goal.invariant_of-result
invariant_of-result c =
    let text = chars c.args.text.now in
    let made : c.in_ok-list.list ≡ listing_of c.args.path (statements_of text) = c.in_ok-list.ensures ∙ ap (listing_of c.args.path) c.in_ok-statements.ensures in (
      (λ line. c.in_ok-numbers.ensures line ∙ ap (number_in line) c.lines.ensures),
      subst AreWhole (sym made) (all_whole c.args.path text),
    )
