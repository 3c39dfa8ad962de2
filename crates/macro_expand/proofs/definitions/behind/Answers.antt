use Rattle.std.proofs.Common.{◌∙◌, sym, ap}
use Rattle.std.proofs.lemmas.Result.{IfOk-weaker}
use Rattle.statement_listing.specs.Listings.{place_at}
use Rattle.macro_expand.proofs.PassageLaws.{behind-bare}
use Rattle.macro_expand.proofs.definitions.behind.Goals as goal

pub returns : goal.returns
returns c =
    let list = c.args.passage.now.listing in
    IfOk-weaker c.place_at.result _ _
    (λ n is. is ∙ ap (place_at list) (c.in-Ok.ensures.1 ∙ c.in_ok-line.ensures) ∙ sym (behind-bare list c.args.start))
    c.place_at.ensures
