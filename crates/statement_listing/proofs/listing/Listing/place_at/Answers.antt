use Rattle.std.proofs.Common.{◌≡◌, ◌∙◌, ◌+◌, None, Some, length, take, sym, ap, arith}
use Rattle.std.specs.List.{slice_get}
use Rattle.std.proofs.lemmas.Result.{IfOk-weaker}
use Rattle.statement_listing.specs.Listings.{plain_lines}
use Rattle.statement_listing.specs.Sources.{places_before}
use Rattle.statement_listing.specs.declared.listing.Body.{Body}
use Rattle.statement_listing.proofs.NumberingLaws.{numbers-count, place-past, place-there}
use Rattle.statement_listing.proofs.listing.Listing.place_at.Goals as goal

pub returns-in-Some : goal.returns-in-Some
returns-in-Some c =
    let lines = c.self.inside.body.value.lines.items in
    let line = c.args.line in
    let place = c.in-Some.place in
    let before : slice_get (places_before 0 lines) line ≡ Some place =
    ap (λ ps. slice_get ps line) (sym c.self.invariant.1.before ∙ ap (λ (b : Body). b.numbering.before.items) (sym c.deref.ensures)) ∙ sym c.in-Some.ensures in
    let there : place ≡ 0 + length (plain_lines (take line lines)) = place-there 0 lines line place before in
    let same : length (plain_lines (take line lines)) ≡ length (plain_lines (take line c.args.self.now)) = ap (λ ls. length (plain_lines (take line ls))) c.self.view_is in
    omega (arith, there, same)

pub returns-in-None : goal.returns-in-None
returns-in-None c =
    let lines = c.self.inside.body.value.lines.items in
    let line = c.args.line in
    let before : slice_get (places_before 0 lines) line ≡ None =
    ap (λ ps. slice_get ps line) (sym c.self.invariant.1.before ∙ ap (λ (b : Body). b.numbering.before.items) (sym c.deref.ensures)) ∙ sym c.in-None.ensures in
    IfOk-weaker c.number_of.result _ _
    (λ n is.
    is
    ∙ c.count.ensures
    ∙ ap (λ (b : Body). length b.numbering.numbers.items) c.deref-in-None.ensures
    ∙ ap length c.self.invariant.1.numbers
    ∙ numbers-count 0 lines
    ∙ ap length (sym (place-past 0 lines line before))
    ∙ ap (λ ls. length (plain_lines (take line ls))) c.self.view_is)
    c.number_of.ensures
