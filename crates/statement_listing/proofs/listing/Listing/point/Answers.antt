use Rattle.std.proofs.Common.{◌≡◌, ◌∙◌, ◌-◌, sym, ap, arith}
use Rattle.std.specs.List.{slice_get}
use Rattle.statement_listing.proofs.NumberingLaws.{numbered-there, numbered-past}
use Rattle.statement_listing.proofs.listing.Listing.point.Goals as goal

pub returns-in-Some : goal.returns-in-Some
returns-in-Some c =
    let number = c.in-Some.number in
    let whole : number ≡ number - 0 = omega arith in
    c.line_at.ensures
    ∙ ap (slice_get c.args.self.now) whole
    ∙ sym (numbered-there 0 c.args.self.now c.args.place number (sym c.in-Some.ensures)).1

pub returns-in-None : goal.returns-in-None
returns-in-None c = sym (numbered-past 0 c.args.self.now c.args.place (sym c.in-None.ensures))
