use Rattle.std.proofs.Common.{refl, sym}
use Rattle.plain_terms.specs.Sums.{named}
use Rattle.plain_terms.proofs.sums.place.Goals as goal

pub returns-in-Some : goal.returns-in-Some
returns-in-Some c = named c.in-Some.name (sym c.in-Some.ensures) refl
