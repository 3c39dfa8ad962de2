use Rattle.std.proofs.Common.{refl, sym}
use Rattle.plain_terms.specs.Terms.{named}
use Rattle.plain_terms.proofs.term.symbol.Goals as goal

pub returns-in-Some : goal.returns-in-Some
returns-in-Some c = named c.in-Some.name (sym c.in-Some.ensures) refl
