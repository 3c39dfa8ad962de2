use Rattle.std.proofs.Common.{refl, subst}
use Rattle.plain_terms.specs.Terms.{decimal, IsDecimal}
use Rattle.plain_terms.proofs.term.term.Goals as goal

pub returns-in-Some : goal.returns-in-Some
returns-in-Some c = decimal c.in-Some.bits (subst (λ t. IsDecimal t c.in-Some.bits) c.as_bytes.ensures.value c.in-Some.ensures) refl
