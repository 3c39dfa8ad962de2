use Rattle.std.proofs.Common.{subst}
use Rattle.expression_grammar.specs.Views.{tree_of}
use Rattle.plain_terms.specs.Terms.{IsDecimal}
use Rattle.plain_terms.proofs.sums.sum_of.Goals as goal

pub returns-in_ok-pair-in-Some-place : goal.returns-in_ok-pair-in-Some-place
returns-in_ok-pair-in-Some-place c = record {
  place = tree_of c.in-Some-place.tree;
  bits = c.in-Some.bits;
  stands = c.in-Some-place.ensures;
  number = subst (λ t. IsDecimal t c.in-Some.bits) c.as_bytes.ensures.value c.in-Some.ensures;
  pair = c.in_ok-pair-in-Some-place.ensures;
}
