use Rattle.std.proofs.Common.{[], ◌∷◌}
use Rattle.field_laws.proofs.OperandLaws.{joined, count-parts}
use Rattle.field_laws.proofs.operands.Goals as goal

pub returns : goal.returns
returns c = record {
  joined = joined;
  count = λ c rest. count-parts [] (c ∷ rest);
}
