use Rattle.std.proofs.Common.{refl}
use Rattle.std.specs.Str.{chars}
use Rattle.note_laws.proofs.FaultLaws.{fault-noted}
use Rattle.note_laws.proofs.evaluation_notes.Goals as goal

pub returns : goal.returns
unfolding chars
returns c = record {
  no_value = λ name. refl;
  bad_subscript = λ name. refl;
  fault = fault-noted;
  overflow = refl;
  no_length = λ symbol. refl;
  no_number = λ name. refl;
  outside = refl;
  too_long = refl;
}
