use Rattle.std.proofs.Common.{refl}
use Rattle.field_laws.proofs.EndLaws.{standard, one_line, settled, front}
use Rattle.field_laws.proofs.generated_fields.Goals as goal

pub returns : goal.returns
returns c = record {
  standard = standard;
  one_line = one_line;
  settled = settled;
  front = front;
  groups = (refl, refl);
  lines = (refl, refl);
}
