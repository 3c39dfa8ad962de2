use Rattle.std.proofs.Common.{refl}
use Rattle.std.specs.Str.{chars}
use Rattle.note_laws.proofs.statement_notes.Goals as goal

pub returns : goal.returns
unfolding chars
returns c = record {
  no_operation = refl;
  open_apostrophe = refl;
  unreadable = λ at. refl;
  undefined = λ operation. refl;
  left_out = λ operation. refl;
  author = λ severity words. refl;
}
