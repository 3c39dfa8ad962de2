use Rattle.std.proofs.Common.{refl}
use Rattle.plain_expansion.proofs.example.the_rows_come_out.Goals as goal

pub returns : goal.returns
returns c = record { ends = refl; cut = refl; missing = refl; first = refl; «returns» = refl; finishes = refl; call_cut = refl; last_room = refl; no_room = refl; passed = refl; long = refl }
