-- Texts that grow.
use Rattle.std.specs.Prelude.{◌≡◌, ℕ, List, ◌++◌, Result, Ok, Err, OnOk, OnErr, IsUtf8}
use Rattle.std.proofs.lemmas.Str.{IsUtf8-append}

-- bytes to which others were added, or which stayed as they were, are UTF-8 where all of them were
pub IsUtf8-pushed : {T E : Type 0} (r : Result T E) (old more new : List ℕ) → IsUtf8 old → IsUtf8 more
    → OnOk r (new ≡ old ++ more) → OnErr r (new ≡ old) → IsUtf8 new
IsUtf8-pushed (Ok x) old more new h g added kept = rw added (IsUtf8-append old more h g)
IsUtf8-pushed (Err e) old more new h g added kept = rw kept h
