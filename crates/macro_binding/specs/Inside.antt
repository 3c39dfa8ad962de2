-- What small functions promise. No public clause cites this file. This project.
use Rattle.std.specs.Prelude.{◌≡◌, Bool, true, false, List, Option, Some, None}
use Rattle.std.specs.Str.{chars}
use Rattle.macro_binding.specs.Prototypes as prototypes
use Rattle.macro_binding.specs.Prototypes.{Parameter}
use Rattle.macro_binding.specs.declared.prototype.Parted.{Parted}

-- the two parts of a text as characters
abbrev pub parted_chars : Parted → prototypes.Parted
parted_chars p = record { before = chars p.before.now; behind = chars p.behind.now }

-- whether a parameter was added, and then these are there
abbrev pub IsAdmitted : Option (List Parameter) → (now : List Parameter) → Bool → Type 0
IsAdmitted None now true = ⊥
IsAdmitted None now false = Unit {0}
IsAdmitted (Some wanted) now true = now ≡ wanted
IsAdmitted (Some wanted) now false = ⊥
