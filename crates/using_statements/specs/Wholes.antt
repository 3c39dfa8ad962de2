-- All of some values (this project): where one is missing, there is none of them.
use Rattle.std.specs.Prelude.{List, ◌∷◌, Option, Some, None}

abbrev pub with_others : {A : Type 0} → Option A → Option (List A) → Option (List A)
with_others None others = None
with_others (Some one) None = None
with_others (Some one) (Some others) = Some (one ∷ others)
