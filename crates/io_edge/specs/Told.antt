-- What an object of the outside tells of itself, and what a fault means (this project). An object may tell nothing:
-- then it is seen as `None` throughout.
use Rattle.std.specs.Prelude.{◌≡◌, ℕ, ◌-◌, ◌^◌, ◌<◌, ◌≤◌, List, [], ◌∷◌, ◌++◌, length, take, drop, Bool, false, Option, Result, Ok, Err, IfSome, IsErr}
use Rattle.std.specs.Option.{option_map}

-- what was told before is this piece and then what is told now
abbrev pub Gives : {A : Type 0} → Option (List A) → List A → Option (List A) → Type 0
Gives before piece now = before ≡ option_map (λ rest. piece ++ rest) now

-- what is told now is what was told before and then this piece
abbrev pub Gains : {A : Type 0} → Option (List A) → List A → Option (List A) → Type 0
Gains before piece now = now ≡ option_map (λ held. held ++ piece) before

-- the part of a buffer that a count names; nothing for an error
abbrev pub counted : {E A : Type 0} → Result ℕ E → List A → List A
counted (Ok n) items = take n items
counted (Err _) items = []

-- nothing more comes
abbrev pub IsAtEnd : {A : Type 0} → Option (List A) → Type 0
IsAtEnd left = IfSome left (λ items. items ≡ [])

-- a count of faults has risen, or stands at the top
abbrev pub HasRisen : ℕ → ℕ → Type 0
HasRisen before now = before < 2 ^ 64 - 1 → before < now

-- a count of faults never falls, and a call that was refused raised it
pub record HasCause {T E : Type 0} (before now : ℕ) (result : Result T E) : Type 0 where
  pub later : before ≤ now
  pub failed : IsErr result → HasRisen before now

-- the first of the answers to come, and no past their end
abbrev pub first_wait : List Bool → Bool
first_wait [] = false
first_wait (answer ∷ _) = answer

-- a buffer whose front was overwritten by a piece
abbrev pub overwritten : {A : Type 0} → List A → List A → List A
overwritten piece buffer = piece ++ drop (length piece) buffer
