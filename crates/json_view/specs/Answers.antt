-- What a call answered, beside what was wanted of it. This project.
use Rattle.std.specs.Prelude.{◌≡◌, Option, Some, None, Result, Ok, Err}

-- a refusal for this cause is what was wanted; where no cause is said, memory was wanting
abbrev pub IsRefusal : {A W : Type 0} → Option W → Result A W → Type 0
IsRefusal (Some cause) wanted = wanted ≡ Err cause
IsRefusal None wanted = Unit {0}

-- what a call answered is what was wanted, but for want of memory: each fault says the cause for which there is nothing, and
-- want of memory says none
abbrev pub Answers : {A F W : Type 0} → (F → Option W) → Result A F → Result A W → Type 0
Answers cause_of (Ok value) wanted = wanted ≡ Ok value
Answers cause_of (Err fault) wanted = IsRefusal (cause_of fault) wanted
