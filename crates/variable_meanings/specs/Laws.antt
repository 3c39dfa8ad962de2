-- What a caller has of meanings (this project).
use Rattle.std.specs.Prelude.{◌≡◌, ℕ, List, Option, Some, None}
use Rattle.variable_meanings.specs.declared.meaning.Meaning.{Meaning}
use Rattle.variable_meanings.specs.Meanings.{Known, meaning_of, with_meaning}

-- a meaning that was given to a name stands, whatever is given to any name later
abbrev pub MeaningsStand : Type 0
MeaningsStand = (known : List Known) (name other : List ℕ) (first later : Meaning) → meaning_of known name ≡ Some first →
    meaning_of (with_meaning known other later) name ≡ Some first

-- a name that had none has the one that it is given
abbrev pub MeaningIsGiven : Type 0
MeaningIsGiven = (known : List Known) (name : List ℕ) (meaning : Meaning) → meaning_of known name ≡ None →
    meaning_of (with_meaning known name meaning) name ≡ Some meaning
