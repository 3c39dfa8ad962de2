-- What a caller has of the pool once a text was taken in (this project).
use Rattle.std.specs.Prelude.{◌≡◌, ℕ, ◌+◌, List}
use Rattle.std.specs.FinMap as map
use Rattle.text_pool.specs.Pool.{Pool, IsLive, text_of, owners_of, IsInterned}

-- the number that was given is live, stands for the text, and has one owner more
abbrev pub InternedTextStands : Type 0
InternedTextStands = (old new : Pool) (text : List ℕ) (id : ℕ) → IsInterned old new text id →
    IsLive new id × (text_of new id ≡ text) × (owners_of new id ≡ owners_of old id + 1)

-- a number that was live is live and stands for the same text
abbrev pub OtherTextsStand : Type 0
OtherTextsStand = (old new : Pool) (text : List ℕ) (id other : ℕ) → IsInterned old new text id → IsLive old other →
    IsLive new other × (text_of new other ≡ text_of old other)

-- a number that was taken out is not live, and every other number is what it was
abbrev pub FreedNumberIsFree : Type 0
FreedNumberIsFree = (pool : Pool) (id : ℕ) → ¬ IsLive (map.remove pool id) id
    × ((other : ℕ) → ¬ (other ≡ id) → map.get (map.remove pool id) other ≡ map.get pool other)
