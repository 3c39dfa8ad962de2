-- How what is told goes together over several calls (this project).
use Rattle.std.specs.Prelude.{◌≡◌, ℕ, ◌≤◌, List, [], ◌++◌, Option}
use Rattle.io_edge.specs.Told.{Gives, Gains, HasRisen}

-- two pieces given one after the other are one piece given
abbrev pub GivesInTurn : Type 0
GivesInTurn = (before middle now : Option (List ℕ)) (first second : List ℕ) →
    Gives before first middle → Gives middle second now → Gives before (first ++ second) now

-- two pieces gained one after the other are one piece gained
abbrev pub GainsInTurn : Type 0
GainsInTurn = (before middle now : Option (List ℕ)) (first second : List ℕ) →
    Gains before first middle → Gains middle second now → Gains before (first ++ second) now

-- where the empty piece is given or gained, nothing changed
abbrev pub EmptyPieceKeeps : Type 0
EmptyPieceKeeps = (before now : Option (List ℕ)) →
    (Gives before [] now → now ≡ before) × (Gains before [] now → now ≡ before)

-- a rise within a stretch of calls is a rise over the whole stretch
abbrev pub RiseWidens : Type 0
RiseWidens = (first before now last : ℕ) →
    first ≤ before → before ≤ now → HasRisen before now → now ≤ last → HasRisen first last
