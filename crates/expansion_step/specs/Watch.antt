-- The place of the machine that watches itself at which a call stands. This project.
use Rattle.std.specs.Prelude.{ℕ}
use Rattle.plain_expansion.specs.Language.{Language}
use Rattle.plain_expansion.specs.Engine.{Place}
use Rattle.plain_expansion.specs.Guard.{Watched as WatchedOf}
use Rattle.expansion_step.specs.declared.phase.Watched.{Watched}
use Rattle.expansion_step.specs.Meaning.{Means}
use Rattle.expansion_step.specs.Places.{place_by}

-- how many actions a call may take between two units of fuel
abbrev pub most_actions : ℕ
most_actions = 4294967295

-- where a call stands, and how many actions it may still take before the next unit of fuel
abbrev pub watched_by : {L : Language} {T B N D S I C K V : Type 0} → Means L T B N D S I C K V → Watched T N C K V I →
    WatchedOf (Place L.words L.Item)
watched_by m w = record { place = place_by m w.local; left = w.left }
