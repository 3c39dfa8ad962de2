-- Where an outcome that holds is found. No public clause cites this file. This project.
use Rattle.std.specs.Prelude.{◌≡◌, ℕ, Option, Some, None, List, slice_index}
use Rattle.kept_values.specs.Trees.{Tree, mixed}
use Rattle.asking_core.specs.Worlds.{WorldModel}
use Rattle.expansion_memo.specs.Kept.{KeptOutcome, HoldsOf, HoldsThere}

-- the number under which an outcome that holds is found, where this key was read first
abbrev pub here_number : (W : WorldModel) → W.State → ℕ → (Tree → ℕ) → Option Tree → ℕ
here_number W s start value None = start
here_number W s start value (Some key) = mixed start (value (W.answer s key))

-- one is kept there, and holds
abbrev pub HoldsIn : (W : WorldModel) → W.State → ℕ → ℕ → Tree → Option KeptOutcome → Type 0
HoldsIn W s fuel depth call None = ⊥
HoldsIn W s fuel depth call (Some o) = HoldsOf W s fuel depth call o

-- none under a number holds
abbrev pub NoneUnder : (W : WorldModel) → W.State → ℕ → ℕ → Tree → List (Option KeptOutcome) → List ℕ → ℕ → Type 0
NoneUnder W s fuel depth call kept answers number =
    (i : ℕ) → slice_index answers i ≡ number → HoldsThere W s fuel depth call kept i → ⊥
