-- A memo as its entries, and how they are found. This project.
use Rattle.std.specs.Prelude.{◌≡◌, ℕ, Option, Some, List, map, option_map, length, slice_index}
use Rattle.kept_values.specs.Trees.{Tree}
use Rattle.asking_core.specs.Runs.{Ending, ByLeave, ByEnd, ByBudget}
use Rattle.expansion_memo.specs.declared.outcome.Ended.{Ended}
use Rattle.expansion_memo.specs.declared.outcome.Ended.TheVariants as ended
use Rattle.expansion_memo.specs.declared.entry.Entry.{Entry}
use Rattle.expansion_memo.specs.Kept.{KeptOutcome, kept_at, first_key, found_number, IsListed}

-- how a call ended
abbrev pub ending_of : Ended → Ending
ending_of ended.Returned = ByLeave
ending_of ended.End = ByEnd
ending_of ended.Budget = ByBudget

-- an entry as contracts see it
abbrev pub kept_by : {C K V : Type 0} → (C → Tree) → Entry C K V → KeptOutcome
kept_by code e = record { call = code e.call; depth = e.depth; node = e.node.0; ended = ending_of e.ended; summary = e.summary }

abbrev pub kept_of : {C K V : Type 0} → (C → Tree) → List (Option (Entry C K V)) → List (Option KeptOutcome)
kept_of code entries = map (option_map (kept_by code)) entries

-- each outcome is found under the number of its call and of the first answer that it read, and the key of that answer is
-- listed
pub record IsFindable (call value : Tree → ℕ) (kept : List (Option KeptOutcome)) (answers numbers : List ℕ) (keys : List (Option Tree)) : Type 0 where
  pub long : length answers ≡ length kept
  pub answer_is : (i : ℕ) (o : KeptOutcome) → kept_at kept i ≡ Some o → slice_index answers i ≡ found_number (call o.call) value o.summary.read
  pub listed : (i : ℕ) (o : KeptOutcome) → kept_at kept i ≡ Some o → IsListed numbers keys (call o.call) (first_key o.summary.read)
