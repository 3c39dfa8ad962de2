-- Launches and breakpoints as the code holds them. No public clause cites this file. This project.
use Rattle.std.specs.Prelude.{◌≡◌, ℕ, Bool, true, false, IsTrue, IsSome, nat_lt, ◌-◌, List, map, filter, Option, Some, None}
use Rattle.hl_base.specs.declared.place.Origin.{Origin}
use Rattle.trace_values.specs.declared.item.TraceItem.{TraceItem}
use Rattle.trace_arena.specs.Nodes.{Node}
use Rattle.document_store.specs.Store.{number_of}
use Rattle.macro_debugger.specs.Stops.{Breaks, is_set, replaced}
use Rattle.macro_debugger.specs.Walks.{Walk, HasTrace}
use Rattle.debug_sessions.specs.declared.breakpoints.PathLines.{PathLines}
use Rattle.debug_sessions.specs.Stops.{breaks_at}

-- where a walk stands, if it is stopped there
abbrev pub stop_at : Bool → Option ℕ → Option ℕ
stop_at true place = place
stop_at false place = None

-- a walk has its trace, stands at a point where it is stopped, and before the first one until it has begun
pub record IsSound (nodes : List (Node TraceItem)) (walk : Walk) (is_started is_stopped : Bool) : Type 0 where
  pub trace : HasTrace nodes walk
  pub stands : IsTrue is_stopped → IsSome walk.place
  pub fresh : is_started ≡ false → walk.place ≡ None

-- lines counted from 0 that count from 1 here; there is no line 0
abbrev pub from_zero : List ℕ → List ℕ
from_zero lines = map (λ n. n - 1) (filter (λ n. nat_lt 0 n) lines)

-- breakpoints by the numbers of paths are those by their texts
abbrev pub AreNumbered : (paths : List (List ℕ)) → List PathLines → Breaks → Type 0
AreNumbered paths breakpoints breaks = (at : Origin) → is_set breaks at ≡ breaks_at paths breakpoints at

-- the breakpoints of one path under its number, in place of those that it had; none where the path has no number
abbrev pub under_number : Option ℕ → PathLines → Breaks → Breaks
under_number None b breaks = breaks
under_number (Some n) b breaks = replaced n (from_zero b.lines) breaks

abbrev pub lines_set : (paths : List (List ℕ)) → PathLines → Breaks → Breaks
lines_set paths b breaks = under_number (number_of paths b.path) b breaks
