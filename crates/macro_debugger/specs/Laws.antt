-- What a stop is among the points of a trace (this project).
use Rattle.std.specs.Prelude.{◌≡◌, ◌↔◌, ℕ, ◌<◌, ◌==◌, ◌⊎◌, if◌then◌else◌, Option, Some, None, List, slice_get, IsTrue}
use Rattle.std.specs.Option.{MatchOption}
use Rattle.hl_base.specs.declared.place.Origin.{Origin}
use Rattle.trace_values.specs.declared.item.TraceItem.{TraceItem}
use Rattle.trace_arena.specs.Points.{Point}
use Rattle.macro_debugger.specs.declared.stop.StepRule.{StepRule}
use Rattle.macro_debugger.specs.declared.stop.Reason.TheVariants.{Breakpoint}
use Rattle.macro_debugger.specs.declared.stop.Stop.{Stop}
use Rattle.macro_debugger.specs.Stops.{Breaks, replaced, is_among, is_set, depth, holds, breaks_at, depth_at}
use Rattle.macro_debugger.specs.Walks.{Walk, next_stop}

-- the point of a number is later than a place
abbrev pub IsLater : Option ℕ → ℕ → Type 0
IsLater None index = Unit {0}
IsLater (Some place) index = place < index

-- the point of a number is a later one, and a breakpoint is set or the rule holds there, seen from where the walk stands
pub record EndsAt (walk : Walk) (trace : List (Point TraceItem)) (rule : StepRule) (index : ℕ) : Type 0 where
  pub point : Point TraceItem
  pub found : slice_get trace index ≡ Some point
  pub later : IsLater walk.place index
  pub ends : IsTrue (breaks_at walk.breakpoints point) ⊎ IsTrue (holds rule (depth_at trace walk.place) (depth point))

-- a stop ends the step, no earlier point does, and it is there because of a breakpoint exactly where one is set
pub record IsLeastStop (walk : Walk) (trace : List (Point TraceItem)) (rule : StepRule) (stop : Stop) : Type 0 where
  pub ending : EndsAt walk trace rule stop.index
  pub reason : (stop.reason ≡ Breakpoint) ↔ IsTrue (breaks_at walk.breakpoints ending.point)
  pub least : (index : ℕ) → index < stop.index → EndsAt walk trace rule index → ⊥

-- the next stop is the least one, and there is none exactly where no point ends the step
abbrev pub StopsAreTheLeast : Type 0
StopsAreTheLeast = (walk : Walk) (trace : List (Point TraceItem)) (rule : StepRule) →
    MatchOption (next_stop walk trace rule) ((index : ℕ) → EndsAt walk trace rule index → ⊥) (IsLeastStop walk trace rule)

-- where breakpoints of one file were replaced, its lines have one, and others have one as before
abbrev pub BreakpointsAreReplaced : Type 0
BreakpointsAreReplaced = (path : ℕ) (lines : List ℕ) (breaks : Breaks) (at : Origin) →
    is_set (replaced path lines breaks) at ≡ (if at.path.0 == path then is_among at.line lines else is_set breaks at)
