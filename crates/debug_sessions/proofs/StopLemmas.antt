-- Stops of a walk whose breakpoints are set under the numbers of paths.
use Rattle.std.proofs.Common.{◌≡◌, ◌∙◌, ℕ, ◌+◌, Bool, true, false, cond, List, [], ◌∷◌, drop, refl, sym, ap, Some, None, Option}
use Rattle.std.specs.Prelude.{IsTrue, IsSome, is_some}
use Rattle.std.specs.Option.{option_map}
use Rattle.trace_values.specs.declared.item.TraceItem.{TraceItem}
use Rattle.trace_arena.specs.Points.{Point}
use Rattle.macro_debugger.specs.declared.stop.StepRule.{StepRule}
use Rattle.macro_debugger.specs.declared.stop.StepRule.TheVariants.{In}
use Rattle.macro_debugger.specs.declared.stop.Reason.{Reason}
use Rattle.macro_debugger.specs.declared.stop.Reason.TheVariants.{Breakpoint, Step}
use Rattle.macro_debugger.specs.declared.stop.Stop.{Stop}
use Rattle.macro_debugger.specs.Stops as walks
use Rattle.macro_debugger.specs.Walks.{place_after}
use Rattle.debug_sessions.specs.declared.breakpoints.PathLines.{PathLines}
use Rattle.debug_sessions.specs.Inside.{AreNumbered, stop_at}
use Rattle.debug_sessions.specs.Stops.{Halt, reason_at, stop_behind, entry, halt_of}

-- where the reasons are the same, so is the first stop
same_first : (f g : Point TraceItem → Option Reason) → ((p : Point TraceItem) → f p ≡ g p) → (n : ℕ) (ps : List (Point TraceItem)) →
    walks.first_stop f n ps ≡ walks.first_stop g n ps
same_first f g same n [] = refl
same_first f g same n (p ∷ ps) =
    ap (λ o. walks.stop_or n o (walks.first_stop f (n + 1) ps)) (same p)
    ∙ ap (walks.stop_or n (g p)) (same_first f g same (n + 1) ps)

module _ (paths : List (List ℕ)) (breakpoints : List PathLines) (breaks : walks.Breaks) (numbered : AreNumbered paths breakpoints breaks) where
  same_reason : (rule : StepRule) (from : ℕ) (p : Point TraceItem) → walks.reason_at breaks rule from p ≡ reason_at paths breakpoints rule from p
  same_reason rule from p =
      ap (λ b. cond b (Some Breakpoint) (cond (walks.holds rule from (walks.depth p)) (Some Step) None)) (numbered p.item.frames.innermost.origin)

  pub same_stop : (rule : StepRule) (place : Option ℕ) (trace : List (Point TraceItem)) →
      walks.stop_behind breaks rule place trace ≡ stop_behind paths breakpoints rule place trace
  same_stop rule place trace =
      let from = walks.depth_at trace place in
      same_first (walks.reason_at breaks rule from) (reason_at paths breakpoints rule from) (same_reason rule from)
      (walks.first_later place) (drop (walks.first_later place) trace)

-- a walk that begins by a step into the trace stops at the first point
some_reason : (b : Bool) → (why : Reason) × (cond b (Some Breakpoint) (Some Step) ≡ Some why)
some_reason true = (Breakpoint, refl)
some_reason false = (Step, refl)

pub enters : (breaks : walks.Breaks) (trace : List (Point TraceItem)) →
    option_map (λ (s : Stop). s.index) (walks.stop_behind breaks In None trace) ≡ option_map (λ (h : Halt). h.index) (entry trace)
enters breaks [] = refl
enters breaks (p ∷ ps) =
    let found = some_reason (walks.breaks_at breaks p) in
    ap (λ o. option_map (λ (s : Stop). s.index) (walks.stop_or 0 o (walks.first_stop (walks.reason_at breaks In 0) 1 ps))) found.1

-- ---- where a launch is stopped

-- it is stopped at the point of its stop, if there is one
pub stopped_first : (halt : Option Halt) → stop_at (is_some (option_map (λ (h : Halt). h.reason) halt)) (option_map (λ (h : Halt). h.index) halt) ≡ option_map (λ (h : Halt). h.index) halt
stopped_first None = refl
stopped_first (Some halt) = refl

pub stopped_next : (place : Option ℕ) (stop : Option Stop) →
    stop_at (is_some (option_map (λ (h : Halt). h.reason) (option_map halt_of stop))) (place_after place stop) ≡ option_map (λ (h : Halt). h.index) (option_map halt_of stop)
stopped_next place None = refl
stopped_next place (Some stop) = refl

-- where there is a reason, it stands at a point
pub stands_first : (halt : Option Halt) → IsTrue (is_some (option_map (λ (h : Halt). h.reason) halt)) → IsSome (option_map (λ (h : Halt). h.index) halt)
stands_first None sure = sure
stands_first (Some halt) sure = sure

pub stands_next : (place : Option ℕ) (stop : Option Stop) → IsTrue (is_some (option_map (λ (h : Halt). h.reason) (option_map halt_of stop))) → IsSome (place_after place stop)
stands_next None None sure = sure
stands_next (Some index) None sure = refl
stands_next place (Some stop) sure = refl
