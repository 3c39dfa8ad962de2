-- What is claimed of outcomes, in whole sentences. This project.
use Rattle.std.specs.Prelude.{◌≡◌, ℕ, ◌+◌, ◌-◌, ◌<◌, ◌≤◌, false, List, [], ◌∷◌, ◌++◌, map}
use Rattle.kept_values.specs.Trees.{Tree}
use Rattle.trace_arena.specs.Points.{Point}
use Rattle.asking_core.specs.Worlds.{WorldModel, Holds, moved}
use Rattle.asking_core.specs.Machines.{MachineModel, Ask, Put, Count, Bump, Emit, Deepen, Rise, Enter, At, Leave, End}
use Rattle.asking_core.specs.Runs.{Run, Ending, ByLeave, ByEnd, ByBudget, emitted, deepest_depth}
use Rattle.kept_outcomes.specs.Traces.{traced}
use Rattle.kept_outcomes.specs.Outcomes.{CallSummary, IsOutcome, HoldsAt}
use Rattle.kept_outcomes.specs.Moments.{Moment, Finish, Comes, Leads, begun, stepped, asked, put, counted, call_counted, item_emitted, at_said, deepened, risen, turned_away, come_back, finished}

-- The law of outcomes: where an outcome holds, the plain run of its call has its points, its end, its cost and what it
-- read, ends for want of nothing, and leaves the state after what it put and counted.
abbrev pub OutcomesStand : (M : MachineModel) → WorldModel → (Tree → Tree → ℕ → Tree) → Type 0
OutcomesStand M W rebased = (call : M.Call) (kept : ℕ) (points : List (Point M.Item)) (ended : Ending) (summary : CallSummary) (s : W.State) (fuel depth : ℕ) →
    IsOutcome M rebased call kept points ended summary → HoldsAt W s fuel depth kept summary →
    Comes M W rebased fuel depth (begun M W call s) (record { ended = ended; state = moved W s summary.puts summary.calls; points = points; summary = summary; wanting = [] })

-- what a plain run comes to is an outcome, unless fuel was wanting or an outermost statement came; and it holds where the
-- run began
abbrev pub RunsAreOutcomes : (M : MachineModel) → WorldModel → (Tree → Tree → ℕ → Tree) → Type 0
RunsAreOutcomes M W rebased = (call : M.Call) (s : W.State) (fuel depth : ℕ) (z : Finish M W) →
    Comes M W rebased fuel depth (begun M W call s) z → z.summary.at_told ≡ false → (z.ended ≡ ByBudget → ⊥) →
    IsOutcome M rebased call depth z.points z.ended z.summary × Holds W s z.summary.read

-- the points of a run are its items, in order
abbrev pub PointsAreItems : (C I : Type 0) → Type 0
PointsAreItems C I = (run : Run C I) (last : List I) → map (λ p. p.item) (traced last run) ≡ emitted run

-- A run from the moment that a move makes is one from the moment before it, with that move first; and a call that leaves,
-- ends all or finds no fuel has come to its finish.
pub record MovesLead (M : MachineModel) (W : WorldModel) (rebased : Tree → Tree → ℕ → Tree) (fuel depth : ℕ) (a : Moment M W) : Type 0 where
  pub asks : (key : Tree) → M.move_at a.place a.given ≡ Ask key → Leads M W rebased fuel depth a (asked (stepped a) key)
  pub puts : (key value : Tree) → M.move_at a.place a.given ≡ Put key value → Leads M W rebased fuel depth a (put (stepped a) key value)
  pub counts : M.move_at a.place a.given ≡ Count → a.summary.units < fuel → Leads M W rebased fuel depth a (counted (stepped a))
  pub bumps : M.move_at a.place a.given ≡ Bump → Leads M W rebased fuel depth a (call_counted (stepped a))
  pub emits : (item : M.Item) → M.move_at a.place a.given ≡ Emit item → Leads M W rebased fuel depth a (item_emitted (stepped a) item)
  pub says_at : (n : ℕ) → M.move_at a.place a.given ≡ At n → Leads M W rebased fuel depth a (at_said (stepped a) n)
  pub deepens : M.move_at a.place a.given ≡ Deepen → depth + a.frames < deepest_depth → Leads M W rebased fuel depth a (deepened (stepped a))
  pub no_frame : M.move_at a.place a.given ≡ Deepen → deepest_depth ≤ depth + a.frames → Leads M W rebased fuel depth a (turned_away (stepped a))
  pub no_call : (c : M.Call) → M.move_at a.place a.given ≡ Enter c → deepest_depth ≤ depth + a.frames → Leads M W rebased fuel depth a (turned_away (stepped a))
  pub rises : M.move_at a.place a.given ≡ Rise → Leads M W rebased fuel depth a (risen (stepped a))
  pub leaves : M.move_at a.place a.given ≡ Leave → Comes M W rebased fuel depth a (finished (stepped a) ByLeave [])
  pub ends : M.move_at a.place a.given ≡ End → Comes M W rebased fuel depth a (finished (stepped a) ByEnd [])
  pub finds_none : M.move_at a.place a.given ≡ Count → a.summary.units ≡ fuel →
      Comes M W rebased fuel depth a (finished (stepped a) ByBudget (M.frames_at (M.after a.place a.given) ∷ []))

-- A nested call runs with the fuel that is left, one level deeper than the frames that stand open. Where it left, its
-- caller goes on; where it ended all, or fuel was wanting within it, so it is with its caller.
pub record NestedCallsJoin (M : MachineModel) (W : WorldModel) (rebased : Tree → Tree → ℕ → Tree) (fuel depth : ℕ) (a : Moment M W) (c : M.Call) (child : Finish M W) : Type 0 where
  pub left : child.ended ≡ ByLeave → Leads M W rebased fuel depth a (come_back rebased (stepped a) child)
  pub ended : child.ended ≡ ByEnd → Comes M W rebased fuel depth a (finished (come_back rebased (stepped a) child) ByEnd [])
  pub wanting : child.ended ≡ ByBudget →
      Comes M W rebased fuel depth a (finished (come_back rebased (stepped a) child) ByBudget (child.wanting ++ M.frames_at (M.after a.place a.given) ∷ []))

abbrev pub EveryMoveLeads : (M : MachineModel) → WorldModel → (Tree → Tree → ℕ → Tree) → Type 0
EveryMoveLeads M W rebased = (fuel depth : ℕ) (a : Moment M W) → MovesLead M W rebased fuel depth a

abbrev pub EveryCallJoins : (M : MachineModel) → WorldModel → (Tree → Tree → ℕ → Tree) → Type 0
EveryCallJoins M W rebased = (fuel depth : ℕ) (a : Moment M W) (c : M.Call) (child : Finish M W) →
    M.move_at a.place a.given ≡ Enter c → depth + a.frames < deepest_depth →
    Comes M W rebased (fuel - a.summary.units) (depth + a.frames + 1) (begun M W c (W.after_enter a.state)) child →
    NestedCallsJoin M W rebased fuel depth a c child
