-- What a run comes to that gives an expansion.
use Rattle.std.proofs.Common.{◌≡◌, ℕ, ◌-◌, List, [], ◌∷◌, map, refl, ap, ◌∙◌, subst, arith}
use Rattle.kept_values.specs.Trees.{Tree}
use Rattle.trace_arena.specs.Points.{Point}
use Rattle.asking_core.specs.Worlds.{WorldModel}
use Rattle.asking_core.specs.Machines.{MachineModel, Nothing}
use Rattle.asking_core.specs.Runs.{Plain}
use Rattle.plain_expansion.specs.Expansion.{Expansion}
use Rattle.plain_expansion.specs.Laws.{Gives}
use Rattle.kept_outcomes.specs.Moments.{Finish, PlainRunTo, begun}
use Rattle.expansion_memo.specs.Kept.{point_by}

-- a list whose elements are read as they are
pub map_same : {A : Type 0} (f : A → A) → ((x : A) → f x ≡ x) → (xs : List A) → map f xs ≡ xs
map_same f same [] = refl
map_same f same (x ∷ xs) = ap (λ y. y ∷ map f xs) (same x) ∙ ap (λ ys. x ∷ ys) (map_same f same xs)

pub point_same : {I : Type 0} (p : Point I) → point_by (λ item. item) p ≡ p
point_same p = ap (λ calls. record { calls = calls; item = p.item }) (map_same (λ item. item) (λ item. refl) p.calls)

module _ (M : MachineModel) (W : WorldModel) (rebased : Tree → Tree → ℕ → Tree) (fuel depth : ℕ) (call : M.Call) (s : W.State) (z : Finish M W) where
  -- the run of a call that begins is a plain run of it
  pub plain_run : (comes : PlainRunTo M W rebased fuel depth (begun M W call s) z) → Plain M W s (M.start call) Nothing fuel depth 0 comes.run
  plain_run comes =
      let same : fuel - 0 ≡ fuel = omega arith in
      subst (λ f. Plain M W s (M.start call) Nothing f depth 0 comes.run) same comes.plain

  module _ (comes : PlainRunTo M W rebased fuel depth (begun M W call s) z) (e : Expansion M.Item M.Frames W.State) (gives : Gives M W [] (M.start call) Nothing s 0 comes.run e) where
    pub points_are : z.points ≡ e.points
    points_are = comes.points_are ∙ gives.points

    pub ended_is : z.ended ≡ e.ended
    ended_is = comes.ended_is ∙ gives.ended

    pub unpaid_are : z.wanting ≡ e.unpaid
    unpaid_are = comes.wanting_are ∙ gives.unpaid_is
