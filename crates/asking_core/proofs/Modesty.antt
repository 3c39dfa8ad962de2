-- The runs of a modest machine are proper.
use Rattle.std.proofs.Common.{◌≡◌, ℕ, ◌+◌, Bool, true, false, refl, sym, subst}
use Rattle.std.proofs.lemmas.Bool.{or_parts}
use Rattle.kept_values.specs.Trees.{Tree}
use Rattle.asking_core.specs.Machines.{MachineModel, Modest, Told, Nothing, Answered, Returned, TooDeep}
use Rattle.asking_core.specs.Runs.{Run, Leaves, Ends, Spent, Asks, Puts, Counts, Bumps, Emits, Moves, Deepens, Rises, Refused, Calls, Barred, Ending, ByLeave, ByEnd, ByBudget, ending, Back, Follows, at_came, bumped}
use Rattle.asking_core.specs.Footprints.{Proper}

never : (b : Bool) → b ≡ false → b ≡ true → ⊥
never b no_it yes_it = cc

calm_step : (b after : Bool) (n : ℕ) → (b ≡ false → after ≡ false) → (b ≡ true → n ≡ 0) → after ≡ true → n ≡ 0
calm_step true after n stays calm is = calm refl
calm_step false after n stays calm is = absurd (never after (stays refl) is)

back_proper : {C I : Type 0} (moving writable : Tree → Bool) (e : Ending) (t : Run C I) (n : ℕ) (P : Type 0) →
    Back e t P → (P → Proper moving writable n t) → Proper moving writable n t
back_proper moving writable ByLeave t n P h k = k h
back_proper {C} {I} moving writable ByEnd t n P h k = let Q : Run C I → Type 0 = λ y. Proper moving writable n y in subst Q (sym h) tt
back_proper {C} {I} moving writable ByBudget t n P h k = let Q : Run C I → Type 0 = λ y. Proper moving writable n y in subst Q (sym h) tt

module _ (M : MachineModel) (moving writable : Tree → Bool) (quiet : M.Place → Bool) (modest : Modest M moving writable quiet) where
  goes_on : (p : M.Place) (g : Told) (n : ℕ) → (quiet p ≡ true → n ≡ 0) → quiet (M.after p g) ≡ true → n ≡ 0
  goes_on p g n calm is = calm_step (quiet p) (quiet (M.after p g)) n (modest.stays p g) calm is

  pub proper_of : (t : Run M.Call M.Item) (p : M.Place) (g : Told) (n : ℕ) → (quiet p ≡ true → n ≡ 0) → at_came t ≡ false →
      Follows M p g t → Proper moving writable n t
  proper_of Leaves p g n calm a f = tt
  proper_of Ends p g n calm a f = tt
  proper_of Spent p g n calm a f = tt
  proper_of (Asks key value t) p g n calm a f =
      (λ moves. calm (modest.asks p g key f.0 moves), proper_of t (M.after p g) (Answered value) n (goes_on p g n calm) a f.1)
  proper_of (Puts key value t) p g n calm a f =
      (modest.puts p g key value f.0, proper_of t (M.after p g) Nothing n (goes_on p g n calm) a f.1)
  proper_of (Counts t) p g n calm a f = proper_of t (M.after p g) Nothing n (goes_on p g n calm) a f.1
  proper_of (Bumps t) p g n calm a f =
      proper_of t (M.after p g) Nothing (n + 1) (λ is. absurd (never (quiet (M.after p g)) (modest.bumped p g f.0) is)) a f.1
  proper_of (Emits item t) p g n calm a f = proper_of t (M.after p g) Nothing n (goes_on p g n calm) a f.1
  proper_of (Moves j t) p g n calm a f = absurd (never true a refl)
  proper_of (Deepens t) p g n calm a f = proper_of t (M.after p g) Nothing n (goes_on p g n calm) a f.1
  proper_of (Rises t) p g n calm a f = proper_of t (M.after p g) Nothing n (goes_on p g n calm) a f.1
  proper_of (Refused t) p g n calm a f = proper_of t (M.after p g) TooDeep n (goes_on p g n calm) a f.1
  proper_of (Calls c child t) p g n calm a f =
      let both = or_parts (at_came child) (at_came t) a in (
        proper_of child (M.start c) Nothing 0 (λ is. refl) both.0 f.1,
        back_proper moving writable (ending child) t (n + bumped child) (Follows M (M.after p g) Returned t) f.2
            (λ h. proper_of t (M.after p g) Returned (n + bumped child)
            (λ is. absurd (never (quiet (M.after p g)) (modest.entered p g c f.0) is)) both.1 h),
      )
  proper_of (Barred c t) p g n calm a f = proper_of t (M.after p g) TooDeep n (goes_on p g n calm) a f.1
