-- An outcome that holds stands for the run, and a run that ended makes an outcome.
use Rattle.std.proofs.Common.{◌≡◌, ℕ, ◌+◌, ◌-◌, ◌≤◌, max, Bool, true, false, List, [], ◌∷◌, refl, sym, ap, ◌∙◌, subst, append-nil, arith}
use Rattle.std.proofs.Math.Nat.{zero-add}
use Rattle.std.proofs.Math.Logic.{∥∥₁_map, ∥∥₁_elim}
use Rattle.std.specs.Coded.{Coded-set, ×_prop, Unit-prop, le_prop}
use Rattle.kept_values.specs.Trees.{Tree, Pair}
use Rattle.asking_core.specs.Worlds.{WorldModel, Fits, Holds, moved}
use Rattle.asking_core.specs.Machines.{MachineModel, Modest, Nothing}
use Rattle.trace_arena.specs.Points.{Point}
use Rattle.asking_core.specs.Runs.{Run, Ending, ByBudget, Follows, Agrees, Within, Paid, cost, bumped, put_by, at_came, met_deep, deepest, deepest_depth, after_run}
use Rattle.asking_core.specs.Footprints.{read_by, Proper}
use Rattle.asking_core.proofs.Modesty.{proper_of}
use Rattle.asking_core.proofs.Effects.{effect}
use Rattle.asking_core.proofs.Sound.{complete, hears_itself, sound}
use Rattle.asking_core.proofs.Shifts.{fuel_shift, depth_shift}
use Rattle.kept_outcomes.specs.Codes.{tree_code}
use Rattle.kept_outcomes.specs.Outcomes.{CallSummary, OutcomeRun, HasRoom, HoldsAt, AllSaid}
use Rattle.kept_outcomes.specs.Moments.{Moment, Finish, PlainRunTo, Comes, begun}
use Rattle.kept_outcomes.specs.Laws.{OutcomesStand, RunsAreOutcomes}
use Rattle.kept_outcomes.proofs.Bounds.{cost_le, deepest_le, spent_all}
use Rattle.kept_outcomes.proofs.Ways.{said_holds, merged_holds, merged_says, paid_of, none_wanting, paid_ends}

-- that a state answers so is one fact
Holds-prop : (W : WorldModel) (s : W.State) (ps : List Pair) → IsProp (Holds W s ps)
Holds-prop W s [] = Unit-prop
Holds-prop W s (p ∷ ps) = ×_prop (Coded-set tree_code (W.answer s p.key) p.value) (Holds-prop W s ps)

fits_at : {C I : Type 0} (t : Run C I) (b : Bool) (units kept levels fuel depth : ℕ) → met_deep t ≡ b → HasRoom b kept levels depth → levels ≡ deepest 0 t →
    Within units kept 0 t → Paid t → cost t ≤ fuel → Within fuel depth 0 t
fits_at t true units kept levels fuel depth met room deep w paid le =
    let P : ℕ → Type 0 = λ y. Within fuel y 0 t in
    subst P room (fuel_shift t units fuel kept 0 w paid le)
fits_at t false units kept levels fuel depth met room deep w paid le =
    let some : depth + deepest 0 t ≤ deepest_depth = let r : depth + levels ≤ deepest_depth = room in omega arith in
    depth_shift t units fuel kept depth 0 w paid le met some

module _ (M : MachineModel) (W : WorldModel) (moving writable : Tree → Bool) (quiet : M.Place → Bool) (rebased : Tree → Tree → ℕ → Tree)
    (modest : Modest M moving writable quiet) (fits : Fits W moving writable rebased) where
  proper : (call : M.Call) (t : Run M.Call M.Item) → Follows M (M.start call) Nothing t → at_came t ≡ false → Proper moving writable 0 t
  proper call t f a = proper_of M moving writable quiet modest t (M.start call) Nothing 0 (λ is. refl) a f

  leaves : (t : Run M.Call M.Item) (s : W.State) → Proper moving writable 0 t → after_run W s t ≡ moved W s (put_by t) (bumped t)
  leaves t s q =
      ap (λ y. after_run W y t) (sym (fits.bump_none s))
      ∙ effect W moving writable rebased fits t s [] 0 q tt
      ∙ ap (λ y. moved W s y (0 + bumped t)) (append-nil (put_by t))
      ∙ ap (moved W s (put_by t)) (zero-add (bumped t))

  outcome_stands : (call : M.Call) (kept : ℕ) (points : List (Point M.Item)) (ended : Ending) (summary : CallSummary) (s : W.State) (fuel depth : ℕ) →
      OutcomeRun M rebased call kept points ended summary → HoldsAt W s fuel depth kept summary →
      PlainRunTo M W rebased fuel depth (begun M W call s) (record { ended = ended; state = moved W s summary.puts summary.calls; points = points; summary = summary; wanting = [] })
  outcome_stands call kept points ended summary s fuel depth o h =
      let q = proper call o.run o.follows o.no_at in
      let A : W.State → Type 0 = λ y. Agrees W y o.run in
      let agrees : Agrees W s o.run = subst A (fits.bump_none s)
      (sound W moving writable rebased fits o.run s [] 0 q tt o.hears (said_holds W s summary.read (read_by rebased [] 0 o.run) o.said h.answers)) in
      let R : Bool → Type 0 = λ b. HasRoom b kept summary.levels depth in
      let le : cost o.run ≤ fuel = let a = o.units_are in let b = h.covered in omega arith in
      let within = fits_at o.run (met_deep o.run) summary.units kept summary.levels fuel depth refl (subst R o.room_is h.room) o.levels_are o.within o.paid le in
      let all : fuel ≡ fuel - 0 = omega arith in
      let P : ℕ → Type 0 = λ y. Within y depth 0 o.run in
      let deep : summary.levels ≡ max 0 (deepest 0 o.run) = let a = o.levels_are in omega arith in
      record {
        run = o.run;
        plain = record { follows = o.follows; agrees = agrees; within = subst P all within };
        ended_is = o.ended_is;
        state_is = ap (λ y. moved W s y summary.calls) o.puts_are ∙ ap (moved W s (put_by o.run)) o.calls_are ∙ sym (leaves o.run s q);
        points_are = o.points_are;
        wanting_are = sym (none_wanting M o.run (M.start call) Nothing o.follows (paid_ends o.run o.paid));
        units_are = o.units_are ∙ sym (zero-add (cost o.run));
        levels_are = deep;
        room_is = o.room_is;
        at_is = o.at_is ∙ sym o.no_at;
        adds = λ none. record {
          read_is = o.read_is;
          puts_are = o.puts_are ∙ sym (append-nil (put_by o.run));
          calls_are = o.calls_are ∙ sym (zero-add (bumped o.run));
        };
      }

  pub outcomes_stand : OutcomesStand M W rebased
  outcomes_stand call kept points ended summary s fuel depth o h = ∥∥₁_map o (λ r. outcome_stands call kept points ended summary s fuel depth r h)

  run_is_outcome : (call : M.Call) (s : W.State) (fuel depth : ℕ) (z : Finish M W) → PlainRunTo M W rebased fuel depth (begun M W call s) z →
      z.summary.at_told ≡ false → (z.ended ≡ ByBudget → ⊥) → OutcomeRun M rebased call depth z.points z.ended z.summary × Holds W s z.summary.read
  run_is_outcome call s fuel depth z x none paid =
      let no_at : at_came x.run ≡ false = sym x.at_is ∙ none in
      let q = proper call x.run x.plain.follows no_at in
      let A : W.State → Type 0 = λ y. Agrees W y x.run in
      let agrees = subst A (sym (fits.bump_none s)) x.plain.agrees in
      let paid_up = paid_of M x.run (M.start call) Nothing x.plain.follows (λ is. paid (x.ended_is ∙ is)) in
      let read = complete W moving writable rebased fits x.run s [] 0 q tt agrees in
      let now = x.adds none in
      let enough : cost x.run ≤ z.summary.units = let a = x.units_are in omega arith in
      let says = merged_says W s (read_by rebased [] 0 x.run) read in
      let deep : z.summary.levels ≡ deepest 0 x.run = let a = x.levels_are in omega arith in
      let AllSaidIn : List Pair → Type 0 = λ y. AllSaid y (read_by rebased [] 0 x.run) in
      let HoldsIn : List Pair → Type 0 = Holds W s in (
        record {
          run = x.run;
          follows = x.plain.follows;
          hears = hears_itself W moving writable rebased fits x.run s [] 0 q tt agrees;
          within = fuel_shift x.run (fuel - 0) z.summary.units depth 0 x.plain.within paid_up enough;
          paid = paid_up;
          no_at = no_at;
          points_are = x.points_are;
          ended_is = x.ended_is;
          read_is = now.read_is;
          said = subst AllSaidIn (sym now.read_is) says;
          puts_are = now.puts_are ∙ append-nil (put_by x.run);
          calls_are = now.calls_are ∙ zero-add (bumped x.run);
          units_are = x.units_are ∙ zero-add (cost x.run);
          levels_are = deep;
          room_is = x.room_is;
          at_is = none;
        },
        subst HoldsIn (sym now.read_is) (merged_holds W s [] (read_by rebased [] 0 x.run) tt read),
      )

  pub runs_are_outcomes : RunsAreOutcomes M W rebased
  runs_are_outcomes call s fuel depth z x none paid = (
    ∥∥₁_map x (λ r. (run_is_outcome call s fuel depth z r none paid).0),
    ∥∥₁_elim x (Holds-prop W s z.summary.read) (λ r. (run_is_outcome call s fuel depth z r none paid).1),
  )

-- a finish takes no more fuel than there is, and comes no deeper than the limit
run_units_le : (M : MachineModel) (W : WorldModel) (rebased : Tree → Tree → ℕ → Tree) (fuel depth : ℕ) (a : Moment M W) (z : Finish M W) →
    PlainRunTo M W rebased fuel depth a z → a.summary.units ≤ fuel → z.summary.units ≤ fuel
run_units_le M W rebased fuel depth a z x le =
    let c = cost_le x.run (fuel - a.summary.units) depth a.frames x.plain.within in
    let e = x.units_are in
    omega arith

pub units_le : (M : MachineModel) (W : WorldModel) (rebased : Tree → Tree → ℕ → Tree) (fuel depth : ℕ) (a : Moment M W) (z : Finish M W) →
    Comes M W rebased fuel depth a z → a.summary.units ≤ fuel → z.summary.units ≤ fuel
units_le M W rebased fuel depth a z x le = ∥∥₁_elim x le_prop (λ r. run_units_le M W rebased fuel depth a z r le)

run_levels_le : (M : MachineModel) (W : WorldModel) (rebased : Tree → Tree → ℕ → Tree) (fuel depth : ℕ) (a : Moment M W) (z : Finish M W) →
    PlainRunTo M W rebased fuel depth a z → depth ≤ deepest_depth → depth + a.summary.levels ≤ deepest_depth → depth + z.summary.levels ≤ deepest_depth
run_levels_le M W rebased fuel depth a z x le so_far =
    let c = deepest_le x.run (fuel - a.summary.units) depth a.frames le x.plain.within in
    let e = x.levels_are in
    omega arith

pub levels_le : (M : MachineModel) (W : WorldModel) (rebased : Tree → Tree → ℕ → Tree) (fuel depth : ℕ) (a : Moment M W) (z : Finish M W) →
    Comes M W rebased fuel depth a z → depth ≤ deepest_depth → depth + a.summary.levels ≤ deepest_depth → depth + z.summary.levels ≤ deepest_depth
levels_le M W rebased fuel depth a z x le so_far = ∥∥₁_elim x le_prop (λ r. run_levels_le M W rebased fuel depth a z r le so_far)

-- one that ended for want of fuel took all there was
run_all_spent : (M : MachineModel) (W : WorldModel) (rebased : Tree → Tree → ℕ → Tree) (fuel depth : ℕ) (a : Moment M W) (z : Finish M W) →
    PlainRunTo M W rebased fuel depth a z → z.ended ≡ ByBudget → fuel ≤ z.summary.units
run_all_spent M W rebased fuel depth a z x is =
    let c = spent_all x.run (fuel - a.summary.units) depth a.frames x.plain.within (sym x.ended_is ∙ is) in
    let e = x.units_are in
    omega arith

pub all_spent : (M : MachineModel) (W : WorldModel) (rebased : Tree → Tree → ℕ → Tree) (fuel depth : ℕ) (a : Moment M W) (z : Finish M W) →
    Comes M W rebased fuel depth a z → z.ended ≡ ByBudget → fuel ≤ z.summary.units
all_spent M W rebased fuel depth a z x is = ∥∥₁_elim x le_prop (λ r. run_all_spent M W rebased fuel depth a z r is)

-- and so a nested call that ended for want of fuel left nothing
pub nothing_left : (M : MachineModel) (W : WorldModel) (rebased : Tree → Tree → ℕ → Tree) (fuel depth : ℕ) (c : M.Call) (s : W.State) (z : Finish M W) →
    Comes M W rebased fuel depth (begun M W c s) z → z.ended ≡ ByBudget → fuel - z.summary.units ≡ 0
nothing_left M W rebased fuel depth c s z x is =
    let all = all_spent M W rebased fuel depth (begun M W c s) z x is in
    omega arith
