-- A nested call is joined.
use Rattle.std.proofs.Common.{◌≡◌, ℕ, ◌+◌, ◌-◌, ◌<◌, ◌||◌, Bool, true, false, max, List, [], ◌∷◌, ◌++◌, map, refl, sym, ap, ◌∙◌, subst, append_assoc, append-nil, arith}
use Rattle.std.proofs.Math.Nat.{add-zero, zero-add}
use Rattle.std.proofs.Math.Logic.{∥∥₁_map, ∥∥₁_map₂}
use Rattle.std.proofs.lemmas.Bool.{or_parts}
use Rattle.kept_values.specs.Trees.{Tree, Pair}
use Rattle.trace_arena.specs.Points.{within}
use Rattle.asking_core.specs.Worlds.{WorldModel}
use Rattle.asking_core.specs.Machines.{MachineModel, Returned, Enter}
use Rattle.asking_core.specs.Runs.{Run, Ends, Spent, Calls, Ending, ByLeave, ByEnd, ByBudget, Back, Follows, Agrees, Within, ending, cost, bumped, put_by, at_came, met_deep, deepest, deepest_depth, after_run, unpaid, unpaid_back}
use Rattle.asking_core.specs.Footprints.{read_by, carried, merged}
use Rattle.asking_core.proofs.MergeLaws.{merged-append}
use Rattle.kept_outcomes.specs.Traces.{traced}
use Rattle.kept_outcomes.specs.Moments.{Moment, Finish, Adds, PlainRunTo, Comes, Leads, begun, joined, come_back, stepped, finished}
use Rattle.kept_outcomes.proofs.MergedLists.{carried-merged}
use Rattle.kept_outcomes.proofs.Steps.{off, RunsLead}

or_or : (a b c : Bool) → ((a || b) || c) ≡ (a || (b || c))
or_or true b c = refl
or_or false b c = refl

left_off : (a b : Bool) → (a || b) ≡ false → b ≡ false
left_off true b is = cc
left_off false b is = is

module _ (M : MachineModel) (W : WorldModel) (rebased : Tree → Tree → ℕ → Tree) (fuel depth : ℕ) where
  -- A run from a moment that begins with a nested call: the child's run, and what follows it.
  pub entered : (a : Moment M W) (c : M.Call) (kid : Finish M W) (z : Finish M W) (t : Run M.Call M.Item) →
      M.move_at a.place a.given ≡ Enter c → depth + a.frames < deepest_depth →
      (x : PlainRunTo M W rebased (fuel - a.summary.units) (depth + a.frames + 1) (begun M W c (W.after_enter a.state)) kid) →
      Back (ending x.run) t (Follows M (M.after a.place a.given) Returned t) →
      Agrees W (W.after_leave kid.state) t →
      Within (fuel - a.summary.units - kid.summary.units) depth a.frames t →
      z.ended ≡ ending t → z.state ≡ after_run W (W.after_leave kid.state) t →
      z.points ≡ (a.points ++ map (within a.last) kid.points) ++ traced a.last t →
      z.wanting ≡ unpaid_back (ending x.run) kid.wanting (M.frames_at (M.after a.place a.given)) (unpaid M (M.after a.place a.given) Returned t) →
      z.summary.units ≡ (a.summary.units + kid.summary.units) + cost t →
      z.summary.levels ≡ max (max a.summary.levels (a.frames + 1 + kid.summary.levels)) (deepest a.frames t) →
      z.summary.no_room ≡ ((a.summary.no_room || kid.summary.no_room) || met_deep t) →
      z.summary.at_told ≡ ((a.summary.at_told || kid.summary.at_told) || at_came t) →
      (z.summary.at_told ≡ false → Adds rebased (joined rebased a.frames a.summary kid.summary) z.summary t) →
      PlainRunTo M W rebased fuel depth a z
  entered a c kid z t is room x back agrees fits ended state points wanting units levels no_room at_told adds =
      let Here : ℕ → Type 0 = λ y. Within y (depth + a.frames + 1) 0 x.run in
      let all : fuel - a.summary.units - 0 ≡ fuel - a.summary.units = omega arith in
      let units_e : kid.summary.units ≡ cost x.run = x.units_are ∙ zero-add (cost x.run) in
      let Rest : ℕ → Type 0 = λ y. Within (fuel - a.summary.units - y) depth a.frames t in
      let Told_so : W.State → Type 0 = λ y. Agrees W (W.after_leave y) t in
      let levels_e : kid.summary.levels ≡ deepest 0 x.run = (let is : kid.summary.levels ≡ max 0 (deepest 0 x.run) = x.levels_are in omega arith) in
      let room_e : kid.summary.no_room ≡ met_deep x.run = x.room_is in
      let at_e : kid.summary.at_told ≡ at_came x.run = x.at_is in
      let sum : (a.summary.units + kid.summary.units) + cost t ≡ a.summary.units + (cost x.run + cost t) = omega arith in
      let deep : max (max a.summary.levels (a.frames + 1 + kid.summary.levels)) (deepest a.frames t)
      ≡ max a.summary.levels (max (a.frames + 1 + deepest 0 x.run) (deepest a.frames t)) = omega arith in
      record {
        run = Calls c x.run t;
        plain = record {
          follows = (is, x.plain.follows, back);
          agrees = (x.plain.agrees, subst Told_so x.state_is agrees);
          within = (room, subst Here all x.plain.within, subst Rest units_e fits);
        };
        ended_is = ended;
        state_is = state ∙ ap (λ y. after_run W (W.after_leave y) t) x.state_is;
        points_are = points
            ∙ append_assoc a.points (map (within a.last) kid.points) (traced a.last t)
            ∙ ap (λ y. a.points ++ (map (within a.last) y ++ traced a.last t)) x.points_are;
        wanting_are = wanting
            ∙ ap (λ y. unpaid_back (ending x.run) y (M.frames_at (M.after a.place a.given)) (unpaid M (M.after a.place a.given) Returned t)) x.wanting_are;
        units_are = units ∙ sum;
        levels_are = levels ∙ deep;
        room_is = no_room ∙ or_or a.summary.no_room kid.summary.no_room (met_deep t) ∙ ap (λ y. a.summary.no_room || (y || met_deep t)) room_e;
        at_is = at_told ∙ or_or a.summary.at_told kid.summary.at_told (at_came t) ∙ ap (λ y. a.summary.at_told || (y || at_came t)) at_e;
        adds = λ none.
            let calm = or_parts (a.summary.at_told || kid.summary.at_told) (at_came t) (sym at_told ∙ none) in
            let mine = adds none in
            let theirs = x.adds (left_off a.summary.at_told kid.summary.at_told calm.0) in
            let calls_e : kid.summary.calls ≡ bumped x.run = theirs.calls_are ∙ zero-add (bumped x.run) in
            let puts_e : kid.summary.puts ≡ put_by x.run = theirs.puts_are ∙ append-nil (put_by x.run) in
            let read_j = off (a.summary.at_told || kid.summary.at_told) a.summary.read (merged a.summary.read (carried rebased a.summary.puts a.summary.calls kid.summary.read)) calm.0 in
            let puts_j = off (a.summary.at_told || kid.summary.at_told) a.summary.puts (kid.summary.puts ++ a.summary.puts) calm.0 ∙ ap (λ y. y ++ a.summary.puts) puts_e in
            let calls_j = off (a.summary.at_told || kid.summary.at_told) a.summary.calls (a.summary.calls + kid.summary.calls) calm.0 ∙ ap (λ y. a.summary.calls + y) calls_e in
            let read_t : List Pair = read_by rebased (put_by x.run ++ a.summary.puts) (a.summary.calls + bumped x.run) t in
            let total : a.summary.calls + bumped x.run + bumped t ≡ a.summary.calls + (bumped x.run + bumped t) = omega arith in
            record {
              read_is = mine.read_is
                  ∙ ap (λ y. merged y (read_by rebased (joined rebased a.frames a.summary kid.summary).puts (joined rebased a.frames a.summary kid.summary).calls t)) read_j
                  ∙ ap (λ y. merged (merged a.summary.read (carried rebased a.summary.puts a.summary.calls kid.summary.read)) (read_by rebased y (joined rebased a.frames a.summary kid.summary).calls t)) puts_j
                  ∙ ap (λ y. merged (merged a.summary.read (carried rebased a.summary.puts a.summary.calls kid.summary.read)) (read_by rebased (put_by x.run ++ a.summary.puts) y t)) calls_j
                  ∙ ap (λ y. merged (merged a.summary.read (carried rebased a.summary.puts a.summary.calls y)) read_t) theirs.read_is
                  ∙ ap (λ y. merged y read_t) (carried-merged rebased a.summary.puts a.summary.calls a.summary.read [] (read_by rebased [] 0 x.run))
                  ∙ sym (merged-append a.summary.read (carried rebased a.summary.puts a.summary.calls (read_by rebased [] 0 x.run)) read_t);
              puts_are = mine.puts_are ∙ ap (λ y. put_by t ++ y) puts_j ∙ sym (append_assoc (put_by t) (put_by x.run) a.summary.puts);
              calls_are = mine.calls_are ∙ ap (λ y. y + bumped t) calls_j ∙ total;
            };
      }

  -- it came back, and the caller goes on
  pub runs_enter : (a : Moment M W) (c : M.Call) (kid : Finish M W) → M.move_at a.place a.given ≡ Enter c → depth + a.frames < deepest_depth →
      PlainRunTo M W rebased (fuel - a.summary.units) (depth + a.frames + 1) (begun M W c (W.after_enter a.state)) kid → kid.ended ≡ ByLeave →
      RunsLead M W rebased fuel depth a (come_back rebased (stepped a) kid)
  runs_enter a c kid is room x left z y =
      let ends : ByLeave ≡ ending x.run = sym left ∙ x.ended_is in
      let Behind : Ending → Type 0 = λ e. Back e y.run (Follows M (M.after a.place a.given) Returned y.run) in
      let fuel_e : fuel - (a.summary.units + kid.summary.units) ≡ fuel - a.summary.units - kid.summary.units = omega arith in
      let Fits : ℕ → Type 0 = λ n. Within n depth a.frames y.run in
      entered a c kid z y.run is room x (subst Behind ends y.plain.follows) y.plain.agrees (subst Fits fuel_e y.plain.within)
      y.ended_is y.state_is y.points_are
      (y.wanting_are ∙ ap (λ e. unpaid_back e kid.wanting (M.frames_at (M.after a.place a.given)) (unpaid M (M.after a.place a.given) Returned y.run)) ends)
      y.units_are y.levels_are y.room_is y.at_is y.adds

  or_false : (b : Bool) → b ≡ (b || false)
  or_false true = refl
  or_false false = refl

  -- it ended all, and so does its caller
  pub runs_end_within : (a : Moment M W) (c : M.Call) (kid : Finish M W) → M.move_at a.place a.given ≡ Enter c → depth + a.frames < deepest_depth →
      PlainRunTo M W rebased (fuel - a.summary.units) (depth + a.frames + 1) (begun M W c (W.after_enter a.state)) kid → kid.ended ≡ ByEnd →
      PlainRunTo M W rebased fuel depth a (finished (come_back rebased (stepped a) kid) ByEnd [])
  runs_end_within a c kid is room x left =
      let ends : ByEnd ≡ ending x.run = sym left ∙ x.ended_is in
      let none : Run M.Call M.Item = Ends in
      let Behind : Ending → Type 0 = λ e. Back e none (Follows M (M.after a.place a.given) Returned none) in
      let sum : a.summary.units + kid.summary.units ≡ a.summary.units + kid.summary.units + 0 = omega arith in
      let deep : max a.summary.levels (a.frames + 1 + kid.summary.levels) ≡ max (max a.summary.levels (a.frames + 1 + kid.summary.levels)) 0 = omega arith in
      entered a c kid (finished (come_back rebased (stepped a) kid) ByEnd []) none is room x (subst Behind ends refl) tt tt
      refl refl (sym (append-nil (a.points ++ map (within a.last) kid.points)))
      (ap (λ e. unpaid_back e kid.wanting (M.frames_at (M.after a.place a.given)) []) ends)
      sum deep (or_false (a.summary.no_room || kid.summary.no_room)) (or_false (a.summary.at_told || kid.summary.at_told))
      (λ calm. record { read_is = refl; puts_are = refl; calls_are = sym (add-zero (joined rebased a.frames a.summary kid.summary).calls) })

  -- fuel was wanting within it, and so it is in its caller
  pub runs_spent_within : (a : Moment M W) (c : M.Call) (kid : Finish M W) → M.move_at a.place a.given ≡ Enter c → depth + a.frames < deepest_depth →
      PlainRunTo M W rebased (fuel - a.summary.units) (depth + a.frames + 1) (begun M W c (W.after_enter a.state)) kid → kid.ended ≡ ByBudget →
      fuel - a.summary.units - kid.summary.units ≡ 0 →
      PlainRunTo M W rebased fuel depth a (finished (come_back rebased (stepped a) kid) ByBudget (kid.wanting ++ M.frames_at (M.after a.place a.given) ∷ []))
  runs_spent_within a c kid is room x left spent =
      let ends : ByBudget ≡ ending x.run = sym left ∙ x.ended_is in
      let none : Run M.Call M.Item = Spent in
      let Behind : Ending → Type 0 = λ e. Back e none (Follows M (M.after a.place a.given) Returned none) in
      let frames : M.Frames = M.frames_at (M.after a.place a.given) in
      let sum : a.summary.units + kid.summary.units ≡ a.summary.units + kid.summary.units + 0 = omega arith in
      let deep : max a.summary.levels (a.frames + 1 + kid.summary.levels) ≡ max (max a.summary.levels (a.frames + 1 + kid.summary.levels)) 0 = omega arith in
      entered a c kid (finished (come_back rebased (stepped a) kid) ByBudget (kid.wanting ++ frames ∷ [])) none is room x (subst Behind ends refl) tt spent
      refl refl (sym (append-nil (a.points ++ map (within a.last) kid.points)))
      (ap (λ e. unpaid_back e kid.wanting frames (unpaid M (M.after a.place a.given) Returned none)) ends)
      sum deep (or_false (a.summary.no_room || kid.summary.no_room)) (or_false (a.summary.at_told || kid.summary.at_told))
      (λ calm. record { read_is = refl; puts_are = refl; calls_are = sym (add-zero (joined rebased a.frames a.summary kid.summary).calls) })

  -- the same, where it is not said which runs these are
  pub leads_enter : (a : Moment M W) (c : M.Call) (kid : Finish M W) → M.move_at a.place a.given ≡ Enter c → depth + a.frames < deepest_depth →
      Comes M W rebased (fuel - a.summary.units) (depth + a.frames + 1) (begun M W c (W.after_enter a.state)) kid → kid.ended ≡ ByLeave →
      Leads M W rebased fuel depth a (come_back rebased (stepped a) kid)
  leads_enter a c kid is room x left z y = ∥∥₁_map₂ x y (λ r t. runs_enter a c kid is room r left z t)

  pub comes_end_within : (a : Moment M W) (c : M.Call) (kid : Finish M W) → M.move_at a.place a.given ≡ Enter c → depth + a.frames < deepest_depth →
      Comes M W rebased (fuel - a.summary.units) (depth + a.frames + 1) (begun M W c (W.after_enter a.state)) kid → kid.ended ≡ ByEnd →
      Comes M W rebased fuel depth a (finished (come_back rebased (stepped a) kid) ByEnd [])
  comes_end_within a c kid is room x left = ∥∥₁_map x (λ r. runs_end_within a c kid is room r left)

  pub comes_spent_within : (a : Moment M W) (c : M.Call) (kid : Finish M W) → M.move_at a.place a.given ≡ Enter c → depth + a.frames < deepest_depth →
      Comes M W rebased (fuel - a.summary.units) (depth + a.frames + 1) (begun M W c (W.after_enter a.state)) kid → kid.ended ≡ ByBudget →
      fuel - a.summary.units - kid.summary.units ≡ 0 →
      Comes M W rebased fuel depth a (finished (come_back rebased (stepped a) kid) ByBudget (kid.wanting ++ M.frames_at (M.after a.place a.given) ∷ []))
  comes_spent_within a c kid is room x left spent = ∥∥₁_map x (λ r. runs_spent_within a c kid is room r left spent)
