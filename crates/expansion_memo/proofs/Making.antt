-- How many records a run makes: move by move, from its end on.
use Rattle.std.proofs.Common.{◌≡◌, ℕ, ◌+◌, ◌-◌, ◌<◌, ◌≤◌, Bool, true, false, cond, min, List, [], ◌∷◌, ◌++◌, Option, Some, None, map, refl, sym, ap, ◌∙◌, subst, arith}
use Rattle.std.proofs.Math.Nat.{zero-add}
use Rattle.std.proofs.Math.Logic.{∥∥₁_map, ∥∥₁_map₂, ∥∥₁_elim}
use Rattle.std.specs.Coded.{le_prop}
use Rattle.kept_values.specs.Trees.{Tree}
use Rattle.trace_arena.specs.Points.{own}
use Rattle.asking_core.specs.Worlds.{WorldModel}
use Rattle.asking_core.specs.Machines.{MachineModel, EmitsOnceACount, Told, Nothing, Answered, Returned, TooDeep, Ask, Put, Count, Bump, Emit, Deepen, Rise, Enter, At, Leave, End, is_count}
use Rattle.asking_core.specs.Runs.{Run, Leaves, Ends, Spent, Asks, Puts, Counts, Bumps, Emits, Moves, Deepens, Rises, Refused, Calls, Barred, Ending, ByLeave, ByEnd, ByBudget, Back, Follows, Agrees, Within, Plain, ending, cost, after_run, deepest_depth}
use Rattle.asking_core.proofs.OnePlainRun.{same_run}
use Rattle.kept_outcomes.specs.Moments.{Moment, Finish, PlainRunTo, Comes, begun, stepped, asked, put, counted, call_counted, item_emitted, at_said, deepened, risen, turned_away, come_back}
use Rattle.kept_outcomes.proofs.Stands.{nothing_left}
use Rattle.expansion_memo.specs.Kept.{KeptOutcome}
use Rattle.expansion_memo.specs.Running.{HoldsSomewhere}
use Rattle.expansion_memo.specs.Records.{CallMakes, makes_none, makes_some, Shares, MakesAtMost, RunMaking, Makes, LeadsMaking, owed}
use Rattle.expansion_memo.proofs.Walking.{same_moment}

-- a nested call makes no more than it costs
call_le : {C : Type 0} {call_of : Tree → C} {Holds : Tree → Type 0} {c : C} {paid made : ℕ} → CallMakes call_of Holds c paid made → made ≤ paid
call_le (makes_none none) = omega arith
call_le (makes_some tree is none le) = le

module _ (W : WorldModel) {C I : Type 0} (call_of : Tree → C) (kept : List (Option KeptOutcome)) (depth : ℕ) where
  -- what makes at most so many makes at most more
  pub makes_fewer : (t : Run C I) (s : W.State) (fuel frames m n : ℕ) → m ≤ n → MakesAtMost W call_of kept depth s fuel frames t n → MakesAtMost W call_of kept depth s fuel frames t m
  makes_fewer Leaves s fuel frames m n le x = (let none : n ≡ 0 = x in omega arith)
  makes_fewer Ends s fuel frames m n le x = (let none : n ≡ 0 = x in omega arith)
  makes_fewer Spent s fuel frames m n le x = (let none : n ≡ 0 = x in omega arith)
  makes_fewer (Asks key value t) s fuel frames m n le x = makes_fewer t s fuel frames m n le x
  makes_fewer (Puts key value t) s fuel frames m n le x = makes_fewer t (W.after_put s key value) fuel frames m n le x
  makes_fewer (Counts t) s fuel frames m n le x = makes_fewer t s (fuel - 1) frames (m - 1) (n - 1) (omega arith) x
  makes_fewer (Bumps t) s fuel frames m n le x = makes_fewer t (W.after_bump s 1) fuel frames m n le x
  makes_fewer (Emits item t) s fuel frames m n le x = makes_fewer t s fuel frames m n le x
  makes_fewer (Moves k t) s fuel frames m n le x = makes_fewer t (W.after_at s k) fuel frames m n le x
  makes_fewer (Deepens t) s fuel frames m n le x = makes_fewer t s fuel (frames + 1) m n le x
  makes_fewer (Rises t) s fuel frames m n le x = makes_fewer t s fuel (frames - 1) m n le x
  makes_fewer (Refused t) s fuel frames m n le x = makes_fewer t s fuel frames m n le x
  makes_fewer (Calls c child t) s fuel frames m n le x = record {
    inner = x.inner;
    within = x.within;
    behind = makes_fewer t (W.after_leave (after_run W (W.after_enter s) child)) (fuel - cost child) frames (m - x.inner) (n - x.inner) (omega arith) x.behind;
  }
  makes_fewer (Barred c t) s fuel frames m n le x = makes_fewer t s fuel frames m n le x

  -- every run makes at least none
  pub makes_zero : (t : Run C I) (s : W.State) (fuel frames n : ℕ) → n ≡ 0 → MakesAtMost W call_of kept depth s fuel frames t n
  makes_zero Leaves s fuel frames n none = none
  makes_zero Ends s fuel frames n none = none
  makes_zero Spent s fuel frames n none = none
  makes_zero (Asks key value t) s fuel frames n none = makes_zero t s fuel frames n none
  makes_zero (Puts key value t) s fuel frames n none = makes_zero t (W.after_put s key value) fuel frames n none
  makes_zero (Counts t) s fuel frames n none = makes_zero t s (fuel - 1) frames (n - 1) (omega arith)
  makes_zero (Bumps t) s fuel frames n none = makes_zero t (W.after_bump s 1) fuel frames n none
  makes_zero (Emits item t) s fuel frames n none = makes_zero t s fuel frames n none
  makes_zero (Moves k t) s fuel frames n none = makes_zero t (W.after_at s k) fuel frames n none
  makes_zero (Deepens t) s fuel frames n none = makes_zero t s fuel (frames + 1) n none
  makes_zero (Rises t) s fuel frames n none = makes_zero t s fuel (frames - 1) n none
  makes_zero (Refused t) s fuel frames n none = makes_zero t s fuel frames n none
  makes_zero (Calls c child t) s fuel frames n none = record {
    inner = 0;
    within = makes_none refl;
    behind = makes_zero t (W.after_leave (after_run W (W.after_enter s) child)) (fuel - cost child) frames (n - 0) (omega arith);
  }
  makes_zero (Barred c t) s fuel frames n none = makes_zero t s fuel frames n none

  -- none makes more than it costs
  pub makes_le : (t : Run C I) (s : W.State) (fuel frames n : ℕ) → MakesAtMost W call_of kept depth s fuel frames t n → n ≤ cost t
  makes_le Leaves s fuel frames n x = (let none : n ≡ 0 = x in omega arith)
  makes_le Ends s fuel frames n x = (let none : n ≡ 0 = x in omega arith)
  makes_le Spent s fuel frames n x = (let none : n ≡ 0 = x in omega arith)
  makes_le (Asks key value t) s fuel frames n x = makes_le t s fuel frames n x
  makes_le (Puts key value t) s fuel frames n x = makes_le t (W.after_put s key value) fuel frames n x
  makes_le (Counts t) s fuel frames n x = (let rest = makes_le t s (fuel - 1) frames (n - 1) x in omega arith)
  makes_le (Bumps t) s fuel frames n x = makes_le t (W.after_bump s 1) fuel frames n x
  makes_le (Emits item t) s fuel frames n x = makes_le t s fuel frames n x
  makes_le (Moves k t) s fuel frames n x = makes_le t (W.after_at s k) fuel frames n x
  makes_le (Deepens t) s fuel frames n x = makes_le t s fuel (frames + 1) n x
  makes_le (Rises t) s fuel frames n x = makes_le t s fuel (frames - 1) n x
  makes_le (Refused t) s fuel frames n x = makes_le t s fuel frames n x
  makes_le (Calls c child t) s fuel frames n x =
      let mine = call_le x.within in
      let rest = makes_le t (W.after_leave (after_run W (W.after_enter s) child)) (fuel - cost child) frames (n - x.inner) x.behind in
      omega arith
  makes_le (Barred c t) s fuel frames n x = makes_le t s fuel frames n x

module _ (M : MachineModel) (W : WorldModel) (call_of : Tree → M.Call) (depth : ℕ) (kept : List (Option KeptOutcome)) (fuel : ℕ) where
  making_less : (a : Moment M W) (m n : ℕ) → m ≤ n → RunMaking M W call_of kept fuel depth a n → RunMaking M W call_of kept fuel depth a m
  making_less a m n le x = record { run = x.run; plain = x.plain; makes = makes_fewer W call_of kept depth x.run a.state (fuel - a.summary.units) a.frames m n le x.makes }

  -- what each move makes
  making_ask : (a : Moment M W) (key : Tree) → M.move_at a.place a.given ≡ Ask key → (n : ℕ) → RunMaking M W call_of kept fuel depth (asked (stepped a) key) n → RunMaking M W call_of kept fuel depth a n
  making_ask a key is n x = record {
    run = Asks key (W.answer a.state key) x.run;
    plain = record { follows = (is, x.plain.follows); agrees = (refl, x.plain.agrees); within = x.plain.within };
    makes = x.makes;
  }

  making_put : (a : Moment M W) (key value : Tree) → M.move_at a.place a.given ≡ Put key value → (n : ℕ) → RunMaking M W call_of kept fuel depth (put (stepped a) key value) n → RunMaking M W call_of kept fuel depth a n
  making_put a key value is n x = record {
    run = Puts key value x.run;
    plain = record { follows = (is, x.plain.follows); agrees = x.plain.agrees; within = x.plain.within };
    makes = x.makes;
  }

  making_bump : (a : Moment M W) → M.move_at a.place a.given ≡ Bump → (n : ℕ) → RunMaking M W call_of kept fuel depth (call_counted (stepped a)) n → RunMaking M W call_of kept fuel depth a n
  making_bump a is n x = record {
    run = Bumps x.run;
    plain = record { follows = (is, x.plain.follows); agrees = x.plain.agrees; within = x.plain.within };
    makes = x.makes;
  }

  making_emit : (a : Moment M W) (item : M.Item) → M.move_at a.place a.given ≡ Emit item → (n : ℕ) → RunMaking M W call_of kept fuel depth (item_emitted (stepped a) item) n → RunMaking M W call_of kept fuel depth a n
  making_emit a item is n x = record {
    run = Emits item x.run;
    plain = record { follows = (is, x.plain.follows); agrees = x.plain.agrees; within = x.plain.within };
    makes = x.makes;
  }

  making_at : (a : Moment M W) (k : ℕ) → M.move_at a.place a.given ≡ At k → (n : ℕ) → RunMaking M W call_of kept fuel depth (at_said (stepped a) k) n → RunMaking M W call_of kept fuel depth a n
  making_at a k is n x = record {
    run = Moves k x.run;
    plain = record { follows = (is, x.plain.follows); agrees = x.plain.agrees; within = x.plain.within };
    makes = x.makes;
  }

  making_deepen : (a : Moment M W) → M.move_at a.place a.given ≡ Deepen → depth + a.frames < deepest_depth → (n : ℕ) → RunMaking M W call_of kept fuel depth (deepened (stepped a)) n → RunMaking M W call_of kept fuel depth a n
  making_deepen a is room n x = record {
    run = Deepens x.run;
    plain = record { follows = (is, x.plain.follows); agrees = x.plain.agrees; within = (room, x.plain.within) };
    makes = x.makes;
  }

  making_rise : (a : Moment M W) → M.move_at a.place a.given ≡ Rise → (n : ℕ) → RunMaking M W call_of kept fuel depth (risen (stepped a)) n → RunMaking M W call_of kept fuel depth a n
  making_rise a is n x = record {
    run = Rises x.run;
    plain = record { follows = (is, x.plain.follows); agrees = x.plain.agrees; within = x.plain.within };
    makes = x.makes;
  }

  making_no_frame : (a : Moment M W) → M.move_at a.place a.given ≡ Deepen → deepest_depth ≤ depth + a.frames → (n : ℕ) → RunMaking M W call_of kept fuel depth (turned_away (stepped a)) n → RunMaking M W call_of kept fuel depth a n
  making_no_frame a is full n x = record {
    run = Refused x.run;
    plain = record { follows = (is, x.plain.follows); agrees = x.plain.agrees; within = (full, x.plain.within) };
    makes = x.makes;
  }

  making_no_call : (a : Moment M W) (c : M.Call) → M.move_at a.place a.given ≡ Enter c → deepest_depth ≤ depth + a.frames → (n : ℕ) → RunMaking M W call_of kept fuel depth (turned_away (stepped a)) n → RunMaking M W call_of kept fuel depth a n
  making_no_call a c is full n x = record {
    run = Barred c x.run;
    plain = record { follows = (is, x.plain.follows); agrees = x.plain.agrees; within = (full, x.plain.within) };
    makes = x.makes;
  }

  -- a unit of fuel is one record more
  making_count : (a : Moment M W) → M.move_at a.place a.given ≡ Count → a.summary.units < fuel → (m n : ℕ) → m - 1 ≤ n →
      RunMaking M W call_of kept fuel depth (counted (stepped a)) n → RunMaking M W call_of kept fuel depth a m
  making_count a is left m n le x =
      let e : fuel - (a.summary.units + 1) ≡ fuel - a.summary.units - 1 = omega arith in
      let P : ℕ → Type 0 = λ y. Within y depth a.frames x.run in
      let Q : ℕ → Type 0 = λ y. MakesAtMost W call_of kept depth a.state y a.frames x.run (m - 1) in
      let some : 0 < fuel - a.summary.units = omega arith in
      record {
        run = Counts x.run;
        plain = record { follows = (is, x.plain.follows); agrees = x.plain.agrees; within = (some, subst P e x.plain.within) };
        makes = subst Q e (makes_fewer W call_of kept depth x.run a.state (fuel - (a.summary.units + 1)) a.frames (m - 1) n le x.makes);
      }

  -- a run that ends at a moment makes none
  making_leave : (a : Moment M W) → M.move_at a.place a.given ≡ Leave → (n : ℕ) → n ≡ 0 → RunMaking M W call_of kept fuel depth a n
  making_leave a is n none = record { run = Leaves; plain = record { follows = is; agrees = tt; within = tt }; makes = none }

  making_end : (a : Moment M W) → M.move_at a.place a.given ≡ End → (n : ℕ) → n ≡ 0 → RunMaking M W call_of kept fuel depth a n
  making_end a is n none = record { run = Ends; plain = record { follows = is; agrees = tt; within = tt }; makes = none }

  making_spent : (a : Moment M W) → M.move_at a.place a.given ≡ Count → a.summary.units ≡ fuel → (n : ℕ) → n ≡ 0 → RunMaking M W call_of kept fuel depth a n
  making_spent a is all n none = record { run = Spent; plain = record { follows = is; agrees = tt; within = omega arith }; makes = none }

  -- a nested call, and what follows it
  module _ (rebased : Tree → Tree → ℕ → Tree) (a : Moment M W) (c : M.Call) (kid : Finish M W) (is : M.move_at a.place a.given ≡ Enter c) (room : depth + a.frames < deepest_depth)
      (made inner : ℕ) (within : CallMakes call_of (λ tree. HoldsSomewhere W (W.after_enter a.state) (fuel - a.summary.units) (depth + a.frames + 1) tree kept) c kid.summary.units inner) where
    making_calls : (r : PlainRunTo M W rebased (fuel - a.summary.units) (depth + a.frames + 1) (begun M W c (W.after_enter a.state)) kid) (t : Run M.Call M.Item) →
        Back (ending r.run) t (Follows M (M.after a.place a.given) Returned t) → Agrees W (W.after_leave kid.state) t →
        Within (fuel - a.summary.units - kid.summary.units) depth a.frames t →
        MakesAtMost W call_of kept depth (W.after_leave kid.state) (fuel - a.summary.units - kid.summary.units) a.frames t (made - inner) →
        RunMaking M W call_of kept fuel depth a made
    making_calls r t back agrees fits makes =
        let Here : ℕ → Type 0 = λ y. Within y (depth + a.frames + 1) 0 r.run in
        let all : fuel - a.summary.units - 0 ≡ fuel - a.summary.units = omega arith in
        let units_e : kid.summary.units ≡ cost r.run = r.units_are ∙ zero-add (cost r.run) in
        let Rest : ℕ → Type 0 = λ y. Within (fuel - a.summary.units - y) depth a.frames t in
        let Told_so : W.State → Type 0 = λ y. Agrees W (W.after_leave y) t in
        let Of : ℕ → Type 0 = λ y. CallMakes call_of (λ tree. HoldsSomewhere W (W.after_enter a.state) (fuel - a.summary.units) (depth + a.frames + 1) tree kept) c y inner in
        let Behind : W.State → ℕ → Type 0 = λ y u. MakesAtMost W call_of kept depth (W.after_leave y) (fuel - a.summary.units - u) a.frames t (made - inner) in
        record {
          run = Calls c r.run t;
          plain = record {
            follows = (is, r.plain.follows, back);
            agrees = (r.plain.agrees, subst Told_so r.state_is agrees);
            within = (room, subst Here all r.plain.within, subst Rest units_e fits);
          };
          makes = record {
            inner = inner;
            within = subst Of units_e within;
            behind = subst (λ y. Behind y (cost r.run)) r.state_is (subst (λ u. Behind kid.state u) units_e makes);
          };
        }

    pub making_enter : Comes M W rebased (fuel - a.summary.units) (depth + a.frames + 1) (begun M W c (W.after_enter a.state)) kid → kid.ended ≡ ByLeave →
        (n : ℕ) → made - inner ≤ n → Makes M W call_of kept fuel depth (come_back rebased (stepped a) kid) n → Makes M W call_of kept fuel depth a made
    making_enter comes left n le later = ∥∥₁_map₂ comes later (λ r y.
        let ends : ByLeave ≡ ending r.run = sym left ∙ r.ended_is in
        let Behind : Ending → Type 0 = λ e. Back e y.run (Follows M (M.after a.place a.given) Returned y.run) in
        let fuel_e : fuel - (a.summary.units + kid.summary.units) ≡ fuel - a.summary.units - kid.summary.units = omega arith in
        let Fits : ℕ → Type 0 = λ k. Within k depth a.frames y.run in
        let Making : ℕ → Type 0 = λ k. MakesAtMost W call_of kept depth (W.after_leave kid.state) k a.frames y.run (made - inner) in
        making_calls r y.run (subst Behind ends y.plain.follows) y.plain.agrees (subst Fits fuel_e y.plain.within)
        (subst Making fuel_e (makes_fewer W call_of kept depth y.run (W.after_leave kid.state) (fuel - (a.summary.units + kid.summary.units)) a.frames (made - inner) n le y.makes)))

    pub making_end_within : Comes M W rebased (fuel - a.summary.units) (depth + a.frames + 1) (begun M W c (W.after_enter a.state)) kid → kid.ended ≡ ByEnd →
        made - inner ≡ 0 → Makes M W call_of kept fuel depth a made
    making_end_within comes left none = ∥∥₁_map comes (λ r.
        let ends : ByEnd ≡ ending r.run = sym left ∙ r.ended_is in
        let over : Run M.Call M.Item = Ends in
        let Behind : Ending → Type 0 = λ e. Back e over (Follows M (M.after a.place a.given) Returned over) in
        making_calls r over (subst Behind ends refl) tt tt none)

    pub making_spent_within : Comes M W rebased (fuel - a.summary.units) (depth + a.frames + 1) (begun M W c (W.after_enter a.state)) kid → kid.ended ≡ ByBudget →
        made - inner ≡ 0 → Makes M W call_of kept fuel depth a made
    making_spent_within comes left none =
        let spent = nothing_left M W rebased (fuel - a.summary.units) (depth + a.frames + 1) c (W.after_enter a.state) kid comes left in
        ∥∥₁_map comes (λ r.
        let ends : ByBudget ≡ ending r.run = sym left ∙ r.ended_is in
        let over : Run M.Call M.Item = Spent in
        let Behind : Ending → Type 0 = λ e. Back e over (Follows M (M.after a.place a.given) Returned over) in
        making_calls r over (subst Behind ends refl) tt spent none)

  -- a moment whose records are owed leads to one in which no more are
  pub leads_making : (a b : Moment M W) (p q : ℕ) → q ≤ p → ((n : ℕ) → RunMaking M W call_of kept fuel depth b n → RunMaking M W call_of kept fuel depth a n) →
      LeadsMaking M W call_of kept fuel depth a p b q
  leads_making a b p q le f total x = ∥∥₁_map x (λ y. making_less a (total - p) (total - q) (omega arith) (f (total - q) y))

  -- the same where the second moment is told in other words
  module _ (a b : Moment M W) (place : b.place ≡ M.after a.place a.given) (p q : ℕ) (le : q ≤ p) where
    as_said : (m : Moment M W) → b ≡ m → ((n : ℕ) → RunMaking M W call_of kept fuel depth m n → RunMaking M W call_of kept fuel depth a n) → LeadsMaking M W call_of kept fuel depth a p b q
    as_said m is f =
        let L : Moment M W → Type 0 = λ x. LeadsMaking M W call_of kept fuel depth a p x q in
        subst L (sym is) (leads_making a m p q le f)

    pub makes_ask : (key : Tree) → M.move_at a.place a.given ≡ Ask key → b.given ≡ Answered (W.answer a.state key) → b.state ≡ a.state → b.points ≡ a.points → b.last ≡ a.last →
        b.summary ≡ (asked (stepped a) key).summary → b.frames ≡ a.frames → LeadsMaking M W call_of kept fuel depth a p b q
    makes_ask key is g s ps l u f = as_said (asked (stepped a) key) (same_moment M W b (asked (stepped a) key) place g s ps l u f) (making_ask a key is)

    pub makes_put : (key value : Tree) → M.move_at a.place a.given ≡ Put key value → b.given ≡ Nothing → b.state ≡ W.after_put a.state key value → b.points ≡ a.points → b.last ≡ a.last →
        b.summary ≡ (put (stepped a) key value).summary → b.frames ≡ a.frames → LeadsMaking M W call_of kept fuel depth a p b q
    makes_put key value is g s ps l u f = as_said (put (stepped a) key value) (same_moment M W b (put (stepped a) key value) place g s ps l u f) (making_put a key value is)

    pub makes_bump : M.move_at a.place a.given ≡ Bump → b.given ≡ Nothing → b.state ≡ W.after_bump a.state 1 → b.points ≡ a.points → b.last ≡ a.last →
        b.summary ≡ (call_counted (stepped a)).summary → b.frames ≡ a.frames → LeadsMaking M W call_of kept fuel depth a p b q
    makes_bump is g s ps l u f = as_said (call_counted (stepped a)) (same_moment M W b (call_counted (stepped a)) place g s ps l u f) (making_bump a is)

    pub makes_emit : (item : M.Item) → M.move_at a.place a.given ≡ Emit item → b.given ≡ Nothing → b.state ≡ a.state → b.points ≡ a.points ++ own item ∷ [] → b.last ≡ item ∷ [] →
        b.summary ≡ a.summary → b.frames ≡ a.frames → LeadsMaking M W call_of kept fuel depth a p b q
    makes_emit item is g s ps l u f = as_said (item_emitted (stepped a) item) (same_moment M W b (item_emitted (stepped a) item) place g s ps l u f) (making_emit a item is)

    pub makes_at : (k : ℕ) → M.move_at a.place a.given ≡ At k → b.given ≡ Nothing → b.state ≡ W.after_at a.state k → b.points ≡ a.points → b.last ≡ a.last →
        b.summary ≡ (at_said (stepped a) k).summary → b.frames ≡ a.frames → LeadsMaking M W call_of kept fuel depth a p b q
    makes_at k is g s ps l u f = as_said (at_said (stepped a) k) (same_moment M W b (at_said (stepped a) k) place g s ps l u f) (making_at a k is)

    pub makes_deepen : M.move_at a.place a.given ≡ Deepen → depth + a.frames < deepest_depth → b.given ≡ Nothing → b.state ≡ a.state → b.points ≡ a.points → b.last ≡ a.last →
        b.summary ≡ (deepened (stepped a)).summary → b.frames ≡ a.frames + 1 → LeadsMaking M W call_of kept fuel depth a p b q
    makes_deepen is room g s ps l u f = as_said (deepened (stepped a)) (same_moment M W b (deepened (stepped a)) place g s ps l u f) (making_deepen a is room)

    pub makes_no_frame : M.move_at a.place a.given ≡ Deepen → deepest_depth ≤ depth + a.frames → b.given ≡ TooDeep → b.state ≡ a.state → b.points ≡ a.points → b.last ≡ a.last →
        b.summary ≡ (turned_away (stepped a)).summary → b.frames ≡ a.frames → LeadsMaking M W call_of kept fuel depth a p b q
    makes_no_frame is full g s ps l u f = as_said (turned_away (stepped a)) (same_moment M W b (turned_away (stepped a)) place g s ps l u f) (making_no_frame a is full)

    pub makes_rise : M.move_at a.place a.given ≡ Rise → b.given ≡ Nothing → b.state ≡ a.state → b.points ≡ a.points → b.last ≡ a.last →
        b.summary ≡ a.summary → b.frames ≡ a.frames - 1 → LeadsMaking M W call_of kept fuel depth a p b q
    makes_rise is g s ps l u f = as_said (risen (stepped a)) (same_moment M W b (risen (stepped a)) place g s ps l u f) (making_rise a is)

  pub makes_no_call : (a b : Moment M W) (c : M.Call) (p q : ℕ) → q ≤ p → M.move_at a.place a.given ≡ Enter c → deepest_depth ≤ depth + a.frames → b ≡ turned_away (stepped a) →
      LeadsMaking M W call_of kept fuel depth a p b q
  makes_no_call a b c p q le is full eq =
      let L : Moment M W → Type 0 = λ x. LeadsMaking M W call_of kept fuel depth a p x q in
      subst L (sym eq) (leads_making a (turned_away (stepped a)) p q le (making_no_call a c is full))

  pub makes_count : (a b : Moment M W) (p q : ℕ) → q ≤ p + 1 → M.move_at a.place a.given ≡ Count → a.summary.units < fuel → b ≡ counted (stepped a) →
      LeadsMaking M W call_of kept fuel depth a p b q
  makes_count a b p q le is left eq =
      let L : Moment M W → Type 0 = λ x. LeadsMaking M W call_of kept fuel depth a p x q in
      subst L (sym eq) (λ total x. ∥∥₁_map x (making_count a is left (total - p) (total - q) (omega arith)))

  pub makes_leave : (a : Moment M W) → M.move_at a.place a.given ≡ Leave → (n : ℕ) → n ≡ 0 → Makes M W call_of kept fuel depth a n
  makes_leave a is n none = ∣ making_leave a is n none ∣₁

  pub makes_end : (a : Moment M W) → M.move_at a.place a.given ≡ End → (n : ℕ) → n ≡ 0 → Makes M W call_of kept fuel depth a n
  makes_end a is n none = ∣ making_end a is n none ∣₁

  pub makes_spent : (a : Moment M W) → M.move_at a.place a.given ≡ Count → a.summary.units ≡ fuel → (n : ℕ) → n ≡ 0 → Makes M W call_of kept fuel depth a n
  makes_spent a is all n none = ∣ making_spent a is all n none ∣₁

  -- a plain run makes at least none, and no more than it costs
  pub makes_nothing : (rebased : Tree → Tree → ℕ → Tree) (a : Moment M W) (z : Finish M W) → Comes M W rebased fuel depth a z → (n : ℕ) → n ≡ 0 → Makes M W call_of kept fuel depth a n
  makes_nothing rebased a z comes n none = ∥∥₁_map comes (λ r. record {
    run = r.run;
    plain = r.plain;
    makes = makes_zero W call_of kept depth r.run a.state (fuel - a.summary.units) a.frames n none;
  })

  pub makes_covered : (rebased : Tree → Tree → ℕ → Tree) (c : M.Call) (s : W.State) (z : Finish M W) → Comes M W rebased fuel depth (begun M W c s) z →
      (n : ℕ) → Makes M W call_of kept fuel depth (begun M W c s) n → n ≤ z.summary.units
  makes_covered rebased c s z comes n makes = ∥∥₁_elim comes le_prop (λ r. ∥∥₁_elim makes le_prop (λ x.
      let same : x.run ≡ r.run = same_run M W x.run r.run s (M.start c) Nothing (fuel - 0) depth 0 x.plain.follows r.plain.follows x.plain.agrees r.plain.agrees x.plain.within r.plain.within in
      let le : n ≤ cost x.run = makes_le W call_of kept depth x.run s (fuel - 0) 0 n x.makes in
      let paid : z.summary.units ≡ cost r.run = r.units_are ∙ zero-add (cost r.run) in
      let costs : cost x.run ≡ cost r.run = ap cost same in
      omega arith))

-- no more are owed behind a move that is no count
falls_by : (made : ℕ) (b d : Bool) → (b ≡ false → d ≡ false) → made + cond d 1 0 ≤ made + cond b 1 0
falls_by made true true f = omega arith
falls_by made true false f = omega arith
falls_by made false true f = absurd (let wrong : true ≡ false = f refl in cc)
falls_by made false false f = omega arith

pub owed_falls : (M : MachineModel) (marked : M.Place → Bool) → EmitsOnceACount M marked → (p : M.Place) (g : Told) → is_count (M.move_at p g) ≡ false → (q : M.Place) → q ≡ M.after p g → (made : ℕ) →
    owed marked made q ≤ owed marked made p
owed_falls M marked law p g other q is made = falls_by made (marked p) (marked q) (λ off. ap marked is ∙ law.others p g other off)

-- nor behind an item, which is a record
emits_by : (made now most : ℕ) (b d : Bool) → now ≡ min (made + 1) most → b ≡ true → d ≡ false → now + cond d 1 0 ≤ made + cond b 1 0
emits_by made now most true true one on off = cc
emits_by made now most true false one on off = omega arith
emits_by made now most false d one on off = cc

pub owed_emits : (M : MachineModel) (marked : M.Place → Bool) → EmitsOnceACount M marked → (p : M.Place) (g : Told) (item : M.Item) → M.move_at p g ≡ Emit item → (q : M.Place) → q ≡ M.after p g →
    (made now most : ℕ) → now ≡ min (made + 1) most → owed marked now q ≤ owed marked made p
owed_emits M marked law p g item is q after made now most one =
    let marks = law.emits p g item is in
    emits_by made now most (marked p) (marked q) one marks.0 (ap marked after ∙ marks.1)

bit_le : (b : Bool) → cond b 1 0 ≤ 1
bit_le true = omega arith
bit_le false = omega arith

-- one more at most behind a count
pub owed_counts : {P : Type 0} (marked : P → Bool) (made : ℕ) (p q : P) → owed marked made q ≤ owed marked made p + 1
owed_counts marked made p q = (let one = bit_le (marked q) in omega arith)

-- what was made is owed
pub made_owed : {P : Type 0} (marked : P → Bool) (made : ℕ) (p : P) → made - owed marked made p ≡ 0
made_owed marked made p = omega arith
