-- What each move makes of a moment: a run from the one behind it is a run from the one before it.
use Rattle.std.proofs.Common.{◌≡◌, ℕ, ◌+◌, ◌-◌, ◌<◌, ◌≤◌, ◌||◌, Bool, true, false, cond, max, [], ◌∷◌, ◌++◌, refl, sym, ap, ◌∙◌, subst, append_assoc, append-nil, arith}
use Rattle.std.proofs.Math.Nat.{add-zero}
use Rattle.std.proofs.Math.Logic.{∥∥₁_map}
use Rattle.std.proofs.lemmas.Bool.{or_parts}
use Rattle.kept_values.specs.Trees.{Tree, Pair, look_up}
use Rattle.trace_arena.specs.Points.{own}
use Rattle.asking_core.specs.Worlds.{WorldModel}
use Rattle.asking_core.specs.Machines.{MachineModel, Ask, Put, Count, Bump, Emit, Deepen, Rise, Enter, At, Leave, End}
use Rattle.asking_core.specs.Runs.{Leaves, Ends, Spent, Asks, Puts, Counts, Bumps, Emits, Moves, Deepens, Rises, Refused, Barred, ByLeave, ByEnd, ByBudget, Within, cost, bumped, put_by, at_came, deepest, deepest_depth}
use Rattle.asking_core.specs.Footprints.{read_by, merged, unless_there}
use Rattle.kept_outcomes.specs.Traces.{traced}
use Rattle.kept_outcomes.specs.Moments.{Moment, Finish, PlainRunTo, Comes, Leads, asked, put, counted, call_counted, item_emitted, at_said, deepened, risen, turned_away, stepped, finished}
use Rattle.kept_outcomes.proofs.MergedLists.{merged-unless}

pub off : {A : Type 0} (b : Bool) (x y : A) → b ≡ false → cond b x y ≡ y
off true x y is = cc
off false x y is = refl

pub or_true : (b : Bool) → (b || true) ≡ true
or_true true = refl
or_true false = refl

max_all : (a b c : ℕ) → max (max a b) c ≡ max a (max b c)
max_all a b c = omega arith

-- what a run from the second moment comes to, one from the first comes to, run by run
abbrev pub RunsLead : (M : MachineModel) (W : WorldModel) → (Tree → Tree → ℕ → Tree) → ℕ → ℕ → Moment M W → Moment M W → Type 0
RunsLead M W rebased fuel depth a b = (z : Finish M W) → PlainRunTo M W rebased fuel depth b z → PlainRunTo M W rebased fuel depth a z

module _ (M : MachineModel) (W : WorldModel) (rebased : Tree → Tree → ℕ → Tree) (fuel depth : ℕ) where
  pub runs_ask : (a : Moment M W) (key : Tree) → M.move_at a.place a.given ≡ Ask key → RunsLead M W rebased fuel depth a (asked (stepped a) key)
  runs_ask a key is z x = record {
    run = Asks key (W.answer a.state key) x.run;
    plain = record { follows = (is, x.plain.follows); agrees = (refl, x.plain.agrees); within = x.plain.within };
    ended_is = x.ended_is;
    state_is = x.state_is;
    points_are = x.points_are;
    wanting_are = x.wanting_are;
    units_are = x.units_are;
    levels_are = x.levels_are;
    room_is = x.room_is;
    at_is = x.at_is;
    adds = λ none.
        let calm = or_parts a.summary.at_told (at_came x.run) (sym x.at_is ∙ none) in
        let pair : Pair = record { key = key; value = W.answer a.state key } in
        let now = x.adds none in
        record {
          read_is = now.read_is
              ∙ ap (λ y. merged y (read_by rebased a.summary.puts a.summary.calls x.run))
              (off a.summary.at_told a.summary.read (merged a.summary.read (unless_there (look_up a.summary.puts key) pair [])) calm.0)
              ∙ merged-unless a.summary.read (look_up a.summary.puts key) pair (read_by rebased a.summary.puts a.summary.calls x.run);
          puts_are = now.puts_are;
          calls_are = now.calls_are;
        };
  }

  pub runs_put : (a : Moment M W) (key value : Tree) → M.move_at a.place a.given ≡ Put key value → RunsLead M W rebased fuel depth a (put (stepped a) key value)
  runs_put a key value is z x = record {
    run = Puts key value x.run;
    plain = record { follows = (is, x.plain.follows); agrees = x.plain.agrees; within = x.plain.within };
    ended_is = x.ended_is;
    state_is = x.state_is;
    points_are = x.points_are;
    wanting_are = x.wanting_are;
    units_are = x.units_are;
    levels_are = x.levels_are;
    room_is = x.room_is;
    at_is = x.at_is;
    adds = λ none.
        let calm = or_parts a.summary.at_told (at_came x.run) (sym x.at_is ∙ none) in
        let pair : Pair = record { key = key; value = value } in
        let e = off a.summary.at_told a.summary.puts (pair ∷ a.summary.puts) calm.0 in
        let now = x.adds none in
        record {
          read_is = now.read_is ∙ ap (λ y. merged a.summary.read (read_by rebased y a.summary.calls x.run)) e;
          puts_are = now.puts_are ∙ ap (λ y. put_by x.run ++ y) e ∙ sym (append_assoc (put_by x.run) (pair ∷ []) a.summary.puts);
          calls_are = now.calls_are;
        };
  }

  pub runs_bump : (a : Moment M W) → M.move_at a.place a.given ≡ Bump → RunsLead M W rebased fuel depth a (call_counted (stepped a))
  runs_bump a is z x = record {
    run = Bumps x.run;
    plain = record { follows = (is, x.plain.follows); agrees = x.plain.agrees; within = x.plain.within };
    ended_is = x.ended_is;
    state_is = x.state_is;
    points_are = x.points_are;
    wanting_are = x.wanting_are;
    units_are = x.units_are;
    levels_are = x.levels_are;
    room_is = x.room_is;
    at_is = x.at_is;
    adds = λ none.
        let calm = or_parts a.summary.at_told (at_came x.run) (sym x.at_is ∙ none) in
        let e = off a.summary.at_told a.summary.calls (a.summary.calls + 1) calm.0 in
        let sum : a.summary.calls + 1 + bumped x.run ≡ a.summary.calls + (bumped x.run + 1) = omega arith in
        let now = x.adds none in
        record {
          read_is = now.read_is ∙ ap (λ y. merged a.summary.read (read_by rebased a.summary.puts y x.run)) e;
          puts_are = now.puts_are;
          calls_are = now.calls_are ∙ ap (λ y. y + bumped x.run) e ∙ sum;
        };
  }

  pub runs_emit : (a : Moment M W) (item : M.Item) → M.move_at a.place a.given ≡ Emit item → RunsLead M W rebased fuel depth a (item_emitted (stepped a) item)
  runs_emit a item is z x = record {
    run = Emits item x.run;
    plain = record { follows = (is, x.plain.follows); agrees = x.plain.agrees; within = x.plain.within };
    ended_is = x.ended_is;
    state_is = x.state_is;
    points_are = x.points_are ∙ append_assoc a.points (own item ∷ []) (traced (item ∷ []) x.run);
    wanting_are = x.wanting_are;
    units_are = x.units_are;
    levels_are = x.levels_are;
    room_is = x.room_is;
    at_is = x.at_is;
    adds = λ none. let now = x.adds none in record { read_is = now.read_is; puts_are = now.puts_are; calls_are = now.calls_are };
  }

  pub runs_at : (a : Moment M W) (n : ℕ) → M.move_at a.place a.given ≡ At n → RunsLead M W rebased fuel depth a (at_said (stepped a) n)
  runs_at a n is z x = record {
    run = Moves n x.run;
    plain = record { follows = (is, x.plain.follows); agrees = x.plain.agrees; within = x.plain.within };
    ended_is = x.ended_is;
    state_is = x.state_is;
    points_are = x.points_are;
    wanting_are = x.wanting_are;
    units_are = x.units_are;
    levels_are = x.levels_are;
    room_is = x.room_is;
    at_is = x.at_is ∙ sym (or_true a.summary.at_told);
    adds = λ none. let wrong = sym x.at_is ∙ none in cc;
  }

  pub runs_deepen : (a : Moment M W) → M.move_at a.place a.given ≡ Deepen → depth + a.frames < deepest_depth → RunsLead M W rebased fuel depth a (deepened (stepped a))
  runs_deepen a is room z x = record {
    run = Deepens x.run;
    plain = record { follows = (is, x.plain.follows); agrees = x.plain.agrees; within = (room, x.plain.within) };
    ended_is = x.ended_is;
    state_is = x.state_is;
    points_are = x.points_are;
    wanting_are = x.wanting_are;
    units_are = x.units_are;
    levels_are = x.levels_are ∙ max_all a.summary.levels (a.frames + 1) (deepest (a.frames + 1) x.run);
    room_is = x.room_is;
    at_is = x.at_is;
    adds = λ none. let now = x.adds none in record { read_is = now.read_is; puts_are = now.puts_are; calls_are = now.calls_are };
  }

  pub runs_rise : (a : Moment M W) → M.move_at a.place a.given ≡ Rise → RunsLead M W rebased fuel depth a (risen (stepped a))
  runs_rise a is z x = record {
    run = Rises x.run;
    plain = record { follows = (is, x.plain.follows); agrees = x.plain.agrees; within = x.plain.within };
    ended_is = x.ended_is;
    state_is = x.state_is;
    points_are = x.points_are;
    wanting_are = x.wanting_are;
    units_are = x.units_are;
    levels_are = x.levels_are;
    room_is = x.room_is;
    at_is = x.at_is;
    adds = λ none. let now = x.adds none in record { read_is = now.read_is; puts_are = now.puts_are; calls_are = now.calls_are };
  }

  pub runs_no_frame : (a : Moment M W) → M.move_at a.place a.given ≡ Deepen → deepest_depth ≤ depth + a.frames → RunsLead M W rebased fuel depth a (turned_away (stepped a))
  runs_no_frame a is full z x = record {
    run = Refused x.run;
    plain = record { follows = (is, x.plain.follows); agrees = x.plain.agrees; within = (full, x.plain.within) };
    ended_is = x.ended_is;
    state_is = x.state_is;
    points_are = x.points_are;
    wanting_are = x.wanting_are;
    units_are = x.units_are;
    levels_are = x.levels_are;
    room_is = x.room_is ∙ sym (or_true a.summary.no_room);
    at_is = x.at_is;
    adds = λ none. let now = x.adds none in record { read_is = now.read_is; puts_are = now.puts_are; calls_are = now.calls_are };
  }

  pub runs_no_call : (a : Moment M W) (c : M.Call) → M.move_at a.place a.given ≡ Enter c → deepest_depth ≤ depth + a.frames → RunsLead M W rebased fuel depth a (turned_away (stepped a))
  runs_no_call a c is full z x = record {
    run = Barred c x.run;
    plain = record { follows = (is, x.plain.follows); agrees = x.plain.agrees; within = (full, x.plain.within) };
    ended_is = x.ended_is;
    state_is = x.state_is;
    points_are = x.points_are;
    wanting_are = x.wanting_are;
    units_are = x.units_are;
    levels_are = x.levels_are;
    room_is = x.room_is ∙ sym (or_true a.summary.no_room);
    at_is = x.at_is;
    adds = λ none. let now = x.adds none in record { read_is = now.read_is; puts_are = now.puts_are; calls_are = now.calls_are };
  }

  pub runs_count : (a : Moment M W) → M.move_at a.place a.given ≡ Count → a.summary.units < fuel → RunsLead M W rebased fuel depth a (counted (stepped a))
  runs_count a is left z x =
      let e : fuel - (a.summary.units + 1) ≡ fuel - a.summary.units - 1 = omega arith in
      let P : ℕ → Type 0 = λ y. Within y depth a.frames x.run in
      let some : 0 < fuel - a.summary.units = omega arith in
      let sum : a.summary.units + 1 + cost x.run ≡ a.summary.units + (cost x.run + 1) = omega arith in
      record {
        run = Counts x.run;
        plain = record { follows = (is, x.plain.follows); agrees = x.plain.agrees; within = (some, subst P e x.plain.within) };
        ended_is = x.ended_is;
        state_is = x.state_is;
        points_are = x.points_are;
        wanting_are = x.wanting_are;
        units_are = x.units_are ∙ sum;
        levels_are = x.levels_are;
        room_is = x.room_is;
        at_is = x.at_is;
        adds = λ none. let now = x.adds none in record { read_is = now.read_is; puts_are = now.puts_are; calls_are = now.calls_are };
      }

  or_false : (b : Bool) → b ≡ (b || false)
  or_false true = refl
  or_false false = refl

  -- a run that ends at a moment
  pub runs_leave : (a : Moment M W) → M.move_at a.place a.given ≡ Leave → PlainRunTo M W rebased fuel depth a (finished (stepped a) ByLeave [])
  runs_leave a is = record {
    run = Leaves;
    plain = record { follows = is; agrees = tt; within = tt };
    ended_is = refl;
    state_is = refl;
    points_are = sym (append-nil a.points);
    wanting_are = refl;
    units_are = sym (add-zero a.summary.units);
    levels_are = omega arith;
    room_is = or_false a.summary.no_room;
    at_is = or_false a.summary.at_told;
    adds = λ calm. record { read_is = refl; puts_are = refl; calls_are = sym (add-zero a.summary.calls) };
  }

  pub runs_end : (a : Moment M W) → M.move_at a.place a.given ≡ End → PlainRunTo M W rebased fuel depth a (finished (stepped a) ByEnd [])
  runs_end a is = record {
    run = Ends;
    plain = record { follows = is; agrees = tt; within = tt };
    ended_is = refl;
    state_is = refl;
    points_are = sym (append-nil a.points);
    wanting_are = refl;
    units_are = sym (add-zero a.summary.units);
    levels_are = omega arith;
    room_is = or_false a.summary.no_room;
    at_is = or_false a.summary.at_told;
    adds = λ calm. record { read_is = refl; puts_are = refl; calls_are = sym (add-zero a.summary.calls) };
  }

  pub runs_spent : (a : Moment M W) → M.move_at a.place a.given ≡ Count → a.summary.units ≡ fuel → PlainRunTo M W rebased fuel depth a (finished (stepped a) ByBudget (M.frames_at (M.after a.place a.given) ∷ []))
  runs_spent a is none = record {
    run = Spent;
    plain = record { follows = is; agrees = tt; within = omega arith };
    ended_is = refl;
    state_is = refl;
    points_are = sym (append-nil a.points);
    wanting_are = refl;
    units_are = sym (add-zero a.summary.units);
    levels_are = omega arith;
    room_is = or_false a.summary.no_room;
    at_is = or_false a.summary.at_told;
    adds = λ calm. record { read_is = refl; puts_are = refl; calls_are = sym (add-zero a.summary.calls) };
  }

  -- the same, where it is not said which run it is
  pub leads_ask : (a : Moment M W) (key : Tree) → M.move_at a.place a.given ≡ Ask key → Leads M W rebased fuel depth a (asked (stepped a) key)
  leads_ask a key is z x = ∥∥₁_map x (runs_ask a key is z)

  pub leads_put : (a : Moment M W) (key value : Tree) → M.move_at a.place a.given ≡ Put key value → Leads M W rebased fuel depth a (put (stepped a) key value)
  leads_put a key value is z x = ∥∥₁_map x (runs_put a key value is z)

  pub leads_bump : (a : Moment M W) → M.move_at a.place a.given ≡ Bump → Leads M W rebased fuel depth a (call_counted (stepped a))
  leads_bump a is z x = ∥∥₁_map x (runs_bump a is z)

  pub leads_emit : (a : Moment M W) (item : M.Item) → M.move_at a.place a.given ≡ Emit item → Leads M W rebased fuel depth a (item_emitted (stepped a) item)
  leads_emit a item is z x = ∥∥₁_map x (runs_emit a item is z)

  pub leads_at : (a : Moment M W) (n : ℕ) → M.move_at a.place a.given ≡ At n → Leads M W rebased fuel depth a (at_said (stepped a) n)
  leads_at a n is z x = ∥∥₁_map x (runs_at a n is z)

  pub leads_deepen : (a : Moment M W) → M.move_at a.place a.given ≡ Deepen → depth + a.frames < deepest_depth → Leads M W rebased fuel depth a (deepened (stepped a))
  leads_deepen a is room z x = ∥∥₁_map x (runs_deepen a is room z)

  pub leads_rise : (a : Moment M W) → M.move_at a.place a.given ≡ Rise → Leads M W rebased fuel depth a (risen (stepped a))
  leads_rise a is z x = ∥∥₁_map x (runs_rise a is z)

  pub leads_no_frame : (a : Moment M W) → M.move_at a.place a.given ≡ Deepen → deepest_depth ≤ depth + a.frames → Leads M W rebased fuel depth a (turned_away (stepped a))
  leads_no_frame a is full z x = ∥∥₁_map x (runs_no_frame a is full z)

  pub leads_no_call : (a : Moment M W) (c : M.Call) → M.move_at a.place a.given ≡ Enter c → deepest_depth ≤ depth + a.frames → Leads M W rebased fuel depth a (turned_away (stepped a))
  leads_no_call a c is full z x = ∥∥₁_map x (runs_no_call a c is full z)

  pub leads_count : (a : Moment M W) → M.move_at a.place a.given ≡ Count → a.summary.units < fuel → Leads M W rebased fuel depth a (counted (stepped a))
  leads_count a is left z x = ∥∥₁_map x (runs_count a is left z)

  pub comes_leave : (a : Moment M W) → M.move_at a.place a.given ≡ Leave → Comes M W rebased fuel depth a (finished (stepped a) ByLeave [])
  comes_leave a is = ∣ runs_leave a is ∣₁

  pub comes_end : (a : Moment M W) → M.move_at a.place a.given ≡ End → Comes M W rebased fuel depth a (finished (stepped a) ByEnd [])
  comes_end a is = ∣ runs_end a is ∣₁

  pub comes_spent : (a : Moment M W) → M.move_at a.place a.given ≡ Count → a.summary.units ≡ fuel → Comes M W rebased fuel depth a (finished (stepped a) ByBudget (M.frames_at (M.after a.place a.given) ∷ []))
  comes_spent a is none = ∣ runs_spent a is none ∣₁
