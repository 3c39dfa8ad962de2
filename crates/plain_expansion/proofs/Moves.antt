-- A move before a run: what it gives.
use Rattle.std.proofs.Common.{◌≡◌, ◌<◌, ◌≤◌, ℕ, suc, ◌+◌, ◌-◌, max, List, [], ◌∷◌, ◌++◌, map, refl, sym, ap, ◌∙◌, subst, arith, append-nil}
use Rattle.kept_values.specs.Trees.{Tree}
use Rattle.asking_core.specs.Worlds.{WorldModel}
use Rattle.asking_core.specs.Machines.{MachineModel, Told, Nothing, Answered, Returned, TooDeep, Ask, Put, Count, Bump, Emit, Deepen, Rise, Enter, At, Leave, End}
use Rattle.asking_core.specs.Runs.{Run, Leaves, Ends, Spent, Asks, Puts, Counts, Bumps, Emits, Moves, Deepens, Rises, Refused, Calls, Barred, Ending, ByLeave, ByEnd, ByBudget, ending, Back, Follows, Agrees, Within, after_run, cost, deepest, deepest_depth, unpaid, unpaid_back}
use Rattle.trace_arena.specs.Points.{own, within}
use Rattle.kept_outcomes.specs.Traces.{traced}
use Rattle.plain_expansion.specs.Expansion.{Expansion, ended_by, spent_at, pointed, behind, paid, nesting, come_back}
use Rattle.plain_expansion.specs.Laws.{HasRun}

-- a run that fuel ended took all of it
pub spent_all : {C I : Type 0} (t : Run C I) (f d o : ℕ) → Within f d o t → ending t ≡ ByBudget → f ≤ cost t
spent_all Leaves f d o w e = cc
spent_all Ends f d o w e = cc
spent_all Spent f d o w e = omega arith
spent_all (Asks key value t) f d o w e = spent_all t f d o w e
spent_all (Puts key value t) f d o w e = spent_all t f d o w e
spent_all (Counts t) f d o w e = let rest = spent_all t (f - 1) d o w.1 e in omega arith
spent_all (Bumps t) f d o w e = spent_all t f d o w e
spent_all (Emits item t) f d o w e = spent_all t f d o w e
spent_all (Moves n t) f d o w e = spent_all t f d o w e
spent_all (Deepens t) f d o w e = spent_all t f d (o + 1) w.1 e
spent_all (Rises t) f d o w e = spent_all t f d (o - 1) w e
spent_all (Refused t) f d o w e = spent_all t f d o w.1 e
spent_all (Calls c child t) f d o w e = let rest = spent_all t (f - cost child) d o w.2 e in omega arith
spent_all (Barred c t) f d o w e = spent_all t f d o w.1 e

-- what follows a place is decided by the move that is made there and the place behind it
module _ (M : MachineModel) where
  follows_as : (t : Run M.Call M.Item) (p q : M.Place) (g h : Told) → M.move_at p g ≡ M.move_at q h → M.after p g ≡ M.after q h →
      Follows M q h t → Follows M p g t
  follows_as Leaves p q g h m a f = m ∙ f
  follows_as Ends p q g h m a f = m ∙ f
  follows_as Spent p q g h m a f = m ∙ f
  follows_as (Asks key value t) p q g h m a f = (m ∙ f.0, subst (λ x. Follows M x (Answered value) t) (sym a) f.1)
  follows_as (Puts key value t) p q g h m a f = (m ∙ f.0, subst (λ x. Follows M x Nothing t) (sym a) f.1)
  follows_as (Counts t) p q g h m a f = (m ∙ f.0, subst (λ x. Follows M x Nothing t) (sym a) f.1)
  follows_as (Bumps t) p q g h m a f = (m ∙ f.0, subst (λ x. Follows M x Nothing t) (sym a) f.1)
  follows_as (Emits item t) p q g h m a f = (m ∙ f.0, subst (λ x. Follows M x Nothing t) (sym a) f.1)
  follows_as (Moves n t) p q g h m a f = (m ∙ f.0, subst (λ x. Follows M x Nothing t) (sym a) f.1)
  follows_as (Deepens t) p q g h m a f = (m ∙ f.0, subst (λ x. Follows M x Nothing t) (sym a) f.1)
  follows_as (Rises t) p q g h m a f = (m ∙ f.0, subst (λ x. Follows M x Nothing t) (sym a) f.1)
  follows_as (Refused t) p q g h m a f = (m ∙ f.0, subst (λ x. Follows M x TooDeep t) (sym a) f.1)
  follows_as (Calls c child t) p q g h m a f = (m ∙ f.0, f.1, subst (λ x. Back (ending child) t (Follows M x Returned t)) (sym a) f.2)
  follows_as (Barred c t) p q g h m a f = (m ∙ f.0, subst (λ x. Follows M x TooDeep t) (sym a) f.1)

  unpaid_as : (t : Run M.Call M.Item) (p q : M.Place) (g h : Told) → M.after p g ≡ M.after q h → unpaid M p g t ≡ unpaid M q h t
  unpaid_as Leaves p q g h a = refl
  unpaid_as Ends p q g h a = refl
  unpaid_as Spent p q g h a = ap (λ x. M.frames_at x ∷ []) a
  unpaid_as (Asks key value t) p q g h a = ap (λ x. unpaid M x (Answered value) t) a
  unpaid_as (Puts key value t) p q g h a = ap (λ x. unpaid M x Nothing t) a
  unpaid_as (Counts t) p q g h a = ap (λ x. unpaid M x Nothing t) a
  unpaid_as (Bumps t) p q g h a = ap (λ x. unpaid M x Nothing t) a
  unpaid_as (Emits item t) p q g h a = ap (λ x. unpaid M x Nothing t) a
  unpaid_as (Moves n t) p q g h a = ap (λ x. unpaid M x Nothing t) a
  unpaid_as (Deepens t) p q g h a = ap (λ x. unpaid M x Nothing t) a
  unpaid_as (Rises t) p q g h a = ap (λ x. unpaid M x Nothing t) a
  unpaid_as (Refused t) p q g h a = ap (λ x. unpaid M x TooDeep t) a
  unpaid_as (Calls c child t) p q g h a =
      ap (λ x. unpaid_back (ending child) (unpaid M (M.start c) Nothing child) (M.frames_at x) (unpaid M x Returned t)) a
  unpaid_as (Barred c t) p q g h a = ap (λ x. unpaid M x TooDeep t) a

module _ (M : MachineModel) (W : WorldModel) (last : List M.Item) where
  pub runs_as : (p q : M.Place) (g h : Told) (s : W.State) (f d o : ℕ) (e : Expansion M.Item M.Frames W.State) →
      M.move_at p g ≡ M.move_at q h → M.after p g ≡ M.after q h → HasRun M W last q h s f d o e → HasRun M W last p g s f d o e
  runs_as p q g h s f d o e m a r = record {
    run = r.run;
    plain = record { follows = follows_as M r.run p q g h m a r.plain.follows; agrees = r.plain.agrees; within = r.plain.within };
    gives = record {
      points = r.gives.points;
      world = r.gives.world;
      cost_is = r.gives.cost_is;
      ended = r.gives.ended;
      nested = r.gives.nested;
      unpaid_is = unpaid_as M r.run p q g h a ∙ r.gives.unpaid_is;
    };
  }

  -- what leaves the expansion as it is
  pub m_ask : (p : M.Place) (g : Told) (s : W.State) (f d o : ℕ) (e : Expansion M.Item M.Frames W.State) (key : Tree) →
      M.move_at p g ≡ Ask key →
      HasRun M W last (M.after p g) (Answered (W.answer s key)) s f d o e → HasRun M W last p g s f d o e
  m_ask p g s f d o e key m r = record {
    run = Asks key (W.answer s key) r.run;
    plain = record { follows = (m, r.plain.follows); agrees = (refl, r.plain.agrees); within = r.plain.within };
    gives = record {
      points = r.gives.points;
      world = r.gives.world;
      cost_is = r.gives.cost_is;
      ended = r.gives.ended;
      nested = r.gives.nested;
      unpaid_is = r.gives.unpaid_is;
    };
  }

  pub m_put : (p : M.Place) (g : Told) (s : W.State) (f d o : ℕ) (e : Expansion M.Item M.Frames W.State) (key value : Tree) →
      M.move_at p g ≡ Put key value →
      HasRun M W last (M.after p g) Nothing (W.after_put s key value) f d o e → HasRun M W last p g s f d o e
  m_put p g s f d o e key value m r = record {
    run = Puts key value r.run;
    plain = record { follows = (m, r.plain.follows); agrees = r.plain.agrees; within = r.plain.within };
    gives = record {
      points = r.gives.points;
      world = r.gives.world;
      cost_is = r.gives.cost_is;
      ended = r.gives.ended;
      nested = r.gives.nested;
      unpaid_is = r.gives.unpaid_is;
    };
  }

  pub m_bump : (p : M.Place) (g : Told) (s : W.State) (f d o : ℕ) (e : Expansion M.Item M.Frames W.State) → M.move_at p g ≡ Bump →
      HasRun M W last (M.after p g) Nothing (W.after_bump s 1) f d o e → HasRun M W last p g s f d o e
  m_bump p g s f d o e m r = record {
    run = Bumps r.run;
    plain = record { follows = (m, r.plain.follows); agrees = r.plain.agrees; within = r.plain.within };
    gives = record {
      points = r.gives.points;
      world = r.gives.world;
      cost_is = r.gives.cost_is;
      ended = r.gives.ended;
      nested = r.gives.nested;
      unpaid_is = r.gives.unpaid_is;
    };
  }

  pub m_at : (p : M.Place) (g : Told) (s : W.State) (f d o : ℕ) (e : Expansion M.Item M.Frames W.State) (n : ℕ) → M.move_at p g ≡ At n →
      HasRun M W last (M.after p g) Nothing (W.after_at s n) f d o e → HasRun M W last p g s f d o e
  m_at p g s f d o e n m r = record {
    run = Moves n r.run;
    plain = record { follows = (m, r.plain.follows); agrees = r.plain.agrees; within = r.plain.within };
    gives = record {
      points = r.gives.points;
      world = r.gives.world;
      cost_is = r.gives.cost_is;
      ended = r.gives.ended;
      nested = r.gives.nested;
      unpaid_is = r.gives.unpaid_is;
    };
  }

  pub m_rise : (p : M.Place) (g : Told) (s : W.State) (f d o : ℕ) (e : Expansion M.Item M.Frames W.State) → M.move_at p g ≡ Rise →
      HasRun M W last (M.after p g) Nothing s f d (o - 1) e → HasRun M W last p g s f d o e
  m_rise p g s f d o e m r = record {
    run = Rises r.run;
    plain = record { follows = (m, r.plain.follows); agrees = r.plain.agrees; within = r.plain.within };
    gives = record {
      points = r.gives.points;
      world = r.gives.world;
      cost_is = r.gives.cost_is;
      ended = r.gives.ended;
      nested = r.gives.nested;
      unpaid_is = r.gives.unpaid_is;
    };
  }

  pub m_refused : (p : M.Place) (g : Told) (s : W.State) (f d o : ℕ) (e : Expansion M.Item M.Frames W.State) → M.move_at p g ≡ Deepen →
      deepest_depth ≤ d + o →
      HasRun M W last (M.after p g) TooDeep s f d o e → HasRun M W last p g s f d o e
  m_refused p g s f d o e m full r = record {
    run = Refused r.run;
    plain = record { follows = (m, r.plain.follows); agrees = r.plain.agrees; within = (full, r.plain.within) };
    gives = record {
      points = r.gives.points;
      world = r.gives.world;
      cost_is = r.gives.cost_is;
      ended = r.gives.ended;
      nested = r.gives.nested;
      unpaid_is = r.gives.unpaid_is;
    };
  }

  -- what adds to it
  pub m_emit : (p : M.Place) (g : Told) (s : W.State) (f d o : ℕ) (e : Expansion M.Item M.Frames W.State) (item : M.Item) →
      M.move_at p g ≡ Emit item →
      HasRun M W (item ∷ []) (M.after p g) Nothing s f d o e → HasRun M W last p g s f d o (pointed item e)
  m_emit p g s f d o e item m r = record {
    run = Emits item r.run;
    plain = record { follows = (m, r.plain.follows); agrees = r.plain.agrees; within = r.plain.within };
    gives = record {
      points = ap (λ x. own item ∷ x) r.gives.points;
      world = r.gives.world;
      cost_is = r.gives.cost_is;
      ended = r.gives.ended;
      nested = r.gives.nested;
      unpaid_is = r.gives.unpaid_is;
    };
  }

  pub m_count : (p : M.Place) (g : Told) (s : W.State) (f d o : ℕ) (e : Expansion M.Item M.Frames W.State) → M.move_at p g ≡ Count →
      HasRun M W last (M.after p g) Nothing s f d o e → HasRun M W last p g s (suc f) d o (paid e)
  m_count p g s f d o e m r =
      let less : f ≡ suc f - 1 = omega arith in
      let some : 0 < suc f = omega arith in
      record {
        run = Counts r.run;
        plain = record {
          follows = (m, r.plain.follows);
          agrees = r.plain.agrees;
          within = (some, subst (λ x. Within x d o r.run) less r.plain.within);
        };
        gives = record {
          points = r.gives.points;
          world = r.gives.world;
          cost_is = ap (λ x. x + 1) r.gives.cost_is;
          ended = r.gives.ended;
          nested = r.gives.nested;
          unpaid_is = r.gives.unpaid_is;
        };
      }

  pub m_deepen : (p : M.Place) (g : Told) (s : W.State) (f d o : ℕ) (e : Expansion M.Item M.Frames W.State) → M.move_at p g ≡ Deepen →
      d + o < deepest_depth →
      HasRun M W last (M.after p g) Nothing s f d (o + 1) e → HasRun M W last p g s f d o (nesting (o + 1) e)
  m_deepen p g s f d o e m room r = record {
    run = Deepens r.run;
    plain = record { follows = (m, r.plain.follows); agrees = r.plain.agrees; within = (room, r.plain.within) };
    gives = record {
      points = r.gives.points;
      world = r.gives.world;
      cost_is = r.gives.cost_is;
      ended = r.gives.ended;
      nested = ap (max (o + 1)) r.gives.nested;
      unpaid_is = r.gives.unpaid_is;
    };
  }

  -- the ends
  pub m_leave : (p : M.Place) (g : Told) (s : W.State) (f d o : ℕ) → M.move_at p g ≡ Leave → HasRun M W last p g s f d o (ended_by ByLeave s)
  m_leave p g s f d o m = record {
    run = Leaves;
    plain = record { follows = m; agrees = tt; within = tt };
    gives = record { points = refl; world = refl; cost_is = refl; ended = refl; nested = refl; unpaid_is = refl };
  }

  pub m_end : (p : M.Place) (g : Told) (s : W.State) (f d o : ℕ) → M.move_at p g ≡ End → HasRun M W last p g s f d o (ended_by ByEnd s)
  m_end p g s f d o m = record {
    run = Ends;
    plain = record { follows = m; agrees = tt; within = tt };
    gives = record { points = refl; world = refl; cost_is = refl; ended = refl; nested = refl; unpaid_is = refl };
  }

  pub m_spent : (p : M.Place) (g : Told) (s : W.State) (d o : ℕ) → M.move_at p g ≡ Count →
      HasRun M W last p g s 0 d o (spent_at (M.frames_at (M.after p g)) s)
  m_spent p g s d o m = record {
    run = Spent;
    plain = record { follows = m; agrees = tt; within = refl };
    gives = record { points = refl; world = refl; cost_is = refl; ended = refl; nested = refl; unpaid_is = refl };
  }

  -- a nested call, by how it ends
  abbrev Child : M.Call → W.State → ℕ → ℕ → Expansion M.Item M.Frames W.State → Type 0
  Child c s f d ec = HasRun M W [] (M.start c) Nothing (W.after_enter s) f d 0 ec

  abbrev Rest : M.Place → W.State → ℕ → ℕ → ℕ → Expansion M.Item M.Frames W.State → Type 0
  Rest p s f d o er = HasRun M W last p Returned s f d o er

  left : (p : M.Place) (g : Told) (s : W.State) (f d o : ℕ) (c : M.Call) (ec er : Expansion M.Item M.Frames W.State) →
      M.move_at p g ≡ Enter c → d + o < deepest_depth →
      Child c s f (d + o + 1) ec → ec.ended ≡ ByLeave → Rest (M.after p g) (W.after_leave ec.world) (f - ec.cost) d o er →
      HasRun M W last p g s f d o (come_back ByLeave (o + 1) (M.frames_at (M.after p g)) W.after_leave (behind last ec) er)
  left p g s f d o c ec er m room child by rest =
      let ends : ending child.run ≡ ByLeave = child.gives.ended ∙ by in
      record {
        run = Calls c child.run rest.run;
        plain = record {
          follows = (
            m,
            child.plain.follows,
            subst (λ x. Back x rest.run (Follows M (M.after p g) Returned rest.run))
                (sym ends) rest.plain.follows,
          );
          agrees = (child.plain.agrees, subst (λ x. Agrees W (W.after_leave x) rest.run) (sym child.gives.world) rest.plain.agrees);
          within = (room, child.plain.within, subst (λ x. Within (f - x) d o rest.run) (sym child.gives.cost_is) rest.plain.within);
        };
        gives = record {
          points = ap (λ x. map (within last) x ++ traced last rest.run) child.gives.points ∙ ap (λ x. map (within last) ec.points ++ x) rest.gives.points;
          world = ap (λ x. after_run W (W.after_leave x) rest.run) child.gives.world ∙ rest.gives.world;
          cost_is = ap (λ x. x + cost rest.run) child.gives.cost_is ∙ ap (λ x. ec.cost + x) rest.gives.cost_is;
          ended = rest.gives.ended;
          nested = ap (λ x. max (o + 1 + x) (deepest o rest.run)) child.gives.nested ∙ ap (max (o + 1 + ec.nested)) rest.gives.nested;
          unpaid_is = ap (λ x. unpaid_back x (unpaid M (M.start c) Nothing child.run) (M.frames_at (M.after p g))
              (unpaid M (M.after p g) Returned rest.run)) ends ∙ rest.gives.unpaid_is;
        };
      }

  finished : (p : M.Place) (g : Told) (s : W.State) (f d o : ℕ) (c : M.Call) (ec er : Expansion M.Item M.Frames W.State) →
      M.move_at p g ≡ Enter c → d + o < deepest_depth →
      Child c s f (d + o + 1) ec → ec.ended ≡ ByEnd →
      HasRun M W last p g s f d o (come_back ByEnd (o + 1) (M.frames_at (M.after p g)) W.after_leave (behind last ec) er)
  finished p g s f d o c ec er m room child by =
      let ends : ending child.run ≡ ByEnd = child.gives.ended ∙ by in
      let Goes : Ending → Type 0 = λ x. Back {C = M.Call} {I = M.Item} x Ends (Follows M (M.after p g) Returned Ends) in
      let most : max (o + 1 + deepest 0 child.run) 0 ≡ o + 1 + deepest 0 child.run = omega arith in
      let all : cost child.run + 0 ≡ cost child.run = omega arith in
      record {
        run = Calls c child.run Ends;
        plain = record {
          follows = (m, child.plain.follows, subst Goes (sym ends) refl);
          agrees = (child.plain.agrees, tt);
          within = (room, child.plain.within, tt);
        };
        gives = record {
          points = append-nil (map (within last) (traced [] child.run)) ∙ ap (map (within last)) child.gives.points;
          world = ap W.after_leave child.gives.world;
          cost_is = all ∙ child.gives.cost_is;
          ended = sym by;
          nested = most ∙ ap (λ x. o + 1 + x) child.gives.nested;
          unpaid_is = ap (λ x. unpaid_back x (unpaid M (M.start c) Nothing child.run) (M.frames_at (M.after p g)) []) ends;
        };
      }

  starved : (p : M.Place) (g : Told) (s : W.State) (f d o : ℕ) (c : M.Call) (ec er : Expansion M.Item M.Frames W.State) →
      M.move_at p g ≡ Enter c → d + o < deepest_depth →
      Child c s f (d + o + 1) ec → ec.ended ≡ ByBudget →
      HasRun M W last p g s f d o (come_back ByBudget (o + 1) (M.frames_at (M.after p g)) W.after_leave (behind last ec) er)
  starved p g s f d o c ec er m room child by =
      let ends : ending child.run ≡ ByBudget = child.gives.ended ∙ by in
      let Goes : Ending → Type 0 = λ x. Back {C = M.Call} {I = M.Item} x Spent (Follows M (M.after p g) Returned Spent) in
      let most : max (o + 1 + deepest 0 child.run) 0 ≡ o + 1 + deepest 0 child.run = omega arith in
      let all : cost child.run + 0 ≡ cost child.run = omega arith in
      let took = spent_all child.run f (d + o + 1) 0 child.plain.within ends in
      let none : f - cost child.run ≡ 0 = omega arith in
      record {
        run = Calls c child.run Spent;
        plain = record {
          follows = (m, child.plain.follows, subst Goes (sym ends) refl);
          agrees = (child.plain.agrees, tt);
          within = (room, child.plain.within, none);
        };
        gives = record {
          points = append-nil (map (within last) (traced [] child.run)) ∙ ap (map (within last)) child.gives.points;
          world = ap W.after_leave child.gives.world;
          cost_is = all ∙ child.gives.cost_is;
          ended = sym by;
          nested = most ∙ ap (λ x. o + 1 + x) child.gives.nested;
          unpaid_is = ap (λ x. unpaid_back x (unpaid M (M.start c) Nothing child.run) (M.frames_at (M.after p g))
              (M.frames_at (M.after (M.after p g) Returned) ∷ [])) ends ∙ ap
              (λ x. x ++ M.frames_at (M.after p g) ∷ []) child.gives.unpaid_is;
        };
      }

  pub m_enter : (p : M.Place) (g : Told) (s : W.State) (f d o : ℕ) (c : M.Call) (ec er : Expansion M.Item M.Frames W.State) →
      M.move_at p g ≡ Enter c → d + o < deepest_depth →
      Child c s f (d + o + 1) ec → Rest (M.after p g) (W.after_leave ec.world) (f - ec.cost) d o er →
      HasRun M W last p g s f d o (come_back ec.ended (o + 1) (M.frames_at (M.after p g)) W.after_leave (behind last ec) er)
  m_enter p g s f d o c ec er m room child rest =
      let by : (x : Ending) → ec.ended ≡ x →
      HasRun M W last p g s f d o (come_back x (o + 1) (M.frames_at (M.after p g)) W.after_leave (behind last ec) er) = elim [
        | ByLeave ↦ λ is. left p g s f d o c ec er m room child is rest
        | ByEnd ↦ λ is. finished p g s f d o c ec er m room child is
        | ByBudget ↦ λ is. starved p g s f d o c ec er m room child is
      ] in
      by ec.ended refl
