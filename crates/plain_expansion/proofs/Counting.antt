-- Each unit of fuel is a point, and no frame stands deeper than the limit.
use Rattle.std.proofs.Common.{◌≡◌, ◌<◌, ◌≤◌, ℕ, zero, suc, ◌+◌, ◌-◌, Bool, true, false, cond, nat_lt, List, [], ◌∷◌, length, Option, Some, None, refl, ◌∙◌, subst, arith, length-append}
use Rattle.std.proofs.lemmas.List.{length-map}
use Rattle.trace_arena.specs.Points.{within}
use Rattle.asking_core.specs.Worlds.{WorldModel}
use Rattle.asking_core.specs.Runs.{Ending, ByLeave, ByEnd, ByBudget, deepest_depth}
use Rattle.plain_expansion.specs.Questions.{result_by}
use Rattle.plain_expansion.specs.Language.{Level, Stack, Entry, Nowhere, Calling, Copying, Act, Continues, Skips, Branches, Enters, Returns, Finishes, Effect, Fault, Point, Language}
use Rattle.plain_expansion.specs.Expansion.{stepped, place_of, Going, GoesOn, GoesBack, GoesOut, GoesIn, carried, first_stack, copying, statement_at, met_from, outermost, put_each, placed, answers_of, Expansion, ended_by, spent_at, pointed, behind, paid, nesting, come_back, Expands, called, entered, followed, processed, met_with, expand, branched}
use Rattle.plain_expansion.specs.Laws.{EachUnitIsAPoint}

-- the same, where so many points were not paid yet, at so many open frames
record Counts {I F A : Type 0} (more fuel depth : ℕ) (e : Expansion I F A) : Type 0 where
  each : length e.points ≡ e.cost + more
  enough : e.cost ≤ fuel
  starved : e.ended ≡ ByBudget → e.cost ≡ fuel
  owing : (e.ended ≡ ByBudget → ⊥) → e.unpaid ≡ []
  shallow : depth + e.nested ≤ deepest_depth

c_pointed : {I F A : Type 0} (i : I) (fuel depth : ℕ) (e : Expansion I F A) → Counts 0 fuel depth e → Counts 1 fuel depth (pointed i e)
c_pointed i fuel depth e c = record {
  each = let more = c.each in omega arith;
  enough = c.enough;
  starved = c.starved;
  owing = c.owing;
  shallow = c.shallow;
}

c_paid : {I F A : Type 0} (fuel depth : ℕ) (e : Expansion I F A) → Counts 1 fuel depth e → Counts 0 (suc fuel) depth (paid e)
c_paid fuel depth e c = record {
  each = let more = c.each in omega arith;
  enough = let less = c.enough in omega arith;
  starved = λ is. let all = c.starved is in omega arith;
  owing = c.owing;
  shallow = c.shallow;
}

c_behind : {I F A : Type 0} (calls : List I) (more fuel depth : ℕ) (e : Expansion I F A) → Counts more fuel depth e →
    Counts more fuel depth (behind calls e)
c_behind calls more fuel depth e c = record {
  each = length-map e.points (within calls) ∙ c.each;
  enough = c.enough;
  starved = c.starved;
  owing = c.owing;
  shallow = c.shallow;
}

c_nesting : {I F A : Type 0} (frames fuel depth : ℕ) (e : Expansion I F A) → depth + frames ≤ deepest_depth → Counts 1 fuel depth e →
    Counts 1 fuel depth (nesting frames e)
c_nesting frames fuel depth e room c = record {
  each = c.each;
  enough = c.enough;
  starved = c.starved;
  owing = c.owing;
  shallow = let deep = c.shallow in omega arith;
}

c_ended : {I F A : Type 0} (end : Ending) (s : A) (fuel depth : ℕ) → (end ≡ ByBudget → ⊥) → depth ≤ deepest_depth →
    (let e : Expansion I F A = ended_by end s in Counts 0 fuel depth e)
c_ended end s fuel depth other room = record {
  each = refl;
  enough = omega arith;
  starved = λ is. absurd (other is);
  owing = λ is. refl;
  shallow = omega arith;
}

c_spent : {I F A : Type 0} (frames : F) (s : A) (depth : ℕ) → depth ≤ deepest_depth →
    (let e : Expansion I F A = spent_at frames s in Counts 0 0 depth e)
c_spent frames s depth room = record {
  each = refl;
  enough = omega arith;
  starved = λ is. refl;
  owing = λ is. absurd (is refl);
  shallow = omega arith;
}

c_back : {I F A : Type 0} (within fuel depth : ℕ) (frames : F) (leave : A → A) (child rest : Expansion I F A) →
    Counts 0 fuel (depth + within) child →
    Counts 0 (fuel - child.cost) depth rest → (end : Ending) → child.ended ≡ end →
    Counts 0 fuel depth (come_back end within frames leave child rest)
c_back within fuel depth frames leave child rest c r ByLeave is = record {
  each = let a = c.each in let b = r.each in let sum = length-append child.points rest.points in omega arith;
  enough = let a = c.enough in let b = r.enough in omega arith;
  starved = λ last. let a = c.enough in let b = r.starved last in omega arith;
  owing = r.owing;
  shallow = let a = c.shallow in let b = r.shallow in omega arith;
}
c_back within fuel depth frames leave child rest c r ByEnd is = record {
  each = c.each;
  enough = c.enough;
  starved = c.starved;
  owing = λ other. refl;
  shallow = let a = c.shallow in omega arith;
}
c_back within fuel depth frames leave child rest c r ByBudget is = record {
  each = c.each;
  enough = c.enough;
  starved = c.starved;
  owing = λ other. absurd (other is);
  shallow = let a = c.shallow in omega arith;
}

not_budget-leave : ByLeave ≡ ByBudget → ⊥
not_budget-leave is = cc

not_budget-end : ByEnd ≡ ByBudget → ⊥
not_budget-end is = cc

module _ (L : Language) (W : WorldModel) where
  -- of a definition of expansion, below so much fuel
  abbrev CountsTo : Expands L W → ℕ → Type 0
  CountsTo rec gas = (x : Stack L.words) (s : W.State) (f d : ℕ) → f < gas → d + length x.below ≤ deepest_depth → Counts 0 f d (rec x s f d)

  module _ (rec : Expands L W) (gas : ℕ) (counts : CountsTo rec gas) where
    c_called : (i : L.Item) (c : L.words.Call) (x : Stack L.words) (s : W.State) (f d : ℕ) → f < gas → d + length x.below < deepest_depth →
        Counts 0 f d (called L W rec i c x s f d)
    c_called i c x s f d enough room =
        let frames : ℕ = length x.below + 1 in
        let deeper : d + length x.below + 1 ≡ d + frames = omega arith in
        let open_still : d + length x.below ≤ deepest_depth = omega arith in
        let start : Stack L.words = first_stack L c (answers_of W s (L.entry_keys c)) in
        let child : Expansion L.Item L.Frames W.State = rec start s f (d + length x.below + 1) in
        let left : f - child.cost < gas = omega arith in
        let roomy : d + length x.below + 1 + 0 ≤ deepest_depth = omega arith in
        let At_depth : ℕ → Type 0 = λ y. Counts 0 f y child in
        c_back frames f d (L.frames_of (x.here ∷ x.below)) W.after_leave (behind (i ∷ []) child)
        (rec (stepped x) (W.after_leave child.world) (f - child.cost) d)
        (c_behind (i ∷ []) 0 f (d + frames) child (subst At_depth deeper (counts start s f (d + length x.below + 1) enough roomy)))
        (counts (stepped x) (W.after_leave child.world) (f - child.cost) d left open_still) child.ended refl

    c_entered : (i : L.Item) (entry : Entry L.words) (x : Stack L.words) (s : W.State) (f d : ℕ) → f < gas → d + length x.below < deepest_depth →
        Counts 0 f d (entered L W rec i entry x s f d)
    c_entered i Nowhere x s f d enough room = let still : d + length x.below ≤ deepest_depth = omega arith in
        counts (stepped x) s f d enough still
    c_entered i (Calling c puts) x s f d enough room = c_called i c x (W.after_enter (put_each W (W.after_bump s 1) puts)) f d enough room
    c_entered i (Copying l) x s f d enough room = let still : d + length (copying l x).below ≤ deepest_depth = omega arith in
        counts (copying l x) s f d enough still

    c_tried : (i j : L.Item) (entry : Entry L.words) (x : Stack L.words) (s : W.State) (f d : ℕ) (b : Bool) →
        nat_lt (d + length x.below) deepest_depth ≡ b → f < gas → d + length x.below ≤ deepest_depth →
        Counts 1 f d (cond b (nesting (length x.below + 1) (pointed i (entered L W rec i entry x s f d))) (pointed j (rec (stepped x) s f d)))
    c_tried i j entry x s f d true is enough still =
        let room : d + length x.below < deepest_depth = grind arith in
        let more : d + (length x.below + 1) ≤ deepest_depth = omega arith in
        c_nesting (length x.below + 1) f d (pointed i (entered L W rec i entry x s f d)) more
        (c_pointed i f d (entered L W rec i entry x s f d) (c_entered i entry x s f d enough room))
    c_tried i j entry x s f d false is enough still = c_pointed j f d (rec (stepped x) s f d) (counts (stepped x) s f d enough still)

    -- going on does not change how many frames stand open
    abbrev IsSteady : Going L.words → Stack L.words → Type 0
    IsSteady (GoesOn point puts next) x = length next.below ≡ length x.below
    IsSteady (GoesBack point) x = Unit {0}
    IsSteady (GoesOut point) x = Unit {0}
    IsSteady (GoesIn point limited entry) x = Unit {0}

    c_followed : (going : Going L.words) (x : Stack L.words) (s : W.State) (f d : ℕ) → IsSteady going x → f < gas →
        d + length x.below ≤ deepest_depth → Counts 1 f d (followed L W rec going x s f d)
    c_followed (GoesOn point puts next) x s f d steady enough still =
        let there : d + length next.below ≤ deepest_depth = omega arith in
        c_pointed (L.item_of point) f d (rec next (put_each W s puts) f d) (counts next (put_each W s puts) f d enough there)
    c_followed (GoesBack point) x s f d steady enough still =
        let deep : d ≤ deepest_depth = omega arith in
        c_pointed (L.item_of point) f d (ended_by ByLeave s) (c_ended ByLeave s f d not_budget-leave deep)
    c_followed (GoesOut point) x s f d steady enough still =
        let deep : d ≤ deepest_depth = omega arith in
        c_pointed (L.item_of point) f d (ended_by ByEnd s) (c_ended ByEnd s f d not_budget-end deep)
    c_followed (GoesIn point limited entry) x s f d steady enough still =
        c_tried (L.item_of point) (L.item_of limited) entry x s f d (nat_lt (d + length x.below) deepest_depth) refl enough still

    branched_steady : (n : Option ℕ) (known : Option L.words.Known) (point : Fault → Point L.words) (x : Stack L.words) →
        IsSteady (branched n known point x) x
    branched_steady None known point x = refl
    branched_steady (Some n) None point x = tt
    branched_steady (Some n) (Some known) point x = refl

    carried_steady : (said : L.words.Said) (act : Act L.words) (x : Stack L.words) → IsSteady (carried L said act x) x
    carried_steady said (Continues known puts) x = refl
    carried_steady said (Skips position known puts) x = refl
    carried_steady said (Branches label known) x =
        branched_steady (place_of L x.here.listing label) known
        (λ fault. record { stack = x; said = said; fault = fault }) x
    carried_steady said (Enters limited entry) x = tt
    carried_steady said Returns x = tt
    carried_steady said Finishes x = tt

    c_met : (o : Option L.words.Statement) (x : Stack L.words) (l : Level L.words) (ls : List (Level L.words)) (s : W.State) (f d : ℕ) →
        f < suc gas → d + length ls ≤ deepest_depth →
        Counts 0 f d (met_with L W rec (met_from L o l ls) x s f d)
    c_met (Some statement) x l ls s zero d enough still = let deep : d ≤ deepest_depth = omega arith in
        c_spent (L.frames_of (l ∷ ls)) s d deep
    c_met (Some statement) x l ls s (suc f) d enough still =
        let y : Stack L.words = record x { here = l; below = ls } in
        let now : W.State = placed W x.is_open_code s (outermost l ls) in
        let less : f < gas = omega arith in
        let effect : Effect L.words = result_by (W.answer now) (L.effect_of statement y.known) in
        c_paid f d (processed L W rec statement y now f d)
        (c_followed (carried L effect.said effect.act y) y now f d (carried_steady effect.said effect.act y) less still)
    c_met None x l [] s f d enough still = let deep : d ≤ deepest_depth = omega arith in c_ended ByLeave s f d not_budget-leave deep
    c_met None x l (m ∷ ls) s f d enough still = let fewer : d + length ls ≤ deepest_depth = omega arith in
        c_met (statement_at L m) x m ls s f d enough fewer

  expand_counts : (gas : ℕ) → CountsTo (expand gas L W) gas
  expand_counts zero x s f d enough still = absurd (omega arith)
  expand_counts (suc gas) x s f d enough still = c_met (expand gas L W) gas (expand_counts gas)
      (statement_at L x.here) x x.here x.below s f d enough still

  pub each_unit_is_a_point : EachUnitIsAPoint L W
  each_unit_is_a_point c s f d room =
      let start : Stack L.words = first_stack L c (answers_of W s (L.entry_keys c)) in
      let enough : f < f + 1 = omega arith in
      let top : d + length start.below ≤ deepest_depth = omega arith in
      let all = expand_counts (f + 1) start s f d enough top in
      record {
        each = let points = all.each in omega arith;
        enough = all.enough;
        starved = all.starved;
        owing = all.owing;
        shallow = all.shallow;
      }
