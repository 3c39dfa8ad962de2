-- How many records a call makes that runs over a memo: a step, a nested call, and both together.
use Rattle.std.proofs.Common.{◌≡◌, ℕ, ◌+◌, ◌-◌, ◌<◌, ◌≤◌, Bool, true, false, cond, List, [], ◌∷◌, ◌++◌, Option, Some, None, map, length, refl, sym, ap, ◌∙◌, subst, arith}
use Rattle.kept_values.specs.Trees.{Tree}
use Rattle.trace_arena.specs.Nodes.{Node, node_at}
use Rattle.trace_arena.specs.Points.{last_before}
use Rattle.trace_arena.specs.Changes.{Begins}
use Rattle.asking_core.specs.Worlds.{WorldModel}
use Rattle.asking_core.specs.Machines.{MachineModel, EmitsOnceACount, Told, Nothing, Returned, Count, Enter}
use Rattle.asking_core.specs.Actions.{told_of}
use Rattle.asking_core.specs.Runs.{Ending, ByLeave, ByEnd, ByBudget, deepest_depth}
use Rattle.kept_outcomes.specs.Outcomes.{CallSummary, blank_summary}
use Rattle.kept_outcomes.specs.Moments.{Moment, begun, stepped, counted, come_back}
use Rattle.expansion_memo.specs.declared.walk.Walk.{Walk}
use Rattle.expansion_memo.specs.declared.running.Passed.{Passed}
use Rattle.expansion_memo.specs.declared.running.Passed.TheVariants as passed
use Rattle.expansion_memo.specs.Kept.{KeptOutcome, point_by, NoneHolds}
use Rattle.expansion_memo.specs.Entries.{ending_of}
use Rattle.expansion_memo.specs.Walks.{moment_at}
use Rattle.expansion_memo.specs.Within.{JoinsIn}
use Rattle.expansion_memo.specs.Running.{TakesUnit, GoesBack, HoldsSomewhere}
use Rattle.expansion_memo.specs.Records.{CallMakes, makes_none, makes_some, Makes, AreKeptIn, LeadsMaking, PassMakes, owed}
use Rattle.expansion_memo.proofs.Walking.{same_moment}
use Rattle.expansion_memo.proofs.Making.{makes_count, makes_spent, making_enter, making_end_within, making_spent_within, leads_making}

-- what a call made so far, up to the next unit
abbrev pub UnitMaking : (M : MachineModel) (W : WorldModel) → (Tree → M.Call) → {L K V I : Type 0} → (L → M.Place) → (I → M.Item) → (M.Place → Bool) → (fuel depth : ℕ) → (v w : Walk L K V) → Told →
    (s t : W.State) → (old new : List (Node I)) → (made now : ℕ) → List (Option KeptOutcome) → Type 0
UnitMaking M W call_of place item_of marked fuel depth v w told s t old new made now base = (kept : List (Option KeptOutcome)) → AreKeptIn kept base →
    LeadsMaking M W call_of kept fuel depth (moment_at M W place item_of v Nothing s old) (owed marked made (place v.local)) (moment_at M W place item_of w told t new) (owed marked now (place w.local))

-- and from its beginning
abbrev pub CallMaking : (M : MachineModel) (W : WorldModel) → (Tree → M.Call) → {L K V I : Type 0} → (L → M.Place) → (I → M.Item) → (M.Place → Bool) → (fuel depth : ℕ) → M.Call → (w : Walk L K V) →
    (s t : W.State) → (new : List (Node I)) → (made now : ℕ) → List (Option KeptOutcome) → Type 0
CallMaking M W call_of place item_of marked fuel depth call w s t new made now base = (kept : List (Option KeptOutcome)) → AreKeptIn kept base →
    LeadsMaking M W call_of kept fuel depth (begun M W call s) made (moment_at M W place item_of w Nothing t new) (owed marked now (place w.local))

blank_by : (made now : ℕ) (b : Bool) → b ≡ false → now ≡ made → now + cond b 1 0 ≤ made
blank_by made now true off same = cc
blank_by made now false off same = omega arith

pub call_making_begins : (M : MachineModel) (W : WorldModel) (call_of : Tree → M.Call) {L K V I : Type 0} (place : L → M.Place) (item_of : I → M.Item) (marked : M.Place → Bool) (fuel depth : ℕ) (call : M.Call)
    (w : Walk L K V) (s : W.State) (old new : List (Node I)) (made now : ℕ) (base : List (Option KeptOutcome)) → EmitsOnceACount M marked → Begins old new w.node.0 → place w.local ≡ M.start call →
    w.summary ≡ blank_summary → w.frames ≡ 0 → now ≡ made → CallMaking M W call_of place item_of marked fuel depth call w s s new made now base
call_making_begins M W call_of place item_of marked fuel depth call w s old new made now base law b start blank none same kept in_base =
    let first : moment_at M W place item_of w Nothing s new ≡ begun M W call s =
    same_moment M W (moment_at M W place item_of w Nothing s new) (begun M W call s) start refl refl (ap (map (point_by item_of)) b.points)
    (ap (λ is. map item_of (last_before (length is) is)) b.items) blank none in
    let L : Moment M W → Type 0 = λ m. LeadsMaking M W call_of kept fuel depth (begun M W call s) made m (owed marked now (place w.local)) in
    let le : owed marked now (place w.local) ≤ made = blank_by made now (marked (place w.local)) (ap marked start ∙ law.starts call) same in
    subst L (sym first) (leads_making M W call_of depth kept fuel (begun M W call s) (begun M W call s) made (owed marked now (place w.local)) le (λ n x. x))

module _ (M : MachineModel) (W : WorldModel) (call_of : Tree → M.Call) (kept : List (Option KeptOutcome)) (fuel depth : ℕ) {F V : Type 0} (value : V → Tree) (frames : F → M.Frames) (a : Moment M W) where
  -- a unit of fuel
  pub pass_makes_count : {L K T I : Type 0} (place : L → M.Place) (item : I → M.Item) (v w : Walk L K T) (s : W.State) (nodes : List (Node I)) (now before after : ℕ) (p : Passed V F) →
      after ≤ before + 1 → now ≤ before → M.move_at a.place a.given ≡ Count → moment_at M W place item v Nothing s nodes ≡ stepped a →
      TakesUnit frames (M.frames_at (place v.local)) fuel v w p →
      PassMakes M W value call_of kept fuel depth a (λ g. moment_at M W place item w g s nodes) now before after p
  pass_makes_count place item v w s nodes now before after (passed.On g) more le is eq t = absurd t
  pass_makes_count {L} {K} {T} place item v w s nodes now before after passed.Counted more le is eq t =
      let units : v.summary.units ≡ a.summary.units = ap (λ (m : Moment M W). m.summary.units) eq in
      let some = t.0 in
      let told : moment_at M W place item w Nothing s nodes ≡ counted (stepped a) =
      ap (λ (x : Walk L K T). moment_at M W place item x Nothing s nodes) t.1 ∙ ap (λ (m : Moment M W). counted m) eq in
      makes_count M W call_of depth kept fuel a (moment_at M W place item w Nothing s nodes) before after more is (omega arith) told
  pass_makes_count {L} {K} {T} place item v w s nodes now before after (passed.Done close) more le is eq t =
      let units : v.summary.units ≡ a.summary.units = ap (λ (m : Moment M W). m.summary.units) eq in
      makes_spent M W call_of depth kept fuel a is (sym units ∙ t.0) (now - before) (omega arith)

  -- a nested call: so many records were made before it, and so many behind it, and its caller owes one where it did
  module _ (rebased : Tree → Tree → ℕ → Tree) (c : M.Call) (is : M.move_at a.place a.given ≡ Enter c) (room : depth + a.frames < deepest_depth) (after : Moment M W)
      (made now mark before owing : ℕ) (le : made + mark ≤ before) (owing_is : owing ≡ now + mark) where
    entered : (e : Ending) (ws : List M.Frames) (j : JoinsIn M W rebased fuel depth c (stepped a) after e ws) →
        CallMakes call_of (λ tree. HoldsSomewhere W (W.after_enter a.state) (fuel - a.summary.units) (depth + a.frames + 1) tree kept) c j.child.summary.units (now - made) →
        (b : Told → Moment M W) → b Returned ≡ after → (here : M.Frames) → (p : Passed V F) → GoesBack value frames here e ws p →
        PassMakes M W value call_of kept fuel depth a b now before owing p
    entered ByLeave ws j makes b back here (passed.On g) t =
        let told : b (told_of value g) ≡ come_back rebased (stepped a) j.child = ap b t ∙ back ∙ j.after_is in
        λ total x.
        let P : Moment M W → Type 0 = λ m. Makes M W call_of kept fuel depth m (total - owing) in
        making_enter M W call_of depth kept fuel rebased a c j.child is room (total - before) (now - made) makes j.comes j.ended_is (total - owing) (omega arith) (subst P told x)
    entered ByLeave ws j makes b back here passed.Counted t = absurd t
    entered ByLeave ws j makes b back here (passed.Done close) t = absurd t
    entered ByEnd ws j makes b back here (passed.On g) t = absurd t
    entered ByEnd ws j makes b back here passed.Counted t = absurd t
    entered ByEnd ws j makes b back here (passed.Done close) t =
        making_end_within M W call_of depth kept fuel rebased a c j.child is room (now - before) (now - made) makes j.comes j.ended_is (omega arith)
    entered ByBudget ws j makes b back here (passed.On g) t = absurd t
    entered ByBudget ws j makes b back here passed.Counted t = absurd t
    entered ByBudget ws j makes b back here (passed.Done close) t =
        making_spent_within M W call_of depth kept fuel rebased a c j.child is room (now - before) (now - made) makes j.comes j.ended_is (omega arith)

    pub pass_makes_enter : {L K T I : Type 0} (place : L → M.Place) (item : I → M.Item) (v w : Walk L K T) (s t : W.State) (nodes new : List (Node I)) (e : Ending) (ws : List M.Frames) (p : Passed V F) →
        moment_at M W place item v Nothing s nodes ≡ stepped a → moment_at M W place item w Returned t new ≡ after →
        JoinsIn M W rebased fuel depth c (moment_at M W place item v Nothing s nodes) after e ws →
        CallMakes call_of (λ tree. HoldsSomewhere W (W.after_enter s) (fuel - v.summary.units) (depth + v.frames + 1) tree kept) c (w.summary.units - v.summary.units) (now - made) →
        GoesBack value frames (M.frames_at (place w.local)) e ws p →
        PassMakes M W value call_of kept fuel depth a (λ g. moment_at M W place item w g t new) now before owing p
    pass_makes_enter place item v w s t nodes new e ws p eq told j makes goes =
        let J : Moment M W → Type 0 = λ m. JoinsIn M W rebased fuel depth c m after e ws in
        let k : JoinsIn M W rebased fuel depth c (stepped a) after e ws = subst J eq j in
        let X : Moment M W → Type 0 = λ m.
        CallMakes call_of (λ tree. HoldsSomewhere W (W.after_enter m.state) (fuel - m.summary.units) (depth + m.frames + 1) tree kept) c (w.summary.units - m.summary.units) (now - made) in
        let mine : X (stepped a) = subst X eq makes in
        let units : w.summary.units ≡ a.summary.units + k.child.summary.units = ap (λ (m : Moment M W). m.summary.units) told ∙ ap (λ (m : Moment M W). m.summary.units) k.after_is in
        let paid : w.summary.units - a.summary.units ≡ k.child.summary.units = omega arith in
        let Y : ℕ → Type 0 = λ n. CallMakes call_of (λ tree. HoldsSomewhere W (W.after_enter a.state) (fuel - a.summary.units) (depth + a.frames + 1) tree kept) c n (now - made) in
        entered e ws k (subst Y paid mine) (λ g. moment_at M W place item w g t new) told (M.frames_at (place w.local)) p goes

-- a nested call that was taken makes none, and one that ran no more than it costs, of which nothing that was kept holds
pub call_taken : {C : Type 0} (call_of : Tree → C) (Holds : Tree → Type 0) (c : C) (paid made now : ℕ) → now ≡ made → CallMakes call_of Holds c paid (now - made)
call_taken call_of Holds c paid made now same = makes_none (omega arith)

pub call_ran : {C : Type 0} (W : WorldModel) (s : W.State) (fuel depth : ℕ) (call_of : Tree → C) (kept base : List (Option KeptOutcome)) (call : Tree) (paid inner : ℕ) → AreKeptIn kept base →
    NoneHolds W s fuel depth call base → inner ≤ paid → CallMakes call_of (λ tree. HoldsSomewhere W s fuel depth tree kept) (call_of call) paid inner
call_ran W s fuel depth call_of kept base call paid inner in_base none le =
    makes_some call refl (λ h. none h.at (record { outcome = h.there.outcome; at = in_base h.at h.there.outcome h.there.at; holds = h.there.holds })) le
