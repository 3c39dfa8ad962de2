-- A call that runs over a memo: what each part leaves, and what they come to together.
use Rattle.std.proofs.Common.{IfOk, OnOk, Result, Ok, Err, ◌≡◌, ◌≢◌, ℕ, ◌+◌, ◌-◌, ◌<◌, ◌≤◌, ◌||◌, Bool, true, false, cond, List, [], ◌∷◌, ◌++◌, Option, Some, None, map, length, refl, sym, ap, ◌∙◌, subst, inl, inr, arith}
use Rattle.std.proofs.lemmas.Bool.{cases_eq}
use Rattle.std.proofs.lemmas.List.{map-append}
use Rattle.std.proofs.Math.Seq.{get_or-append_seam}
use Rattle.kept_values.specs.Trees.{Tree}
use Rattle.trace_arena.specs.declared.node.NodeId.{NodeId}
use Rattle.trace_arena.specs.Nodes.{Node, node_at, IsLive}
use Rattle.trace_arena.specs.Whole.{IsWhole}
use Rattle.trace_arena.specs.Points.{points, within, last_before}
use Rattle.trace_arena.specs.Changes.{Stays, Begins, Links, Recounts, last_item}
use Rattle.asking_core.specs.Worlds.{WorldModel, Fits}
use Rattle.asking_core.specs.Machines.{MachineModel, Modest, Told, Nothing, Returned, Count, Enter}
use Rattle.asking_core.specs.Actions.{told_of}
use Rattle.asking_core.specs.Runs.{Ending, ByLeave, ByEnd, ByBudget, deepest_depth}
use Rattle.kept_outcomes.specs.Outcomes.{CallSummary, IsOutcome, HasRoom, blank_summary}
use Rattle.kept_outcomes.specs.Moments.{Moment, Finish, Comes, Leads, begun, stepped, finished, come_back, counted, joined}
use Rattle.kept_outcomes.proofs.Steps.{leads_count, comes_spent}
use Rattle.kept_outcomes.proofs.Nested.{leads_enter, comes_end_within, comes_spent_within}
use Rattle.kept_outcomes.proofs.Stands.{runs_are_outcomes, units_le, levels_le, nothing_left}
use Rattle.expansion_memo.specs.declared.walk.Walk.{Walk}
use Rattle.expansion_memo.specs.declared.running.Closing.{Closing}
use Rattle.expansion_memo.specs.declared.running.Ran.{Ran}
use Rattle.expansion_memo.specs.declared.running.Passed.{Passed}
use Rattle.expansion_memo.specs.declared.running.Passed.TheVariants as passed
use Rattle.expansion_memo.specs.Kept.{KeptOutcome, kept_at, point_by, points_by, Stands, AllStand}
use Rattle.expansion_memo.specs.Entries.{ending_of}
use Rattle.expansion_memo.specs.Walks.{moment_at, OnlyAppends}
use Rattle.expansion_memo.specs.Within.{NotKept, JoinsIn, Absorbs}
use Rattle.expansion_memo.specs.Running.{IsUnderway, Lasts, LeavesOthers, IsSound, WentOn, Passes, Progresses, TakesUnit, GoesBack, IsRun, IsHandedOut, MayBeKept, HoldsSomewhere, is_wanting, with_outcome}
use Rattle.expansion_memo.proofs.KeptLists.{kept_push, kept_more}
use Rattle.expansion_memo.proofs.Reused.{stand_push, point_within}
use Rattle.expansion_memo.proofs.Walking.{same_moment}

module _ {I : Type 0} where
  lasts_all : (old new : List (Node I)) (y : ℕ) → IsLive old y → Stays old new y → Lasts old new y
  lasts_all old new y live s = record {
    live = (let o = s.owners in omega arith);
    points = s.keeps.points;
    owners = (let o = s.owners in let p = s.parents in omega arith);
  }

  underway_stays : (old new : List (Node I)) (kept : List (Option KeptOutcome)) (y : ℕ) → IsUnderway old kept y → Stays old new y →
      IsUnderway new kept y × ((node_at new y).items ≡ (node_at old y).items)
  underway_stays old new kept y u s = (
    record {
      unshared = record { maker = s.owners ∙ u.unshared.maker; no_parent = s.parents ∙ u.unshared.no_parent };
      apart = u.apart;
    },
    s.keeps.items,
  )

  pub others_stay : (old new : List (Node I)) (kept : List (Option KeptOutcome)) (x : ℕ) → ((y : ℕ) → y ≢ x → Stays old new y) → LeavesOthers x old new kept kept
  others_stay old new kept x stays = record {
    lasts = λ y ne live. lasts_all old new y live (stays y ne);
    underway = λ y ne u. underway_stays old new kept y u (stays y ne);
    still = λ i o at. at;
  }

  pub others_none : (nodes : List (Node I)) (kept : List (Option KeptOutcome)) (x : ℕ) → LeavesOthers x nodes nodes kept kept
  others_none nodes kept x = others_stay nodes nodes kept x (λ y ne. record { keeps = record { items = refl; links = refl; points = refl }; owners = refl; parents = refl })

  pub others_then : (a b d : List (Node I)) (k l m : List (Option KeptOutcome)) (x : ℕ) → LeavesOthers x a b k l → LeavesOthers x b d l m → LeavesOthers x a d k m
  others_then a b d k l m x one two = record {
    lasts = λ y ne live.
        let p = one.lasts y ne live in
        let q = two.lasts y ne p.live in
        record { live = q.live; points = q.points ∙ p.points; owners = q.owners ∙ p.owners };
    underway = λ y ne u.
        let p = one.underway y ne u in
        let q = two.underway y ne p.0 in
        (q.0, q.1 ∙ p.1);
    still = λ i o at. two.still i o (one.still i o at);
  }

  linked_lasts : (old new : List (Node I)) (x child : ℕ) → IsLive old child → Links old new x child → Lasts old new child
  linked_lasts old new x child live l = record {
    live = (let more = l.owners in omega arith);
    points = l.stands.points;
    owners = (let more = l.owners in let links = l.parents in omega arith);
  }

  -- where a kept node is linked
  pub others_link : (old new : List (Node I)) (kept : List (Option KeptOutcome)) (x child i : ℕ) (o : KeptOutcome) → kept_at kept i ≡ Some o → o.node ≡ child → IsLive old child →
      Links old new x child → LeavesOthers x old new kept kept
  others_link old new kept x child i o at is alive l = record {
    lasts = λ y ne live. elim (cases_eq y child) [
      | inl e ↦ (
          let L : ℕ → Type 0 = Lasts old new in
          subst L (sym e) (linked_lasts old new x child alive l)
          )
      | inr differ ↦ lasts_all old new y live (l.others y ne differ)
    ];
    underway = λ y ne u. underway_stays old new kept y u (l.others y ne (λ e. u.apart i o at (is ∙ sym e)));
    still = λ j p there. there;
  }

  pub not_free : (nodes : List (Node I)) (y c : ℕ) → 0 < (node_at nodes y).owners → (node_at nodes c).owners ≡ 0 → y ≢ c
  not_free nodes y c live free e =
      let same : (node_at nodes y).owners ≡ (node_at nodes c).owners = ap (λ z. (node_at nodes z).owners) e in
      omega arith

  underway_live : (nodes : List (Node I)) (kept : List (Option KeptOutcome)) (y : ℕ) → IsUnderway nodes kept y → 0 < (node_at nodes y).owners
  underway_live nodes kept y u = let m = u.unshared.maker in omega arith

  -- where a nested call ran in a node that was free, and was absorbed
  pub others_absorbed : (old mid new : List (Node I)) (kept l m : List (Option KeptOutcome)) (x c : ℕ) → (node_at old c).owners ≡ 0 → LeavesOthers c old mid kept l →
      Absorbs mid new x c → ((y : ℕ) → y ≢ c → NotKept l y → NotKept m y) → ((i : ℕ) (o : KeptOutcome) → kept_at l i ≡ Some o → kept_at m i ≡ Some o) → LeavesOthers x old new kept m
  others_absorbed old mid new kept l m x c was_free one a more still = record {
    lasts = λ y ne live.
        let differ = not_free old y c live was_free in
        let p = one.lasts y differ live in
        let q = a.lasts y ne p.live in
        record { live = q.0; points = q.1 ∙ p.points; owners = a.owners y ne differ p.live ∙ p.owners };
    underway = λ y ne u.
        let differ = not_free old y c (underway_live old kept y u) was_free in
        let p = one.underway y differ u in
        let q = a.underway y ne differ p.0.unshared in
        (record { unshared = q.0; apart = more y differ p.0.apart }, q.1 ∙ p.1);
    still = λ i o at. still i o (one.still i o at);
  }

  -- and its caller's node
  pub underway_absorbed : (old mid new : List (Node I)) (kept l m : List (Option KeptOutcome)) (x c : ℕ) → (node_at old c).owners ≡ 0 → LeavesOthers c old mid kept l →
      Absorbs mid new x c → ((y : ℕ) → y ≢ c → NotKept l y → NotKept m y) → IsUnderway old kept x → IsUnderway new m x
  underway_absorbed old mid new kept l m x c was_free one a more u =
      let differ = not_free old x c (underway_live old kept x u) was_free in
      record { unshared = a.unshared; apart = more x differ (one.underway x differ u).0.apart }

  -- the points of the caller's node then
  pub absorbed_points : {J : Type 0} (f : I → J) (old mid new : List (Node I)) (kept l : List (Option KeptOutcome)) (x c : ℕ) → (node_at old c).owners ≡ 0 →
      LeavesOthers c old mid kept l → Absorbs mid new x c → IsUnderway old kept x →
      points_by f new x ≡ points_by f old x ++ map (within (map f (last_item old x))) (points_by f mid c)
  absorbed_points f old mid new kept l x c was_free one a u =
      let live = underway_live old kept x u in
      let differ = not_free old x c live was_free in
      let same : points mid x ≡ points old x = (one.lasts x differ live).points in
      let items = (one.underway x differ u).1 in
      let last : last_item mid x ≡ last_item old x = ap (λ is. last_before (length is) is) items in
      ap (map (point_by f)) a.behind
      ∙ ap (λ ps. map (point_by f) (ps ++ map (within (last_item mid x)) (points mid c))) same
      ∙ ap (λ is. map (point_by f) (points old x ++ map (within is) (points mid c))) last
      ∙ map-append (point_by f) (points old x) (map (within (last_item old x)) (points mid c))
      ∙ ap (λ qs. points_by f old x ++ qs) (point_within f (last_item old x) (points mid c))

  pub absorbed_last : (old mid new : List (Node I)) (kept l : List (Option KeptOutcome)) (x c : ℕ) → (node_at old c).owners ≡ 0 →
      LeavesOthers c old mid kept l → Absorbs mid new x c → IsUnderway old kept x → last_item new x ≡ last_item old x
  absorbed_last old mid new kept l x c was_free one a u =
      let differ = not_free old x c (underway_live old kept x u) was_free in
      a.last ∙ ap (λ is. last_before (length is) is) (one.underway x differ u).1

-- a call that begins
module _ {I : Type 0} (old new : List (Node I)) (kept : List (Option KeptOutcome)) (x : ℕ) (b : Begins old new x) (live : (i : ℕ) (o : KeptOutcome) → kept_at kept i ≡ Some o → IsLive old o.node) where
  pub begun_underway : IsUnderway new kept x
  begun_underway = record { unshared = b.unshared; apart = λ i o at. not_free old o.node x (live i o at) b.was_free }

  pub begun_others : LeavesOthers x old new kept kept
  begun_others = others_stay old new kept x b.others

or_left : (a b : Bool) → (a || b) ≡ false → a ≡ false
or_left true b is = cc
or_left false b is = refl

or_right : (a b : Bool) → (a || b) ≡ false → b ≡ false
or_right true b is = cc
or_right false b is = is

not_wanting : (e : Ending) → is_wanting e ≡ false → e ≡ ByBudget → ⊥
not_wanting ByLeave is budget = cc
not_wanting ByEnd is budget = cc
not_wanting ByBudget is budget = cc

apart_if : (b : Bool) (kept : List (Option KeptOutcome)) (o : KeptOutcome) (y : ℕ) → y ≢ o.node → NotKept kept y → NotKept (cond b kept (kept ++ Some o ∷ [])) y
apart_if true kept o y ne apart = apart
apart_if false kept o y ne apart = λ i p at is. elim (kept_push kept o p i at) [
  | inl e ↦ apart i p e is
  | inr e ↦ ne (sym (ap (λ (k : KeptOutcome). k.node) e.1 ∙ is))
]

-- what no outcome has, none has behind another one that is kept
pub apart_with : (kept : List (Option KeptOutcome)) (o : KeptOutcome) (y : ℕ) → y ≢ o.node → NotKept kept y → NotKept (with_outcome kept o) y
apart_with kept o y ne apart = apart_if (is_wanting o.ended || o.summary.at_told) kept o y ne apart

still_if : (b : Bool) (kept : List (Option KeptOutcome)) (o : KeptOutcome) (i : ℕ) (p : KeptOutcome) → kept_at kept i ≡ Some p → kept_at (cond b kept (kept ++ Some o ∷ [])) i ≡ Some p
still_if true kept o i p at = at
still_if false kept o i p at = kept_more kept (Some o ∷ []) i p at

pub still_with : (kept : List (Option KeptOutcome)) (o : KeptOutcome) (i : ℕ) (p : KeptOutcome) → kept_at kept i ≡ Some p → kept_at (with_outcome kept o) i ≡ Some p
still_with kept o i p at = still_if (is_wanting o.ended || o.summary.at_told) kept o i p at

last_if : (b : Bool) (kept : List (Option KeptOutcome)) (o : KeptOutcome) → b ≡ false → kept_at (cond b kept (kept ++ Some o ∷ [])) (length kept) ≡ Some o
last_if true kept o is = cc
last_if false kept o is = get_or-append_seam kept (Some o) [] None

paid_is : (e : Ending) → (e ≡ ByBudget → ⊥) → is_wanting e ≡ false
paid_is ByLeave paid = refl
paid_is ByEnd paid = refl
paid_is ByBudget paid = absurd (paid refl)

neither : (a b : Bool) → a ≡ false → b ≡ false → (a || b) ≡ false
neither true b is other = cc
neither false b is other = other

has_room : (b : Bool) (levels depth : ℕ) → depth + levels ≤ deepest_depth → HasRoom b depth levels depth
has_room true levels depth le = refl
has_room false levels depth le = le

module _ (M : MachineModel) (rebased : Tree → Tree → ℕ → Tree) (call_of : Tree → M.Call) {I : Type 0} (item_of : I → M.Item) where
  -- all stands that stood, where other nodes last
  pub stand_others : (old new : List (Node I)) (kept after : List (Option KeptOutcome)) (x : ℕ) → LeavesOthers x old new kept after → NotKept kept x →
      AllStand M rebased call_of item_of old kept → AllStand M rebased call_of item_of new kept
  stand_others old new kept after x others apart stand i o at =
      let s = stand i o at in
      let now = others.lasts o.node (apart i o at) s.live in
      record {
        live = now.live;
        outcome = subst (λ ps. IsOutcome M rebased (call_of o.call) o.depth (map (point_by item_of) ps) o.ended o.summary) (sym now.points) s.outcome;
      }

  -- and where a nested call is absorbed
  pub stand_absorbed : (mid new : List (Node I)) (kept : List (Option KeptOutcome)) (x c : ℕ) → Absorbs mid new x c → NotKept kept x →
      AllStand M rebased call_of item_of mid kept → AllStand M rebased call_of item_of new kept
  stand_absorbed mid new kept x c a apart stand i o at =
      let s = stand i o at in
      let now = a.lasts o.node (apart i o at) s.live in
      record {
        live = now.0;
        outcome = subst (λ ps. IsOutcome M rebased (call_of o.call) o.depth (map (point_by item_of) ps) o.ended o.summary) (sym now.1) s.outcome;
      }

  stand_if : (b : Bool) (nodes : List (Node I)) (kept : List (Option KeptOutcome)) (o : KeptOutcome) → AllStand M rebased call_of item_of nodes kept →
      (b ≡ false → Stands M rebased call_of item_of nodes o) → AllStand M rebased call_of item_of nodes (cond b kept (kept ++ Some o ∷ []))
  stand_if true nodes kept o stand one = stand
  stand_if false nodes kept o stand one = stand_push M rebased call_of item_of nodes kept o stand (one refl)

  pub stand_with : (nodes : List (Node I)) (kept : List (Option KeptOutcome)) (o : KeptOutcome) → AllStand M rebased call_of item_of nodes kept →
      ((is_wanting o.ended || o.summary.at_told) ≡ false → Stands M rebased call_of item_of nodes o) → AllStand M rebased call_of item_of nodes (with_outcome kept o)
  stand_with nodes kept o stand one = stand_if (is_wanting o.ended || o.summary.at_told) nodes kept o stand one

  -- a call that ran is an outcome that stands
  pub run_stands : (W : WorldModel) (moving writable : Tree → Bool) (quiet : M.Place → Bool) → Modest M moving writable quiet → Fits W moving writable rebased →
      (mid new : List (Node I)) (call : Tree) (s t : W.State) (fuel depth node : ℕ) (ended : Ending) (summary : CallSummary) (wanting : List M.Frames) →
      Comes M W rebased fuel depth (begun M W (call_of call) s)
      (record { ended = ended; state = t; points = points_by item_of mid node; summary = summary; wanting = wanting }) →
      IsLive new node → points new node ≡ points mid node → (is_wanting ended || summary.at_told) ≡ false →
      Stands M rebased call_of item_of new (record { call = call; depth = depth; node = node; ended = ended; summary = summary })
  run_stands W moving writable quiet modest fits mid new call s t fuel depth node ended summary wanting comes live same may = record {
    live = live;
    outcome = subst (λ ps. IsOutcome M rebased (call_of call) depth (map (point_by item_of) ps) ended summary) (sym same)
        (runs_are_outcomes M W moving writable quiet rebased modest fits (call_of call) s fuel depth
        (record { ended = ended; state = t; points = points_by item_of mid node; summary = summary; wanting = wanting }) comes
        (or_right (is_wanting ended) summary.at_told may) (not_wanting ended (or_left (is_wanting ended) summary.at_told may))).0;
  }

  module _ {L K V : Type 0} (fuel depth : ℕ) where
    pub went_then : (u v w : Walk L K V) (a b d : List (Node I)) (k l m : List (Option KeptOutcome)) → WentOn M rebased call_of item_of fuel depth u v a b k l →
        WentOn M rebased call_of item_of fuel depth v w b d l m → WentOn M rebased call_of item_of fuel depth u w a d k m
    went_then u v w a b d k l m one two =
        let P : NodeId → Type 0 = λ n. LeavesOthers n.0 b d l m in
        record {
          sound = two.sound;
          node_is = two.node_is ∙ one.node_is;
          units = (let p = one.units in let q = two.units in omega arith);
          others = others_then a b d k l m u.node.0 one.others (subst P one.node_is two.others);
        }

    pub went_make : (v w : Walk L K V) (a b : List (Node I)) (k l : List (Option KeptOutcome)) → v.summary.units ≤ w.summary.units → w.summary.units ≤ fuel →
        w.node ≡ v.node → depth + w.frames ≤ deepest_depth → IsUnderway b l v.node.0 → AllStand M rebased call_of item_of b l → LeavesOthers v.node.0 a b k l →
        WentOn M rebased call_of item_of fuel depth v w a b k l
    went_make v w a b k l more le node room underway stand others =
        let P : NodeId → Type 0 = λ n. IsUnderway b l n.0 in
        record {
          sound = record { units = le; room = room; underway = subst P (sym node) underway; stand = stand };
          node_is = node;
          units = more;
          others = others;
        }

    -- a step
    pub went_step : (v w : Walk L K V) (a b : List (Node I)) (k : List (Option KeptOutcome)) → IsSound M rebased call_of item_of fuel depth v a k → OnlyAppends a b v.node.0 →
        w.node ≡ v.node → depth + w.frames ≤ deepest_depth → w.summary.units ≡ v.summary.units → WentOn M rebased call_of item_of fuel depth v w a b k k
    went_step v w a b k sound only node room units =
        let others = others_stay a b k v.node.0 only.others in
        let le = sound.units in
        went_make v w a b k k (omega arith) (omega arith) node room (record { unshared = only.mine; apart = sound.underway.apart })
        (stand_others a b k k v.node.0 others sound.underway.apart sound.stand) others

    -- nothing but the summary changes
    pub went_same : (v w : Walk L K V) (a : List (Node I)) (k : List (Option KeptOutcome)) → IsSound M rebased call_of item_of fuel depth v a k →
        w.node ≡ v.node → w.frames ≡ v.frames → v.summary.units ≤ w.summary.units → w.summary.units ≤ fuel → WentOn M rebased call_of item_of fuel depth v w a a k k
    went_same v w a k sound node frames more le =
        let room = sound.room in
        went_make v w a a k k more le node (omega arith) sound.underway sound.stand (others_none a k v.node.0)

module _ (M : MachineModel) (W : WorldModel) (rebased : Tree → Tree → ℕ → Tree) (fuel depth : ℕ) where
  -- a nested call that was joined took no more fuel than there is
  pub joins_units : (call : M.Call) (before after : Moment M W) (ended : Ending) (wanting : List M.Frames) → JoinsIn M W rebased fuel depth call before after ended wanting →
      before.summary.units ≤ fuel → (before.summary.units ≤ after.summary.units) × (after.summary.units ≤ fuel)
  joins_units call before after ended wanting j le =
      let is : after.summary.units ≡ before.summary.units + j.child.summary.units = ap (λ (m : Moment M W). m.summary.units) j.after_is in
      let child = units_le M W rebased (fuel - before.summary.units) (depth + before.frames + 1) (begun M W call (W.after_enter before.state)) j.child j.comes (omega arith) in
      (omega arith, omega arith)

  module _ {F V : Type 0} (value : V → Tree) (frames : F → M.Frames) (a : Moment M W) where
    -- a unit of fuel
    pub passes_count : {L K T : Type 0} {I : Type 0} (place : L → M.Place) (item : I → M.Item) (v w : Walk L K T) (s : W.State) (nodes : List (Node I)) (p : Passed V F) →
        M.move_at a.place a.given ≡ Count → moment_at M W place item v Nothing s nodes ≡ stepped a →
        TakesUnit frames (M.frames_at (place v.local)) fuel v w p →
        Passes M W rebased value frames fuel depth a (λ g. moment_at M W place item w g s nodes) p
    passes_count place item v w s nodes (passed.On g) is eq t = absurd t
    passes_count {L} {K} {T} place item v w s nodes passed.Counted is eq t =
        let units : v.summary.units ≡ a.summary.units = ap (λ (m : Moment M W). m.summary.units) eq in
        let some = t.0 in
        let led = leads_count M W rebased fuel depth a is (omega arith) in
        let now : moment_at M W place item w Nothing s nodes ≡ counted (stepped a) =
        ap (λ (x : Walk L K T). moment_at M W place item x Nothing s nodes) t.1 ∙ ap (λ (m : Moment M W). counted m) eq in
        let P : Moment M W → Type 0 = Leads M W rebased fuel depth a in
        subst P (sym now) led
    passes_count {L} {K} {T} place item v w s nodes (passed.Done close) is eq t =
        let units : v.summary.units ≡ a.summary.units = ap (λ (m : Moment M W). m.summary.units) eq in
        let here : place v.local ≡ M.after a.place a.given = ap (λ (m : Moment M W). m.place) eq in
        let now : moment_at M W place item w Nothing s nodes ≡ stepped a = ap (λ (x : Walk L K T). moment_at M W place item x Nothing s nodes) t.1 ∙ eq in
        let wanting : map frames close.unpaid.items ≡ M.frames_at (M.after a.place a.given) ∷ [] = t.3 ∙ ap (λ q. M.frames_at q ∷ []) here in
        let none : a.summary.units ≡ fuel = sym units ∙ t.0 in
        let P : Moment M W → Ending → List M.Frames → Type 0 = λ m e ws. Comes M W rebased fuel depth a (finished m e ws) in
        subst (λ m. P m (ending_of close.ended) (map frames close.unpaid.items)) (sym now)
        (subst (λ e. P (stepped a) e (map frames close.unpaid.items)) (sym t.2)
        (subst (λ ws. P (stepped a) ByBudget ws) (sym wanting) (comes_spent M W rebased fuel depth a is none)))

    pub passes_end : (b : Moment M W) (close : Closing F) (e : Ending) → b ≡ stepped a → ending_of close.ended ≡ e → map frames close.unpaid.items ≡ [] →
        Comes M W rebased fuel depth a (finished (stepped a) e []) → Comes M W rebased fuel depth a (finished b (ending_of close.ended) (map frames close.unpaid.items))
    passes_end b close e eq ended none comes =
        let P : Moment M W → Ending → List M.Frames → Type 0 = λ m x ws. Comes M W rebased fuel depth a (finished m x ws) in
        subst (λ m. P m (ending_of close.ended) (map frames close.unpaid.items)) (sym eq)
        (subst (λ x. P (stepped a) x (map frames close.unpaid.items)) (sym ended)
        (subst (λ ws. P (stepped a) e ws) (sym none) comes))

    -- a nested call
    module _ (c : M.Call) (is : M.move_at a.place a.given ≡ Enter c) (room : depth + a.frames < deepest_depth) (after : Moment M W) where
      entered : (e : Ending) (ws : List M.Frames) → JoinsIn M W rebased fuel depth c (stepped a) after e ws → (b : Told → Moment M W) →
          b Returned ≡ after → ((g : Told) (x : Ending) (vs : List M.Frames) → finished (b g) x vs ≡ finished after x vs) → (here : M.Frames) →
          here ≡ M.frames_at (M.after a.place a.given) → (p : Passed V F) →
          GoesBack value frames here e ws p → Passes M W rebased value frames fuel depth a b p
      entered ByLeave ws j b back same here at (passed.On g) t =
          let led = leads_enter M W rebased fuel depth a c j.child is room j.comes j.ended_is in
          let now : b (told_of value g) ≡ come_back rebased (stepped a) j.child = ap b t ∙ back ∙ j.after_is in
          let P : Moment M W → Type 0 = Leads M W rebased fuel depth a in
          subst P (sym now) led
      entered ByLeave ws j b back same here at passed.Counted t = absurd t
      entered ByLeave ws j b back same here at (passed.Done close) t = absurd t
      entered ByEnd ws j b back same here at (passed.On g) t = absurd t
      entered ByEnd ws j b back same here at passed.Counted t = absurd t
      entered ByEnd ws j b back same here at (passed.Done close) t =
          let comes = comes_end_within M W rebased fuel depth a c j.child is room j.comes j.ended_is in
          let P : Finish M W → Type 0 = Comes M W rebased fuel depth a in
          let now : finished (b Nothing) (ending_of close.ended) (map frames close.unpaid.items) ≡ finished (come_back rebased (stepped a) j.child) ByEnd [] =
          same Nothing (ending_of close.ended) (map frames close.unpaid.items)
          ∙ ap (λ (m : Moment M W). finished m (ending_of close.ended) (map frames close.unpaid.items)) j.after_is
          ∙ ap (λ x. finished (come_back rebased (stepped a) j.child) x (map frames close.unpaid.items)) t.0
          ∙ ap (λ ws. finished (come_back rebased (stepped a) j.child) ByEnd ws) t.1 in
          subst P (sym now) comes
      entered ByBudget ws j b back same here at (passed.On g) t = absurd t
      entered ByBudget ws j b back same here at passed.Counted t = absurd t
      entered ByBudget ws j b back same here at (passed.Done close) t =
          let comes = comes_spent_within M W rebased fuel depth a c j.child is room j.comes j.ended_is
          (nothing_left M W rebased (fuel - a.summary.units) (depth + a.frames + 1) c (W.after_enter a.state) j.child j.comes j.ended_is) in
          let P : Finish M W → Type 0 = Comes M W rebased fuel depth a in
          let now : finished (b Nothing) (ending_of close.ended) (map frames close.unpaid.items)
          ≡ finished (come_back rebased (stepped a) j.child) ByBudget (j.child.wanting ++ M.frames_at (M.after a.place a.given) ∷ []) =
          same Nothing (ending_of close.ended) (map frames close.unpaid.items)
          ∙ ap (λ (m : Moment M W). finished m (ending_of close.ended) (map frames close.unpaid.items)) j.after_is
          ∙ ap (λ x. finished (come_back rebased (stepped a) j.child) x (map frames close.unpaid.items)) t.0
          ∙ ap (λ ws. finished (come_back rebased (stepped a) j.child) ByBudget ws) t.1
          ∙ ap (λ vs. finished (come_back rebased (stepped a) j.child) ByBudget (vs ++ here ∷ [])) (sym j.wanting_is)
          ∙ ap (λ h. finished (come_back rebased (stepped a) j.child) ByBudget (j.child.wanting ++ h ∷ [])) at in
          subst P (sym now) comes

      pub passes_enter : {L K T I : Type 0} (place : L → M.Place) (item : I → M.Item) (v w : Walk L K T) (s t : W.State) (nodes new : List (Node I)) (e : Ending) (ws : List M.Frames) (p : Passed V F) →
          moment_at M W place item v Nothing s nodes ≡ stepped a → moment_at M W place item w Returned t new ≡ after →
          JoinsIn M W rebased fuel depth c (moment_at M W place item v Nothing s nodes) after e ws →
          GoesBack value frames (M.frames_at (place w.local)) e ws p →
          Passes M W rebased value frames fuel depth a (λ g. moment_at M W place item w g t new) p
      passes_enter place item v w s t nodes new e ws p eq now j goes =
          let J : Moment M W → Type 0 = λ m. JoinsIn M W rebased fuel depth c m after e ws in
          let k : JoinsIn M W rebased fuel depth c (stepped a) after e ws = subst J eq j in
          let here : place w.local ≡ M.after a.place a.given = ap (λ (m : Moment M W). m.place) now ∙ ap (λ (m : Moment M W). m.place) k.after_is in
          entered e ws k (λ g. moment_at M W place item w g t new) now
          (λ g x vs. ap (λ (m : Moment M W). finished m x vs) now) (M.frames_at (place w.local)) (ap M.frames_at here) p goes

-- a call so far, up to the next unit
pub record UnitSoFar (M : MachineModel) (W : WorldModel) (rebased : Tree → Tree → ℕ → Tree) (call_of : Tree → M.Call) {L K V I : Type 0} (place : L → M.Place) (item_of : I → M.Item) (fuel depth : ℕ) (v w : Walk L K V) (told : Told) (s t : W.State) (old new : List (Node I)) (kept more : List (Option KeptOutcome)) : Type 0 where
  pub went : WentOn M rebased call_of item_of fuel depth v w old new kept more
  pub leads : Leads M W rebased fuel depth (moment_at M W place item_of v Nothing s old) (moment_at M W place item_of w told t new)

-- and a call from its beginning
pub record CallSoFar (M : MachineModel) (W : WorldModel) (rebased : Tree → Tree → ℕ → Tree) (call_of : Tree → M.Call) {L K V I : Type 0} (place : L → M.Place) (item_of : I → M.Item) (fuel depth : ℕ) (call : M.Call) (w : Walk L K V) (s t : W.State) (old new : List (Node I)) (kept more : List (Option KeptOutcome)) : Type 0 where
  pub sound : IsSound M rebased call_of item_of fuel depth w new more
  pub leads : Leads M W rebased fuel depth (begun M W call s) (moment_at M W place item_of w Nothing t new)
  pub was_free : (node_at old w.node.0).owners ≡ 0
  pub others : LeavesOthers w.node.0 old new kept more

-- a nested call that ran is joined
module _ (M : MachineModel) (W : WorldModel) (rebased : Tree → Tree → ℕ → Tree) (call_of : Tree → M.Call) {L K V I F : Type 0} (place : L → M.Place) (item_of : I → M.Item) (frames_of : F → M.Frames)
    (moving writable : Tree → Bool) (quiet : M.Place → Bool) (modest : Modest M moving writable quiet) (fits : Fits W moving writable rebased)
    (fuel depth : ℕ) (v w : Walk L K V) (call : Tree) (s t u : W.State) (old mid new : List (Node I)) (kept l m : List (Option KeptOutcome)) (ran : Ran L K V F)
    (sound : IsSound M rebased call_of item_of fuel depth v old kept) (room : depth + v.frames < deepest_depth)
    (is_run : IsRun M W rebased call_of place item_of frames_of (fuel - v.summary.units) (depth + v.frames + 1) (call_of call) (W.after_enter s) t old mid kept l ran) where
  -- what the join needs
  pub ran_other : ran.walk.node.0 ≢ v.node.0
  ran_other e = not_free old v.node.0 ran.walk.node.0 (let m = sound.underway.unshared.maker in omega arith) is_run.was_free (sym e)

  pub ran_caller : IsUnderway mid l v.node.0
  ran_caller = (is_run.others.underway v.node.0 (λ e. ran_other (sym e)) sound.underway).0

  pub ran_units : ran.walk.summary.units ≤ fuel - v.summary.units
  ran_units =
      units_le M W rebased (fuel - v.summary.units) (depth + v.frames + 1) (begun M W (call_of call) (W.after_enter s))
      (finished (moment_at M W place item_of ran.walk Nothing t mid) (ending_of ran.close.ended) (map frames_of ran.close.unpaid.items)) is_run.comes (omega arith)

  pub ran_levels : depth + v.frames + 1 + ran.walk.summary.levels ≤ deepest_depth
  ran_levels =
      levels_le M W rebased (fuel - v.summary.units) (depth + v.frames + 1) (begun M W (call_of call) (W.after_enter s))
      (finished (moment_at M W place item_of ran.walk Nothing t mid) (ending_of ran.close.ended) (map frames_of ran.close.unpaid.items)) is_run.comes (omega arith) (omega arith)

  module _ (absorbs : Absorbs mid new v.node.0 ran.walk.node.0) (summary : w.summary ≡ joined rebased v.frames v.summary ran.walk.summary)
      (node : w.node ≡ v.node) (local : w.local ≡ v.local) (frames : w.frames ≡ v.frames) (state : u ≡ W.after_leave t) where
    joined_points : points_by item_of new w.node.0 ≡ points_by item_of old v.node.0 ++ map (within (map item_of (last_item old v.node.0))) (points_by item_of mid ran.walk.node.0)
    joined_points =
        ap (λ (n : NodeId). points_by item_of new n.0) node
        ∙ absorbed_points item_of old mid new kept l v.node.0 ran.walk.node.0 is_run.was_free is_run.others absorbs sound.underway

    joined_last : map item_of (last_item new w.node.0) ≡ map item_of (last_item old v.node.0)
    joined_last =
        ap (λ (n : NodeId). map item_of (last_item new n.0)) node
        ∙ ap (map item_of) (absorbed_last old mid new kept l v.node.0 ran.walk.node.0 is_run.was_free is_run.others absorbs sound.underway)

    pub ran_joins : JoinsIn M W rebased fuel depth (call_of call) (moment_at M W place item_of v Nothing s old) (moment_at M W place item_of w Returned u new)
        (ending_of ran.close.ended) (map frames_of ran.close.unpaid.items)
    ran_joins = record {
      child = finished (moment_at M W place item_of ran.walk Nothing t mid) (ending_of ran.close.ended) (map frames_of ran.close.unpaid.items);
      comes = is_run.comes;
      after_is = same_moment M W (moment_at M W place item_of w Returned u new)
          (come_back rebased (moment_at M W place item_of v Nothing s old)
          (finished (moment_at M W place item_of ran.walk Nothing t mid) (ending_of ran.close.ended) (map frames_of ran.close.unpaid.items)))
          (ap place local) refl state joined_points joined_last summary frames;
      ended_is = refl;
      wanting_is = refl;
    }

    pub ran_went : m ≡ with_outcome l (record { call = call; depth = depth + v.frames + 1; node = ran.walk.node.0; ended = ending_of ran.close.ended; summary = ran.walk.summary }) →
        WentOn M rebased call_of item_of fuel depth v w old new kept m
    ran_went is =
        let k : KeptOutcome = record { call = call; depth = depth + v.frames + 1; node = ran.walk.node.0; ended = ending_of ran.close.ended; summary = ran.walk.summary } in
        let x = v.node.0 in
        let n = ran.walk.node.0 in
        let more : (y : ℕ) → y ≢ n → NotKept l y → NotKept (with_outcome l k) y = apart_with l k in
        let units : w.summary.units ≡ v.summary.units + ran.walk.summary.units = ap (λ (z : CallSummary). z.units) summary in
        let covered = ran_units in
        let le = sound.units in
        let now = absorbs.lasts n ran_other (let o = is_run.underway.unshared.maker in omega arith) in
        let stand : AllStand M rebased call_of item_of new (with_outcome l k) =
        stand_with M rebased call_of item_of new l k (stand_absorbed M rebased call_of item_of mid new l x n absorbs ran_caller.apart is_run.stand)
        (λ may. run_stands M rebased call_of item_of W moving writable quiet modest fits mid new call (W.after_enter s) t (fuel - v.summary.units) (depth + v.frames + 1) n
        (ending_of ran.close.ended) ran.walk.summary (map frames_of ran.close.unpaid.items) is_run.comes now.0 now.1 may) in
        let G : List (Option KeptOutcome) → Type 0 = WentOn M rebased call_of item_of fuel depth v w old new kept in
        subst G (sym is)
        (went_make M rebased call_of item_of fuel depth v w old new kept (with_outcome l k) (omega arith) (omega arith) node (omega arith)
        (underway_absorbed old mid new kept l (with_outcome l k) x n is_run.was_free is_run.others absorbs more sound.underway) stand
        (others_absorbed old mid new kept l (with_outcome l k) x n is_run.was_free is_run.others absorbs more (still_with l k)))

-- the same run, told in other words
pub run_as : (M : MachineModel) (W : WorldModel) (rebased : Tree → Tree → ℕ → Tree) (call_of : Tree → M.Call) {L K V I F : Type 0} (place : L → M.Place) (item_of : I → M.Item) (frames_of : F → M.Frames)
    (f e d h : ℕ) (call : M.Call) (s r t : W.State) (old early mid : List (Node I)) (kept l : List (Option KeptOutcome)) (ran : Ran L K V F) →
    e ≡ f → h ≡ d → r ≡ s → early ≡ old →
    IsRun M W rebased call_of place item_of frames_of e h call r t early mid kept l ran → IsRun M W rebased call_of place item_of frames_of f d call s t old mid kept l ran
run_as M W rebased call_of place item_of frames_of f e d h call s r t old early mid kept l ran fs ds ss os x =
    subst (λ n. IsRun M W rebased call_of place item_of frames_of f d call s t n mid kept l ran) os
    (subst (λ z. IsRun M W rebased call_of place item_of frames_of f d call z t early mid kept l ran) ss
    (subst (λ n. IsRun M W rebased call_of place item_of frames_of f n call r t early mid kept l ran) ds
    (subst (λ n. IsRun M W rebased call_of place item_of frames_of n h call r t early mid kept l ran) fs x)))

-- of what came back, where it did
pub ok_map : {A E : Type 0} (P Q : A → Type 0) (r : Result A E) → IfOk r P → ((x : A) → P x → Q x) → IfOk r Q
ok_map P Q (Ok x) p f = f x p
ok_map P Q (Err e) p f = tt

pub ok_then : {A E : Type 0} (P : A → Type 0) (X : Type 0) (r : Result A E) → IfOk r P → ((x : A) → P x → X) → OnOk r X
ok_then P X (Ok x) p f = f x p
ok_then P X (Err e) p f = tt

pub ok_any : {A E : Type 0} (X : Type 0) (r : Result A E) → X → OnOk r X
ok_any X (Ok x) y = y
ok_any X (Err e) y = tt

module _ {V F G : Type 0} (frames : F → G) (here : G) where
  pub progress_unit : {L K T : Type 0} (fuel i j n : ℕ) (v w : Walk L K T) (p : Passed V F) → v.summary.units ≡ n → TakesUnit frames here fuel v w p →
      Progresses i j n w.summary.units p
  progress_unit fuel i j n v w (passed.On g) is t = absurd t
  progress_unit {L} {K} {T} fuel i j n v w passed.Counted is t =
      let more : w.summary.units ≡ v.summary.units + 1 = ap (λ (x : Walk L K T). x.summary.units) t.1 in
      omega arith
  progress_unit fuel i j n v w (passed.Done close) is t = tt

  pub progress_back : (value : V → Tree) (e : Ending) (ws : List G) (p : Passed V F) (i j m n : ℕ) → j < i → GoesBack value frames here e ws p → Progresses i j m n p
  progress_back value ByLeave ws (passed.On g) i j m n lt t = lt
  progress_back value ByLeave ws passed.Counted i j m n lt t = absurd t
  progress_back value ByLeave ws (passed.Done close) i j m n lt t = tt
  progress_back value ByEnd ws (passed.On g) i j m n lt t = lt
  progress_back value ByEnd ws passed.Counted i j m n lt t = absurd t
  progress_back value ByEnd ws (passed.Done close) i j m n lt t = tt
  progress_back value ByBudget ws (passed.On g) i j m n lt t = lt
  progress_back value ByBudget ws passed.Counted i j m n lt t = absurd t
  progress_back value ByBudget ws (passed.Done close) i j m n lt t = tt

-- a unit of fuel, and what holds then
pub went_unit : (M : MachineModel) (rebased : Tree → Tree → ℕ → Tree) (call_of : Tree → M.Call) {L K T I V F G : Type 0} (item_of : I → M.Item) (fuel depth : ℕ) (frames : F → G) (here : G) (v w : Walk L K T) (a : List (Node I)) (k : List (Option KeptOutcome)) →
    IsSound M rebased call_of item_of fuel depth v a k → (p : Passed V F) → TakesUnit frames here fuel v w p → WentOn M rebased call_of item_of fuel depth v w a a k k
went_unit M rebased call_of item_of fuel depth frames here v w a k sound (passed.On g) t = absurd t
went_unit M rebased call_of {L} {K} {T} item_of fuel depth frames here v w a k sound passed.Counted t =
    let more : w.summary.units ≡ v.summary.units + 1 = ap (λ (x : Walk L K T). x.summary.units) t.1 in
    let some = t.0 in
    went_same M rebased call_of item_of fuel depth v w a k sound (ap (λ (x : Walk L K T). x.node) t.1) (ap (λ (x : Walk L K T). x.frames) t.1) (omega arith) (omega arith)
went_unit M rebased call_of {L} {K} {T} item_of fuel depth frames here v w a k sound (passed.Done close) t =
    let same : w.summary.units ≡ v.summary.units = ap (λ (x : Walk L K T). x.summary.units) t.1 in
    let le = sound.units in
    went_same M rebased call_of item_of fuel depth v w a k sound (ap (λ (x : Walk L K T). x.node) t.1) (ap (λ (x : Walk L K T). x.frames) t.1) (omega arith) (omega arith)

-- the parts of a call, put together
module _ (M : MachineModel) (W : WorldModel) (rebased : Tree → Tree → ℕ → Tree) (call_of : Tree → M.Call) {L K V I : Type 0} (place : L → M.Place) (item_of : I → M.Item) (fuel depth : ℕ) where
  pub unit_begins : (v : Walk L K V) (s : W.State) (nodes : List (Node I)) (kept : List (Option KeptOutcome)) → IsSound M rebased call_of item_of fuel depth v nodes kept →
      UnitSoFar M W rebased call_of place item_of fuel depth v v Nothing s s nodes nodes kept kept
  unit_begins v s nodes kept sound = record {
    went = went_same M rebased call_of item_of fuel depth v v nodes kept sound refl refl (omega arith) sound.units;
    leads = λ z x. x;
  }

  pub unit_goes_on : (u v w : Walk L K V) (g h : Told) (s t r : W.State) (a b d : List (Node I)) (k l m : List (Option KeptOutcome)) →
      UnitSoFar M W rebased call_of place item_of fuel depth u v g s t a b k l → WentOn M rebased call_of item_of fuel depth v w b d l m →
      Leads M W rebased fuel depth (moment_at M W place item_of v g t b) (moment_at M W place item_of w h r d) →
      UnitSoFar M W rebased call_of place item_of fuel depth u w h s r a d k m
  unit_goes_on u v w g h s t r a b d k l m so went led = record {
    went = went_then M rebased call_of item_of fuel depth u v w a b d k l m so.went went;
    leads = λ z x. so.leads z (led z x);
  }

  pub call_begins : (call : M.Call) (w : Walk L K V) (s : W.State) (old new : List (Node I)) (kept : List (Option KeptOutcome)) → depth ≤ deepest_depth →
      AllStand M rebased call_of item_of old kept → Begins old new w.node.0 → place w.local ≡ M.start call → w.summary ≡ blank_summary → w.frames ≡ 0 →
      CallSoFar M W rebased call_of place item_of fuel depth call w s s old new kept kept
  call_begins call w s old new kept le stand b start blank none =
      let live : (i : ℕ) (o : KeptOutcome) → kept_at kept i ≡ Some o → IsLive old o.node = λ i o at. (stand i o at).live in
      let x = w.node.0 in
      let apart : NotKept kept x = λ i o at. not_free old o.node x (live i o at) b.was_free in
      let others = begun_others old new kept x b live in
      let units : w.summary.units ≡ 0 = ap (λ (c : CallSummary). c.units) blank in
      let first : moment_at M W place item_of w Nothing s new ≡ begun M W call s =
      same_moment M W (moment_at M W place item_of w Nothing s new) (begun M W call s) start refl refl (ap (map (point_by item_of)) b.points)
      (ap (λ is. map item_of (last_before (length is) is)) b.items) blank none in
      let P : Moment M W → Type 0 = Leads M W rebased fuel depth (begun M W call s) in
      record {
        sound = record {
          units = omega arith;
          room = omega arith;
          underway = begun_underway old new kept x b live;
          stand = stand_others M rebased call_of item_of old new kept kept x others apart stand;
        };
        leads = subst P (sym first) (λ z y. y);
        was_free = b.was_free;
        others = others;
      }

  module _ (call : M.Call) (v w : Walk L K V) (s t r : W.State) (old mid new : List (Node I)) (k l m : List (Option KeptOutcome))
      (so : CallSoFar M W rebased call_of place item_of fuel depth call v s t old mid k l) (went : WentOn M rebased call_of item_of fuel depth v w mid new l m) where
    now_free : (node_at old w.node.0).owners ≡ 0
    now_free = ap (λ (n : NodeId). (node_at old n.0).owners) went.node_is ∙ so.was_free

    now_others : LeavesOthers w.node.0 old new k m
    now_others =
        let P : NodeId → Type 0 = λ n. LeavesOthers n.0 old new k m in
        subst P (sym went.node_is) (others_then old mid new k l m v.node.0 so.others went.others)

    pub call_goes_on : Leads M W rebased fuel depth (moment_at M W place item_of v Nothing t mid) (moment_at M W place item_of w Nothing r new) →
        CallSoFar M W rebased call_of place item_of fuel depth call w s r old new k m
    call_goes_on led = record { sound = went.sound; leads = λ z x. so.leads z (led z x); was_free = now_free; others = now_others }

    pub call_ends : {F : Type 0} (frames_of : F → M.Frames) (close : Closing F) →
        Comes M W rebased fuel depth (moment_at M W place item_of v Nothing t mid)
        (finished (moment_at M W place item_of w Nothing r new) (ending_of close.ended) (map frames_of close.unpaid.items)) →
        IsRun M W rebased call_of place item_of frames_of fuel depth call s r old new k m (record { walk = w; close = close })
    call_ends frames_of close comes = record {
      comes = so.leads (finished (moment_at M W place item_of w Nothing r new) (ending_of close.ended) (map frames_of close.unpaid.items)) comes;
      was_free = now_free;
      underway = went.sound.underway;
      stand = went.sound.stand;
      others = now_others;
    }

-- the caller owns the node of a call that ran, and the node of one that was taken
module _ {I : Type 0} (old new : List (Node I)) (x : ℕ) where
  pub free_handed : (kept after : List (Option KeptOutcome)) → (node_at old x).owners ≡ 0 → IsUnderway new after x → LeavesOthers x old new kept after → IsHandedOut old new x
  free_handed kept after free u others =
      let one = u.unshared.maker in
      let none = u.unshared.no_parent in
      record {
        live = omega arith;
        owned = omega arith;
        same = λ live. absurd (let no : ⊥ = omega arith in no);
        lasts = others.lasts;
      }

  pub recount_handed : IsWhole old → Recounts old new x ((node_at old x).owners + 1) → IsHandedOut old new x
  recount_handed whole r =
      let more = r.owners in
      let counted = whole.counted x in
      let links = r.parents x in
      record {
        live = omega arith;
        owned = omega arith;
        same = λ live. (r.keeps x).points;
        lasts = λ y ne live. (
            let owners = r.others y ne in
            let parents_same = r.parents y in
            record { live = omega arith; points = (r.keeps y).points; owners = omega arith }
            );
      }

-- what a call that ran came to may be kept
pub run_kept : (M : MachineModel) (W : WorldModel) (rebased : Tree → Tree → ℕ → Tree) (call_of : Tree → M.Call) {L K V I F : Type 0} (place : L → M.Place) (item_of : I → M.Item) (frames_of : F → M.Frames)
    (moving writable : Tree → Bool) (quiet : M.Place → Bool) → Modest M moving writable quiet → Fits W moving writable rebased →
    (fuel depth : ℕ) (call : Tree) (s t : W.State) (old new : List (Node I)) (kept l : List (Option KeptOutcome)) (ran : Ran L K V F) →
    IsRun M W rebased call_of place item_of frames_of fuel depth (call_of call) s t old new kept l ran →
    AllStand M rebased call_of item_of new (with_outcome l (record { call = call; depth = depth; node = ran.walk.node.0; ended = ending_of ran.close.ended; summary = ran.walk.summary }))
run_kept M W rebased call_of place item_of frames_of moving writable quiet modest fits fuel depth call s t old new kept l ran is_run =
    stand_with M rebased call_of item_of new l (record { call = call; depth = depth; node = ran.walk.node.0; ended = ending_of ran.close.ended; summary = ran.walk.summary }) is_run.stand
    (λ may. run_stands M rebased call_of item_of W moving writable quiet modest fits new new call s t fuel depth ran.walk.node.0
    (ending_of ran.close.ended) ran.walk.summary (map frames_of ran.close.unpaid.items) is_run.comes (let o = is_run.underway.unshared.maker in omega arith) refl may)

-- and it is, where it may be: then it holds where the call began
pub run_held : (M : MachineModel) (W : WorldModel) (rebased : Tree → Tree → ℕ → Tree) (call_of : Tree → M.Call) {L K V I F : Type 0} (place : L → M.Place) (item_of : I → M.Item) (frames_of : F → M.Frames)
    (moving writable : Tree → Bool) (quiet : M.Place → Bool) → Modest M moving writable quiet → Fits W moving writable rebased →
    (fuel depth : ℕ) (call : Tree) (s t : W.State) (old new : List (Node I)) (kept l : List (Option KeptOutcome)) (ran : Ran L K V F) → depth ≤ deepest_depth →
    IsRun M W rebased call_of place item_of frames_of fuel depth (call_of call) s t old new kept l ran → MayBeKept M W rebased fuel depth (call_of call) s (ending_of ran.close.ended) →
    HoldsSomewhere W s fuel depth call (with_outcome l (record { call = call; depth = depth; node = ran.walk.node.0; ended = ending_of ran.close.ended; summary = ran.walk.summary }))
run_held M W rebased call_of place item_of frames_of moving writable quiet modest fits fuel depth call s t old new kept l ran deep is_run may =
    let z = finished (moment_at M W place item_of ran.walk Nothing t new) (ending_of ran.close.ended) (map frames_of ran.close.unpaid.items) in
    let k : KeptOutcome = record { call = call; depth = depth; node = ran.walk.node.0; ended = ending_of ran.close.ended; summary = ran.walk.summary } in
    let no_at : ran.walk.summary.at_told ≡ false = may.no_at z is_run.comes in
    let begins = begun M W (call_of call) s in
    let levels = levels_le M W rebased fuel depth begins z is_run.comes deep (omega arith) in
    record {
      at = length l;
      there = record {
        outcome = k;
        at = last_if (is_wanting (ending_of ran.close.ended) || ran.walk.summary.at_told) l k
            (neither (is_wanting (ending_of ran.close.ended)) ran.walk.summary.at_told (paid_is (ending_of ran.close.ended) may.paid) no_at);
        holds = record {
          same = refl;
          holds = record {
            answers = (runs_are_outcomes M W moving writable quiet rebased modest fits (call_of call) s fuel depth z is_run.comes no_at may.paid).1;
            covered = units_le M W rebased fuel depth begins z is_run.comes (omega arith);
            room = has_room ran.walk.summary.no_room ran.walk.summary.levels depth levels;
          };
        };
      };
    }
