-- A kept outcome that is taken, one more that is kept, and one more owner of a node.
use Rattle.std.proofs.Common.{refl, ◌∙◌, ◌≡◌, ℕ, ◌+◌, Bool, List, [], ◌∷◌, ◌++◌, Option, Some, Result, Ok, Err, OnOk, OnErr, map, sym, ap, subst, inl, inr, arith, ◌≢◌, length}
use Rattle.std.proofs.lemmas.Bool.{cases_eq}
use Rattle.std.proofs.lemmas.List.{map-append}
use Rattle.kept_values.specs.Trees.{Tree}
use Rattle.trace_arena.specs.Nodes.{Node, node_at, IsLive}
use Rattle.trace_arena.specs.Points.{Point, within, last_before, points}
use Rattle.trace_arena.specs.Changes.{Recounts, Links, last_item}
use Rattle.asking_core.specs.Worlds.{WorldModel, Fits, moved}
use Rattle.asking_core.specs.Machines.{MachineModel, Modest}
use Rattle.asking_core.specs.Runs.{Ending}
use Rattle.kept_outcomes.specs.Outcomes.{CallSummary, IsOutcome}
use Rattle.kept_outcomes.specs.Moments.{Moment, Comes, begun}
use Rattle.kept_outcomes.proofs.Stands.{outcomes_stand}
use Rattle.expansion_memo.specs.Kept.{KeptOutcome, point_by, points_by, Stands, AllStand, HoldsOf}
use Rattle.expansion_memo.specs.Within.{NotKept}
use Rattle.expansion_memo.proofs.KeptLists.{kept_push}

-- what a call comes to, told in other words
pub come_to : (M : MachineModel) (W : WorldModel) (rebased : Tree → Tree → ℕ → Tree) (fuel depth : ℕ) (a : Moment M W) (s t : W.State) (ps qs : List (Point M.Item)) (vs ws : List M.Frames)
    (ended : Ending) (summary : CallSummary) → s ≡ t → ps ≡ qs → vs ≡ ws →
    Comes M W rebased fuel depth a (record { ended = ended; state = t; points = qs; summary = summary; wanting = ws }) →
    Comes M W rebased fuel depth a (record { ended = ended; state = s; points = ps; summary = summary; wanting = vs })
come_to M W rebased fuel depth a s t ps qs vs ws ended summary states points wanting comes =
    let Z : W.State → List (Point M.Item) → List M.Frames → Type 0 = λ x y z.
    Comes M W rebased fuel depth a (record { ended = ended; state = x; points = y; summary = summary; wanting = z }) in
    subst (λ x. Z x ps vs) (sym states) (subst (λ y. Z t y vs) (sym points) (subst (λ z. Z t qs z) (sym wanting) comes))

module _ (M : MachineModel) (rebased : Tree → Tree → ℕ → Tree) (call_of : Tree → M.Call) {I : Type 0} (item_of : I → M.Item) where
  -- a kept outcome that stands and holds is what the plain run comes to
  pub taken : (W : WorldModel) (moving writable : Tree → Bool) (quiet : M.Place → Bool) → Modest M moving writable quiet → Fits W moving writable rebased →
      (nodes : List (Node I)) (o : KeptOutcome) → Stands M rebased call_of item_of nodes o →
      (s : W.State) (fuel depth : ℕ) (call : Tree) → HoldsOf W s fuel depth call o →
      Comes M W rebased fuel depth (begun M W (call_of call) s)
      (record { ended = o.ended; state = moved W s o.summary.puts o.summary.calls; points = points_by item_of nodes o.node; summary = o.summary; wanting = [] })
  taken W moving writable quiet modest fits nodes o stands s fuel depth call h =
      let P : Tree → Type 0 = λ c. IsOutcome M rebased (call_of c) o.depth (points_by item_of nodes o.node) o.ended o.summary in
      outcomes_stand M W moving writable quiet rebased modest fits (call_of call) o.depth (points_by item_of nodes o.node) o.ended o.summary s fuel depth
      (subst P h.same stands.outcome) h.holds

  module _ (nodes : List (Node I)) where
    pub stand_push : (kept : List (Option KeptOutcome)) (k : KeptOutcome) → AllStand M rebased call_of item_of nodes kept →
        Stands M rebased call_of item_of nodes k → AllStand M rebased call_of item_of nodes (kept ++ Some k ∷ [])
    stand_push kept k stand one i o at =
        elim (kept_push kept k o i at) [ inl e ↦ stand i o e | inr e ↦ subst (Stands M rebased call_of item_of nodes) e.1 one ]

    -- one more is kept, or there was no memory
    pub stand_kept : {T E : Type 0} (r : Result T E) (old new : List (Option KeptOutcome)) (k : KeptOutcome) →
        OnOk r (new ≡ old ++ Some k ∷ []) → OnErr r (new ≡ old) →
        AllStand M rebased call_of item_of nodes old → Stands M rebased call_of item_of nodes k → AllStand M rebased call_of item_of nodes new
    stand_kept (Ok x) old new k done none stand one =
        subst (AllStand M rebased call_of item_of nodes) (sym done) (stand_push old k stand one)
    stand_kept (Err e) old new k done none stand one = subst (AllStand M rebased call_of item_of nodes) (sym none) stand

  module _ (old new : List (Node I)) (x : ℕ) (r : Recounts old new x ((node_at old x).owners + 1)) where
    pub live_recount : (y : ℕ) → IsLive old y → IsLive new y
    live_recount y live =
        elim (cases_eq y x) [
          | inl e ↦ (let a : (node_at new y).owners ≡ (node_at new x).owners = ap (λ z. (node_at new z).owners) e in let b = r.owners in omega arith)
          | inr ne ↦ (let a = r.others y ne in omega arith)
        ]

    -- with one owner more, all stands that did
    pub stand_recount : (kept : List (Option KeptOutcome)) → AllStand M rebased call_of item_of old kept → AllStand M rebased call_of item_of new kept
    stand_recount kept stand i o at =
        let s = stand i o at in
        record {
          live = live_recount o.node s.live;
          outcome = subst (λ ps. IsOutcome M rebased (call_of o.call) o.depth (map (point_by item_of) ps) o.ended o.summary) (sym (r.keeps o.node).points) s.outcome;
        }

-- with a kept node linked into one that no outcome has, all stands that did
pub stand_linked : (M : MachineModel) (rebased : Tree → Tree → ℕ → Tree) (call_of : Tree → M.Call) {I : Type 0} (item_of : I → M.Item) (old new : List (Node I)) (x child : ℕ) (kept : List (Option KeptOutcome)) →
    NotKept kept x → Links old new x child → AllStand M rebased call_of item_of old kept → AllStand M rebased call_of item_of new kept
stand_linked M rebased call_of item_of old new x child kept apart l stand i o at =
    let s = stand i o at in
    let differ : o.node ≢ x = apart i o at in
    let Same : Type 0 = (IsLive new o.node) × (points new o.node ≡ points old o.node) in
    let now : Same = elim (cases_eq o.node child) [
      | inl e ↦ (
          let owners : (node_at new o.node).owners ≡ (node_at new child).owners = ap (λ z. (node_at new z).owners) e in
          let more = l.owners in
          (omega arith, ap (points new) e ∙ l.stands.points ∙ ap (points old) (sym e))
          )
      | inr ne ↦ (let same = (l.others o.node differ ne).owners in let was = s.live in (omega arith, (l.others o.node differ ne).keeps.points))
    ] in
    record {
      live = now.0;
      outcome = subst (λ ps. IsOutcome M rebased (call_of o.call) o.depth (map (point_by item_of) ps) o.ended o.summary) (sym now.1) s.outcome;
    }

pub point_within : {I J : Type 0} (f : I → J) (calls : List I) (ps : List (Point I)) → map (point_by f) (map (within calls) ps) ≡ map (within (map f calls)) (map (point_by f) ps)
point_within f calls [] = refl
point_within {I} {J} f calls (p ∷ ps) =
    ap (λ cs. record { calls = cs; item = f p.item } ∷ map (point_by f) (map (within calls) ps)) (map-append f calls p.calls)
    ∙ ap (λ qs. record { calls = map f calls ++ map f p.calls; item = f p.item } ∷ qs) (point_within f calls ps)

-- the points of a node once another is linked
pub linked_points : {I J : Type 0} (f : I → J) (old new : List (Node I)) (x child : ℕ) → Links old new x child →
    points_by f new x ≡ points_by f old x ++ map (within (map f (last_item old x))) (points_by f old child)
linked_points f old new x child l =
    ap (map (point_by f)) l.points
    ∙ map-append (point_by f) (points old x) (map (within (last_item old x)) (points old child))
    ∙ ap (λ qs. points_by f old x ++ qs) (point_within f (last_item old x) (points old child))

pub linked_last : {I : Type 0} (old new : List (Node I)) (x child : ℕ) → Links old new x child → last_item new x ≡ last_item old x
linked_last old new x child l = ap (λ items. last_before (length items) items) l.items
