-- The same search over nodes whose items know those before them.
use Rattle.std.proofs.Common.{◌≡◌, ℕ, zero, suc, ◌+◌, ◌-◌, ◌<◌, ◌≤◌, List, [], ◌∷◌, ◌++◌, length, map, Some, refl, sym, ap, subst, ◌∙◌, arith}
use Rattle.std.specs.Prelude.{slice_get}
use Rattle.std.specs.Option.{option_map}
use Rattle.std.proofs.Math.Path.{fun_ext}
use Rattle.std.proofs.lemmas.List.{map-append, append-nil}
use Rattle.trace_arena.specs.declared.node.NodeId.{NodeId}
use Rattle.trace_arena.specs.Nodes.{Node, node_at, leads, parents, IsLive}
use Rattle.trace_arena.specs.Points.{within, last_before, weave, points}
use Rattle.trace_arena.specs.Whole.{IsWhole, IsPlaced}
use Rattle.trace_arena.proofs.PointLemmas.{points_woven, points_length}
use Rattle.trace_cursor.specs.declared.descent.ItemPlace.{ItemPlace}
use Rattle.trace_cursor.specs.Places.{totals, called, IsChild, IsOwn}
use Rattle.trace_cursor.specs.Pasts.{pasts, with_pasts, traced, past_at, call_places, IsPath, Follows}
use Rattle.trace_cursor.proofs.SearchLemmas.{within_called, descend_start, descend_step, child_enters, own_owns}
use Rattle.trace_cursor.proofs.StackLemmas.{last_is}

pub traced_at : {I : Type 0} (nodes : List (Node I)) (x : ℕ) → node_at (traced nodes) x ≡ with_pasts (node_at nodes x)
traced_at [] x = refl
traced_at (n ∷ ns) zero = refl
traced_at (n ∷ ns) (suc x) = traced_at ns x

pub pasts_length : {I : Type 0} (before items : List I) → length (pasts before items) ≡ length items
pasts_length before [] = refl
pasts_length before (i ∷ is) = ap suc (pasts_length (before ++ i ∷ []) is)

traced_parents : {I : Type 0} (nodes : List (Node I)) (x : ℕ) → parents (traced nodes) x ≡ parents nodes x
traced_parents [] x = refl
traced_parents (n ∷ ns) x = ap (λ k. leads x n.links + k) (traced_parents ns x)

pub get_some : {X : Type 0} (xs : List X) (k : ℕ) → k < length xs → (x : X) × (slice_get xs k ≡ Some x)
get_some [] k lt = absurd (omega arith)
get_some (x ∷ xs) zero lt = (x, refl)
get_some (x ∷ xs) (suc k) lt = get_some xs k (omega arith)

module _ {I : Type 0} (nodes : List (Node I)) where
  same_links : (x : ℕ) → (node_at nodes x).links ≡ (node_at (traced nodes) x).links
  same_links x = sym (ap (λ n. n.links) (traced_at nodes x))

  same_owners : (x : ℕ) → (node_at nodes x).owners ≡ (node_at (traced nodes) x).owners
  same_owners x = sym (ap (λ n. n.owners) (traced_at nodes x))

  same_height : (x : ℕ) → (node_at nodes x).height ≡ (node_at (traced nodes) x).height
  same_height x = sym (ap (λ n. n.height) (traced_at nodes x))

  same_total : (x : ℕ) → (node_at nodes x).total ≡ (node_at (traced nodes) x).total
  same_total x = sym (ap (λ n. n.total) (traced_at nodes x))

  same_length : (x : ℕ) → length (node_at nodes x).items ≡ length (node_at (traced nodes) x).items
  same_length x = sym (ap (λ n. length n.items) (traced_at nodes x) ∙ pasts_length [] (node_at nodes x).items)

  same_totals : totals nodes ≡ totals (traced nodes)
  same_totals = fun_ext same_total

  traced_whole : IsWhole nodes → IsWhole (traced nodes)
  traced_whole whole = record {
    counted = λ x. omega (arith, traced_parents nodes x, whole.counted x, same_owners x);
    below = λ x c linked.
        omega (arith, same_height x, same_height c, whole.below x c (subst (λ ls. 0 < leads c ls) (sym (same_links x)) linked));
    tall = λ x live. omega (arith, same_height x, whole.tall x (omega (arith, live, same_owners x)));
    free = λ x none. traced_at nodes x ∙ ap with_pasts (whole.free x (same_owners x ∙ none));
    placed = λ x.
        subst (λ f. IsPlaced f 0 0 (length (node_at (traced nodes) x).items) (node_at (traced nodes) x).total (node_at (traced nodes) x).links)
        same_totals
        (subst (λ ls. IsPlaced (totals nodes) 0 0 (length (node_at (traced nodes) x).items) (node_at (traced nodes) x).total ls) (same_links x)
        (subst (λ n. IsPlaced (totals nodes) 0 0 (length (node_at (traced nodes) x).items) n (node_at nodes x).links) (same_total x)
        (subst (λ n. IsPlaced (totals nodes) 0 0 n (node_at nodes x).total (node_at nodes x).links) (same_length x) (whole.placed x))));
  }

  child_moves : (x rest child left at : ℕ) → IsChild (totals nodes) (node_at nodes x).links rest child left at →
      IsChild (totals (traced nodes)) (node_at (traced nodes) x).links rest child left at
  child_moves x rest child left at place =
      subst (λ f. IsChild f (node_at (traced nodes) x).links rest child left at) same_totals
      (subst (λ ls. IsChild (totals nodes) ls rest child left at) (same_links x) place)

  own_moves : (x rest at stop : ℕ) → IsOwn (totals nodes) (node_at nodes x).links (length (node_at nodes x).items) rest at stop →
      IsOwn (totals (traced nodes)) (node_at (traced nodes) x).links (length (node_at (traced nodes) x).items) rest at stop
  own_moves x rest at stop place =
      subst (λ f. IsOwn f (node_at (traced nodes) x).links (length (node_at (traced nodes) x).items) rest at stop) same_totals
      (subst (λ ls. IsOwn (totals nodes) ls (length (node_at (traced nodes) x).items) rest at stop) (same_links x)
      (subst (λ n. IsOwn (totals nodes) (node_at nodes x).links n rest at stop) (same_length x) place))

  -- the item behind which a node is linked is that of its place
  calls_at : (node : NodeId) (at : ℕ) → at ≤ length (node_at (traced nodes) node.0).items →
      map (past_at nodes) (call_places node at) ≡ map Some (last_before at (node_at (traced nodes) node.0).items)
  calls_at node zero le = refl
  calls_at node (suc k) le =
      let found = get_some (node_at (traced nodes) node.0).items k (omega arith) in
      ap (λ o. o ∷ []) found.1 ∙ ap (map Some) (sym (last_is (node_at (traced nodes) node.0).items k found.0 found.1))

  module _ (whole : IsWhole nodes) where
    traced_woven : (x : ℕ) → points (traced nodes) x
        ≡ weave (points (traced nodes)) 0 (node_at (traced nodes) x).items (node_at (traced nodes) x).links
    traced_woven x = points_woven (traced nodes) (traced_whole whole).below x

    traced_long : (x : ℕ) → length (points (traced nodes) x) ≡ (node_at (traced nodes) x).total
    traced_long x = points_length (traced nodes) (traced_whole whole) x

    pub follows_start : (root index : ℕ) → IsLive nodes root → index < length (points nodes root) → Follows nodes root index root index []
    follows_start root index live lt =
        let down =
        descend_start (traced nodes) (traced_whole whole) traced_woven traced_long root index (omega (arith, live, same_owners root))
        (omega (arith, lt, points_length nodes whole root, same_total root, traced_long root)) in
        record { descends = down.0; same = ap (map Some) (sym down.1) }

    pub follows_live : (root index node rest : ℕ) (places : List ItemPlace) → Follows nodes root index node rest places →
        IsLive nodes node × (rest < (node_at nodes node).total)
    follows_live root index node rest places follows =
        (omega (arith, follows.descends.live, same_owners node), omega (arith, follows.descends.inside, same_total node))

    pub follows_lower : (node rest child left at : ℕ) → IsChild (totals nodes) (node_at nodes node).links rest child left at →
        (node_at nodes child).height < (node_at nodes node).height
    follows_lower node rest child left at place =
        let into =
        child_enters (traced nodes) (traced_whole whole) traced_woven traced_long node rest child left at (child_moves node rest child left at place) in
        omega (arith, into.lower, same_height node, same_height child)

    pub follows_step : (root index : ℕ) (node : NodeId) (rest child left at : ℕ) (places : List ItemPlace) →
        Follows nodes root index node.0 rest places → IsChild (totals nodes) (node_at nodes node.0).links rest child left at →
        Follows nodes root index child left (places ++ call_places node at)
    follows_step root index node rest child left at places follows place =
        let into =
        child_enters (traced nodes) (traced_whole whole) traced_woven traced_long node.0 rest child left at
        (child_moves node.0 rest child left at place) in
        let calls = follows.descends.calls in
        let further =
        descend_step (traced nodes) (traced_whole whole) traced_woven traced_long root index node.0 rest child left at
        follows.descends into in
        record {
          descends = further.0;
          same =
              map-append (past_at nodes) places (call_places node at)
              ∙ ap (λ os. os ++ map (past_at nodes) (call_places node at)) follows.same
              ∙ ap (λ os. map Some calls ++ os) (calls_at node at into.within_items ∙ ap (map Some) (sym into.behind))
              ∙ sym (map-append Some calls into.descends.calls)
              ∙ ap (map Some) (sym further.1);
        }

    pub follows_end : (root index : ℕ) (node : NodeId) (rest at stop : ℕ) (places : List ItemPlace) →
        Follows nodes root index node.0 rest places →
        IsOwn (totals nodes) (node_at nodes node.0).links (length (node_at nodes node.0).items) rest at stop →
        IsPath nodes root index (places ++ record { node = node; at = at } ∷ [])
    follows_end root index node rest at stop places follows place =
        let down = follows.descends in
        let own_run =
        own_owns (traced nodes) (traced_whole whole) traced_woven traced_long node.0 rest at stop down.inside
        (own_moves node.0 rest at stop place) in
        let item = get_some (node_at (traced nodes) node.0).items at (omega (arith, own_run.inside, own_run.ends)) in
        let e : index ≡ index - rest + rest = omega (arith, down.before) in
        let d : rest ≡ rest + 0 = omega arith in
        let z : at + 0 ≡ at = omega arith in
        record {
          point = record { calls = down.calls ++ []; item = item.0 };
          found =
              ap (slice_get (points (traced nodes) root)) e
              ∙ down.run rest down.inside
              ∙ ap (λ n. option_map (within down.calls) (slice_get (points (traced nodes) node.0) n)) d
              ∙ ap (option_map (within down.calls)) (own_run.run 0 (omega (arith, own_run.inside)))
              ∙ within_called down.calls (slice_get (node_at (traced nodes) node.0).items (at + 0))
              ∙ ap (λ n. option_map (called (down.calls ++ [])) (slice_get (node_at (traced nodes) node.0).items n)) z
              ∙ ap (option_map (called (down.calls ++ []))) item.1;
          same =
              map-append (past_at nodes) places (record { node = node; at = at } ∷ [])
              ∙ ap (λ os. os ++ map (past_at nodes) (record { node = node; at = at } ∷ [])) (follows.same ∙ ap (map Some) (sym (append-nil down.calls)))
              ∙ ap (λ o. map Some (down.calls ++ []) ++ (o ∷ [])) item.1
              ∙ sym (map-append Some (down.calls ++ []) (item.0 ∷ []));
        }
