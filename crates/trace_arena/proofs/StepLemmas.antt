-- What each call leaves of the nodes.
use Rattle.std.proofs.Common.{◌≡◌, ◌≢◌, ℕ, ◌+◌, ◌<◌, ◌≤◌, List, [], ◌∷◌, ◌++◌, map, length, set, refl, sym, ap, subst, ◌∙◌, inl, inr, arith}
use Rattle.std.proofs.lemmas.Bool.{cases_eq}
use Rattle.std.proofs.lemmas.List.{map_push, length_push, get_or-set_same, get_or-set_other, length-set, set_comm}
use Rattle.trace_arena.specs.declared.node.Link.{Link}
use Rattle.trace_arena.specs.declared.node.NodeId.{NodeId}
use Rattle.trace_arena.specs.Nodes.{Node, free_node, new_node, with_item, with_link, with_owners, node_at, leads, parents, IsLive, IsUnshared}
use Rattle.trace_arena.specs.Points.{own, within, last_before, points}
use Rattle.trace_arena.specs.Whole.{IsPlaced, IsWhole}
use Rattle.trace_arena.specs.Changes.{Keeps, Recounts, Begins, Appends, Links, last_item}
use Rattle.trace_arena.proofs.LinkLemmas.{leads_le, leads_push, leads_same, leads_other}
use Rattle.trace_arena.proofs.PointLemmas.{points_keep, points_woven, weave_none, weave_push, weave_link, placed_push, placed_link, placed_agree}
use Rattle.trace_arena.proofs.WriteLemmas.{Writes, writes_set, MayStand, written_no_parent, written_whole, written_keeps, written_stays, written_points}

-- a call that leaves the arena whole, with what it changes
pub record Step (I : Type 0) (new : List (Node I)) (Change : Type 0) : Type 0 where
  pub whole : IsWhole new
  pub change : Change

-- an item is appended
pub step_append : {I : Type 0} (old new : List (Node I)) (x : ℕ) (item : I) → IsWhole old → IsUnshared old x →
    Writes old new x (with_item (node_at old x) item) → Step I new (Appends old new x item)
step_append {I} old new x item whole unshared writes =
    let n : Node I = with_item (node_at old x) item in
    let may : MayStand old x n = record {
      no_parent = unshared.no_parent;
      no_circle = omega (arith, leads_le old x x, unshared.no_parent);
      counted = λ y differ. omega (arith, whole.counted y);
      below = λ c lt. whole.below x c lt;
      owned = omega (arith, unshared.maker);
      tall = whole.tall x (omega (arith, unshared.maker));
      placed = placed_item;
    } in
    record {
      whole = written_whole old new x n whole writes may;
      change = record {
        unshared = record {
          maker = ap (λ m. m.owners) writes.here ∙ unshared.maker;
          no_parent = written_no_parent old new x n whole writes may;
        };
        items = ap (λ m. m.items) writes.here;
        links = ap (λ m. m.links) writes.here;
        points =
            written_points old new x n whole writes may
            ∙ weave_push (points old) (λ c. (node_at old c).total) 0 0 (node_at old x).total (node_at old x).items (node_at old x).links item (whole.placed x)
            ∙ ap (λ ps. ps ++ own item ∷ []) (sym (points_woven old whole.below x));
        others = λ y differ. written_stays old new x n whole writes may y differ refl;
      };
    }
  where
    placed_item : IsPlaced (λ c. (node_at old c).total) 0 0 (length ((node_at old x).items ++ item ∷ [])) ((node_at old x).total + 1) (node_at old x).links
    placed_item =
        subst
        (λ (end : ℕ). IsPlaced (λ c. (node_at old c).total) 0 0 end ((node_at old x).total + 1) (node_at old x).links)
        (sym (length_push (node_at old x).items item))
        (placed_push (λ c. (node_at old c).total) 0 0 (length (node_at old x).items) (node_at old x).total (node_at old x).links (whole.placed x))

-- a node is begun
pub step_begin : {I : Type 0} (old new : List (Node I)) (x : ℕ) → IsWhole old → (node_at old x).owners ≡ 0 →
    Writes old new x new_node → Step I new (Begins old new x)
step_begin {I} old new x whole none writes =
    let was : node_at old x ≡ free_node = whole.free x none in
    let n : Node I = new_node in
    let may : MayStand old x n = record {
      no_parent = omega (arith, whole.counted x);
      no_circle = refl;
      counted = λ y differ. omega (arith, whole.counted y);
      below = λ c lt. absurd (omega arith);
      owned = omega arith;
      tall = omega arith;
      placed = (omega arith, omega arith);
    } in
    record {
      whole = written_whole old new x n whole writes may;
      change = record {
        was_free = none;
        unshared = record {
          maker = ap (λ m. m.owners) writes.here;
          no_parent = written_no_parent old new x n whole writes may;
        };
        items = ap (λ m. m.items) writes.here;
        links = ap (λ m. m.links) writes.here;
        points = written_points old new x n whole writes may ∙ weave_none (points old);
        others = λ y differ.
            written_stays old new x n whole writes may y differ (sym (ap (λ m. leads y m.links) was));
      };
    }

keeps_trans : {I : Type 0} (old mid new : List (Node I)) (y : ℕ) → Keeps old mid y → Keeps mid new y → Keeps old new y
keeps_trans old mid new y first second = record {
  items = second.items ∙ first.items;
  links = second.links ∙ first.links;
  points = second.points ∙ first.points;
}

-- only the count of a live node's owners changes
module _ {I : Type 0} (old new : List (Node I)) (x owners : ℕ) (whole : IsWhole old) (live : IsLive old x)
    (enough : parents old x ≤ owners) (some : 0 < owners) (writes : Writes old new x (with_owners (node_at old x) owners)) where
  recount_field : {A : Type 0} (F : Node I → A) → F (with_owners (node_at old x) owners) ≡ F (node_at old x) →
      (y : ℕ) → F (node_at new y) ≡ F (node_at old y)
  recount_field F same y = elim (cases_eq y x) [
    | inl here ↦ ap F (ap (node_at new) here ∙ writes.here) ∙ same ∙ sym (ap (λ z. F (node_at old z)) here)
    | inr differ ↦ ap F (writes.stays y differ)
  ]

  recount_items : (y : ℕ) → (node_at new y).items ≡ (node_at old y).items
  recount_items = recount_field (λ m. m.items) refl

  recount_links : (y : ℕ) → (node_at new y).links ≡ (node_at old y).links
  recount_links = recount_field (λ m. m.links) refl

  recount_height : (y : ℕ) → (node_at new y).height ≡ (node_at old y).height
  recount_height = recount_field (λ m. m.height) refl

  recount_total : (y : ℕ) → (node_at new y).total ≡ (node_at old y).total
  recount_total = recount_field (λ m. m.total) refl

  recount_parents : (y : ℕ) → parents new y ≡ parents old y
  recount_parents y = omega (arith, writes.counts y)

  recount_owners : (node_at new x).owners ≡ owners
  recount_owners = ap (λ m. m.owners) writes.here

  pub step_recount : Step I new (Recounts old new x owners)
  step_recount = record {
    whole = record {
      counted = λ y. elim (cases_eq y x) [
        | inl here ↦
            omega (arith, recount_parents y, ap (parents old) here, ap (λ z. (node_at new z).owners) here, recount_owners)
        | inr differ ↦ omega (arith, recount_parents y, whole.counted y, ap (λ m. m.owners) (writes.stays y differ))
      ];
      below = λ y c linked.
          rw (recount_height c, recount_height y)
          (whole.below y c (subst (λ (ls : List Link). 0 < leads c ls) (recount_links y) linked));
      tall = λ y now. elim (cases_eq y x) [
        | inl here ↦ omega (arith, recount_height y, ap (λ z. (node_at old z).height) here, whole.tall x live)
        | inr differ ↦
            rw (recount_height y) (whole.tall y (subst (λ (m : Node I). 0 < m.owners) (writes.stays y differ) now))
      ];
      free = λ y none. elim (cases_eq y x) [
        | inl here ↦ absurd (omega (arith, none, ap (λ z. (node_at new z).owners) here, recount_owners, some))
        | inr differ ↦ writes.stays y differ ∙ whole.free y (sym (ap (λ m. m.owners) (writes.stays y differ)) ∙ none)
      ];
      placed = λ y.
          rw (recount_items y, recount_total y, recount_links y)
          (placed_agree (λ c. (node_at old c).total) (λ c. (node_at new c).total) 0 0 (length (node_at old y).items) (node_at old y).total (node_at old y).links
          (λ c lt. recount_total c) (whole.placed y));
    };
    change = record {
      keeps = λ y. record {
        items = recount_items y;
        links = recount_links y;
        points = points_keep old new (λ _. Unit {0}) (λ _ _ _ _. tt) (λ z _. recount_items z) (λ z _. recount_links z) y tt (recount_height y);
      };
      owners = recount_owners;
      parents = recount_parents;
      others = λ y differ. ap (λ m. m.owners) (writes.stays y differ);
    };
  }

-- a link is put into a node, once its child has one owner more
module _ {I : Type 0} (old mid new : List (Node I)) (parent : ℕ) (child : NodeId) (whole : IsWhole mid)
    (recounts : Recounts old mid child.0 ((node_at old child.0).owners + 1)) (counted : parents old child.0 ≤ (node_at old child.0).owners)
    (unshared : IsUnshared old parent) (differ : child.0 ≢ parent)
    (writes : Writes mid new parent (with_link (node_at mid parent) child (node_at mid child.0).height (node_at mid child.0).total)) where
  link_mid : Link
  link_mid = record { at = length (node_at mid parent).items; before = (node_at mid parent).total; child = child }

  -- how many of the links lead to a node afterwards
  link_leads : (y : ℕ) → y ≢ child.0 → leads y ((node_at mid parent).links ++ link_mid ∷ []) ≡ leads y (node_at mid parent).links
  unfolding link_mid
  link_leads y apart =
      omega (arith, leads_push y (node_at mid parent).links link_mid, leads_other y link_mid [] (λ same. apart (sym same)))

  link_leads_child : leads child.0 ((node_at mid parent).links ++ link_mid ∷ []) ≡ leads child.0 (node_at mid parent).links + 1
  unfolding link_mid
  link_leads_child =
      omega (arith, leads_push child.0 (node_at mid parent).links link_mid, leads_same child.0 link_mid [] refl)

  link_owner : (node_at mid parent).owners ≡ 1
  link_owner = recounts.others parent (λ same. differ (sym same)) ∙ unshared.maker

  link_orphan : parents mid parent ≡ 0
  link_orphan = recounts.parents parent ∙ unshared.no_parent

  link_may : MayStand mid parent (with_link (node_at mid parent) child (node_at mid child.0).height (node_at mid child.0).total)
  unfolding link_mid
  link_may = record {
    no_parent = link_orphan;
    no_circle = omega (arith, link_leads parent (λ same. differ (sym same)), leads_le mid parent parent, link_orphan);
    counted = λ y apart. elim (cases_eq y child.0) [
      | inl same ↦
          subst
          (λ (z : ℕ). leads z ((node_at mid parent).links ++ link_mid ∷ []) + parents mid z ≤ (node_at mid z).owners + leads z (node_at mid parent).links)
          (sym same) (omega (arith, link_leads_child, recounts.parents child.0, recounts.owners, counted))
      | inr other ↦ omega (arith, link_leads y other, whole.counted y)
    ];
    below = λ c lt. elim (cases_eq c child.0) [
      | inl same ↦ omega (arith, ap (λ z. (node_at mid z).height) same)
      | inr other ↦ omega (arith, whole.below parent c (omega (arith, lt, link_leads c other)))
    ];
    owned = omega (arith, link_owner);
    tall = omega arith;
    placed =
        placed_link (λ c. (node_at mid c).total) 0 0 (length (node_at mid parent).items) (node_at mid parent).total (node_at mid parent).links child (whole.placed parent);
  }

  link_keeps : (y : ℕ) → y ≢ parent → Keeps old new y
  link_keeps y apart =
      keeps_trans old mid new y (recounts.keeps y) (written_keeps mid new parent _ whole writes link_may y apart)

  link_points : points new parent ≡ points old parent ++ map (within (last_item old parent)) (points old child.0)
  unfolding link_mid
  link_points =
      let items : (node_at mid parent).items ≡ (node_at old parent).items = (recounts.keeps parent).items in
      written_points mid new parent _ whole writes link_may
      ∙ weave_link (points mid) 0 (node_at mid parent).items (node_at mid parent).links link_mid refl
      ∙ ap (λ ps. ps ++ map (within (last_item mid parent)) (points mid child.0)) (sym (points_woven mid whole.below parent))
      ∙ ap (λ ps. ps ++ map (within (last_item mid parent)) (points mid child.0)) (recounts.keeps parent).points
      ∙ ap (λ ps. points old parent ++ map (within (last_item mid parent)) ps) (recounts.keeps child.0).points
      ∙ ap (λ is. points old parent ++ map (within (last_before (length is) is)) (points old child.0)) items

  pub step_link : Step I new (Links old new parent child.0)
  unfolding link_mid
  step_link = record {
    whole = written_whole mid new parent _ whole writes link_may;
    change = record {
      unshared = record {
        maker = ap (λ m. m.owners) writes.here ∙ link_owner;
        no_parent = written_no_parent mid new parent _ whole writes link_may;
      };
      items = ap (λ m. m.items) writes.here ∙ (recounts.keeps parent).items;
      linked =
          ap (λ m. map (λ l. l.child.0) m.links) writes.here
          ∙ map_push (λ (l : Link). l.child.0) (node_at mid parent).links link_mid
          ∙ ap (λ ls. map (λ l. l.child.0) ls ++ child.0 ∷ []) (recounts.keeps parent).links;
      points = link_points;
      stands = link_keeps child.0 differ;
      owners = ap (λ m. m.owners) (writes.stays child.0 differ) ∙ recounts.owners;
      parents = omega (arith, writes.counts child.0, link_leads_child, recounts.parents child.0);
      others = λ y apart other. record {
        keeps = link_keeps y apart;
        owners = ap (λ m. m.owners) (writes.stays y apart) ∙ recounts.others y other;
        parents = omega (arith, writes.counts y, link_leads y other, recounts.parents y);
      };
    };
  }

-- a link, with the writes of both nodes in the order in which they come
module _ {I : Type 0} (nodes : List (Node I)) (parent : ℕ) (child : NodeId) (whole : IsWhole nodes) (unshared : IsUnshared nodes parent)
    (live : IsLive nodes child.0) (differ : child.0 ≢ parent) (parent_in : parent < length nodes) (child_in : child.0 < length nodes) where
  abbrev pub linked_parent : Node I
  linked_parent = with_link (node_at nodes parent) child (node_at nodes child.0).height (node_at nodes child.0).total

  abbrev pub linked_child : Node I
  linked_child = with_owners (node_at nodes child.0) ((node_at nodes child.0).owners + 1)

  linked_first : List (Node I)
  linked_first = set nodes child.0 linked_child

  linked_step : Step I (set linked_first parent linked_parent) (Links nodes (set linked_first parent linked_parent) parent child.0)
  unfolding linked_first
  linked_step =
      let recount =
      step_recount nodes linked_first child.0 ((node_at nodes child.0).owners + 1) whole live
      (omega (arith, whole.counted child.0)) (omega arith) (writes_set nodes child.0 linked_child child_in) in
      let same_parent : node_at linked_first parent ≡ node_at nodes parent =
      get_or-set_other nodes child.0 parent linked_child free_node (λ same. differ (sym same)) in
      let same_child : node_at linked_first child.0 ≡ linked_child =
      get_or-set_same nodes child.0 linked_child free_node child_in in
      let same : linked_parent ≡ with_link (node_at linked_first parent) child (node_at linked_first child.0).height (node_at linked_first child.0).total =
      ap (λ n. with_link n child (node_at nodes child.0).height (node_at nodes child.0).total) (sym same_parent)
      ∙ ap (λ n. with_link (node_at linked_first parent) child n.height n.total) (sym same_child) in
      step_link nodes linked_first (set linked_first parent linked_parent) parent child recount.whole recount.change
      (whole.counted child.0) unshared differ
      (subst (λ (n : Node I). Writes linked_first (set linked_first parent linked_parent) parent n) same
      (writes_set linked_first parent linked_parent (omega (arith, parent_in, length-set nodes child.0 linked_child))))

  pub step_linked : Step I (set (set nodes parent linked_parent) child.0 linked_child) (Links nodes (set (set nodes parent linked_parent) child.0 linked_child) parent child.0)
  unfolding linked_first
  step_linked =
      subst
      (λ (new : List (Node I)). Step I new (Links nodes new parent child.0))
      (set_comm nodes child.0 parent linked_child linked_parent differ)
      linked_step
