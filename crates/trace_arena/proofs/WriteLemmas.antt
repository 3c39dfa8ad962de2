-- What a write of one node leaves.
use Rattle.std.proofs.Common.{◌≡◌, ◌≢◌, ℕ, ◌+◌, ◌<◌, ◌≤◌, List, [], ◌∷◌, ◌++◌, length, set, refl, sym, ap, subst, ◌∙◌, inl, inr, arith}
use Rattle.std.proofs.lemmas.Bool.{cases_eq, cases_lt}
use Rattle.std.proofs.lemmas.List.{get_or-set_same, get_or-set_other, get_or_append_left, get_or_push, get_or_past, length_push}
use Rattle.trace_arena.specs.Nodes.{Node, free_node, node_at, leads, parents, IsLinked}
use Rattle.trace_arena.specs.Points.{weave, points}
use Rattle.trace_arena.specs.Whole.{IsPlaced, IsWhole}
use Rattle.trace_arena.specs.Changes.{Keeps, Stays}
use Rattle.trace_arena.proofs.LinkLemmas.{leads_le, parents_set, parents_push}
use Rattle.trace_arena.proofs.PointLemmas.{points_keep, points_woven, weave_agree, weave_same, placed_agree}

-- one node is written: every other is what it was, and its links are counted in place of those that it had
pub record Writes {I : Type 0} (old new : List (Node I)) (x : ℕ) (n : Node I) : Type 0 where
  pub here : node_at new x ≡ n
  pub stays : (y : ℕ) → y ≢ x → node_at new y ≡ node_at old y
  pub counts : (y : ℕ) → parents new y + leads y (node_at old x).links ≡ parents old y + leads y n.links

pub writes_set : {I : Type 0} (nodes : List (Node I)) (x : ℕ) (n : Node I) → x < length nodes → Writes nodes (set nodes x n) x n
writes_set nodes x n lt = record {
  here = get_or-set_same nodes x n free_node lt;
  stays = λ y differ. get_or-set_other nodes x y n free_node differ;
  counts = λ y. parents_set nodes y x n lt;
}

pub writes_push : {I : Type 0} (nodes : List (Node I)) (n : Node I) → Writes nodes (nodes ++ n ∷ []) (length nodes) n
writes_push nodes n = record {
  here = get_or_push nodes n free_node (length nodes) refl;
  stays = λ y differ. elim (cases_lt y (length nodes)) [
    | inl inside ↦ get_or_append_left nodes (n ∷ []) free_node y inside
    | inr past ↦
        get_or_past (nodes ++ n ∷ []) y free_node (omega (arith, length_push nodes n))
        ∙ sym (get_or_past nodes y free_node past)
  ];
  counts = λ y.
      let none : leads y (node_at nodes (length nodes)).links ≡ 0 =
      ap (λ m. leads y m.links) (get_or_past nodes (length nodes) free_node (omega arith)) in
      omega (arith, parents_push nodes y n);
}

-- a node that may be written under a number to which no link leads
pub record MayStand {I : Type 0} (old : List (Node I)) (x : ℕ) (n : Node I) : Type 0 where
  pub no_parent : parents old x ≡ 0
  pub no_circle : leads x n.links ≡ 0
  pub counted : (y : ℕ) → y ≢ x → leads y n.links + parents old y ≤ (node_at old y).owners + leads y (node_at old x).links
  pub below : (c : ℕ) → 0 < leads c n.links → (node_at old c).height < n.height
  pub owned : 0 < n.owners
  pub tall : 0 < n.height
  pub placed : IsPlaced (λ c. (node_at old c).total) 0 0 (length n.items) n.total n.links

module _ {I : Type 0} (old new : List (Node I)) (x : ℕ) (n : Node I) (whole : IsWhole old) (writes : Writes old new x n)
    (may : MayStand old x n) where
  -- no link leads to the node
  pub written_no_parent : parents new x ≡ 0
  written_no_parent = omega (arith, writes.counts x, may.no_parent, may.no_circle)

  written_not_child : (y c : ℕ) → IsLinked new y c → c ≢ x
  written_not_child y c linked same =
      let none : parents new c ≡ 0 = ap (parents new) same ∙ written_no_parent in
      omega (arith, leads_le new c y)

  written_is : (y : ℕ) → y ≡ x → node_at new y ≡ n
  written_is y same = ap (node_at new) same ∙ writes.here

  written_below : (y c : ℕ) → IsLinked new y c → (node_at new c).height < (node_at new y).height
  written_below y c linked =
      let child : (node_at new c).height ≡ (node_at old c).height =
      ap (λ m. m.height) (writes.stays c (written_not_child y c linked)) in
      elim (cases_eq y x) [
        | inl same ↦
            let is : node_at new y ≡ n = written_is y same in
            rw (child, is) (may.below c (subst (λ (m : Node I). 0 < leads c m.links) is linked))
        | inr differ ↦
            let is : node_at new y ≡ node_at old y = writes.stays y differ in
            rw (child, is) (whole.below y c (subst (λ (m : Node I). 0 < leads c m.links) is linked))
      ]

  pub written_whole : IsWhole new
  written_whole = record {
    counted = λ y. elim (cases_eq y x) [
      | inl same ↦ omega (arith, ap (parents new) same, written_no_parent)
      | inr differ ↦ omega (arith, writes.counts y, may.counted y differ, ap (λ m. m.owners) (writes.stays y differ))
    ];
    below = written_below;
    tall = λ y live. elim (cases_eq y x) [
      | inl same ↦ rw (written_is y same) may.tall
      | inr differ ↦
          rw (writes.stays y differ) (whole.tall y (subst (λ (m : Node I). 0 < m.owners) (writes.stays y differ) live))
    ];
    free = λ y none. elim (cases_eq y x) [
      | inl same ↦ absurd (omega (arith, may.owned, ap (λ m. m.owners) (written_is y same)))
      | inr differ ↦
          writes.stays y differ ∙ whole.free y (sym (ap (λ m. m.owners) (writes.stays y differ)) ∙ none)
    ];
    placed = λ y.
        elim (cases_eq y x) [
          | inl same ↦
              let is : node_at new y ≡ n = written_is y same in
              subst
              (λ (m : Node I). IsPlaced (λ c. (node_at new c).total) 0 0 (length m.items) m.total m.links)
              (sym is)
              (placed_agree (λ c. (node_at old c).total) (λ c. (node_at new c).total) 0 0 (length n.items) n.total n.links
              (λ c lt. ap (λ m. m.total) (writes.stays c (written_not_child y c (subst (λ (m : Node I). 0 < leads c m.links) (sym is) lt))))
              may.placed)
          | inr differ ↦
              let is : node_at new y ≡ node_at old y = writes.stays y differ in
              subst
              (λ (m : Node I). IsPlaced (λ c. (node_at new c).total) 0 0 (length m.items) m.total m.links)
              (sym is)
              (placed_agree (λ c. (node_at old c).total) (λ c. (node_at new c).total) 0 0 (length (node_at old y).items) (node_at old y).total (node_at old y).links
              (λ c lt. ap (λ m. m.total) (writes.stays c (written_not_child y c (subst (λ (m : Node I). 0 < leads c m.links) (sym is) lt))))
              (whole.placed y))
        ];
  }

  -- every other node means what it meant
  pub written_keeps : (y : ℕ) → y ≢ x → Keeps old new y
  written_keeps y differ = record {
    items = ap (λ m. m.items) (writes.stays y differ);
    links = ap (λ m. m.links) (writes.stays y differ);
    points =
        points_keep old new (λ z. z ≢ x) (λ z c _ linked. written_not_child z c linked)
        (λ z apart. ap (λ m. m.items) (writes.stays z apart)) (λ z apart. ap (λ m. m.links) (writes.stays z apart))
        y differ (ap (λ m. m.height) (writes.stays y differ));
  }

  pub written_stays : (y : ℕ) → y ≢ x → leads y n.links ≡ leads y (node_at old x).links → Stays old new y
  written_stays y differ alike = record {
    keeps = written_keeps y differ;
    owners = ap (λ m. m.owners) (writes.stays y differ);
    parents = omega (arith, writes.counts y);
  }

  -- the node means what its items and links say, over the points that its children had
  pub written_points : points new x ≡ weave (points old) 0 n.items n.links
  written_points =
      points_woven new written_below x
      ∙ weave_same (points new) 0 (node_at new x).items n.items (node_at new x).links n.links
      (ap (λ m. m.items) writes.here) (ap (λ m. m.links) writes.here)
      ∙ weave_agree (points new) (points old) 0 n.items n.links
      (λ c lt. (written_keeps c (written_not_child x c (subst (λ (m : Node I). 0 < leads c m.links) (sym writes.here) lt))).points)
