-- What the calls of an arena leave of a cursor.
use Rattle.std.proofs.Common.{◌≡◌, ◌≢◌, ℕ, ◌+◌, ◌<◌, ◌≤◌, ◌==◌, if◌then◌else◌, List, [], ◌∷◌, ◌++◌, length, map, refl, sym, ap, subst, ◌∙◌, inl, inr, arith}
use Rattle.std.specs.Prelude.{slice_get}
use Rattle.std.specs.Option.{option_map}
use Rattle.std.proofs.lemmas.Bool.{cases_eq, ne_eqb}
use Rattle.std.proofs.lemmas.List.{length-append, append-nil}
use Rattle.trace_values.specs.declared.item.TraceItem.{TraceItem}
use Rattle.trace_arena.specs.declared.node.Link.{Link}
use Rattle.trace_arena.specs.Nodes.{Node, node_at, leads, outside, IsLive, IsLinked, IsReached, IsReached.from_outside, IsReached.by_link, children}
use Rattle.trace_arena.specs.Points.{Point, own, within, points}
use Rattle.trace_arena.specs.Whole.{IsWhole}
use Rattle.trace_arena.specs.Changes.{Keeps, Begins, Appends, Links, Recounts, Releases, last_item, less_one}
use Rattle.trace_cursor.specs.declared.cursor.Cursor.{Cursor}
use Rattle.trace_cursor.specs.Stacks.{only, IsBelow}
use Rattle.trace_cursor.specs.Places.{called, StandsAt}
use Rattle.trace_cursor.specs.Laws.{IsGood}
use Rattle.trace_cursor.proofs.WeaveLemmas.{get_left}

-- how many of these numbers are x
abbrev counts_of : ℕ → List ℕ → ℕ
counts_of x [] = 0
counts_of x (c ∷ cs) = (if c == x then 1 else 0) + counts_of x cs

leads_count : (x : ℕ) (ls : List Link) → leads x ls ≡ counts_of x (map (λ l. l.child.0) ls)
leads_count x [] = refl
leads_count x (l ∷ ls) = ap (λ n. (if l.child.0 == x then 1 else 0) + n) (leads_count x ls)

counts_more : (x : ℕ) (cs ds : List ℕ) → counts_of x cs ≤ counts_of x (cs ++ ds)
counts_more x [] ds = omega arith
counts_more x (c ∷ cs) ds = omega (arith, counts_more x cs ds)

-- a node stays below the root where the links on the way do
below_kept : {I : Type 0} (old new : List (Node I)) (root : ℕ) → ((y x : ℕ) → IsBelow old root y → IsLinked old y x → IsLinked new y x) →
    (x : ℕ) → IsBelow old root x → IsBelow new root x
below_kept old new root keeps _ (from_outside x owned) = from_outside x owned
below_kept old new root keeps _ (by_link y x below linked) = by_link y x (below_kept old new root keeps y below) (keeps y x below linked)

-- what is below a node that is reached is reached
reached_through : {I : Type 0} (nodes : List (Node I)) (owned : ℕ → ℕ) (root : ℕ) → IsReached nodes owned root →
    (x : ℕ) → IsBelow nodes root x → IsReached nodes owned x
reached_through nodes owned root reached _ (from_outside x lone) = elim (cases_eq x root) [
  | inl e ↦ subst (IsReached nodes owned) (sym e) reached
  | inr ne ↦ let none : only root x ≡ 0 = rw (ne_eqb x root ne) refl in absurd (omega (arith, none, lone))
]
reached_through nodes owned root reached _ (by_link y x below linked) =
    by_link y x (reached_through nodes owned root reached y below) linked

-- a root may get points at its end, and the cursor's node items
stands_on : (old new : List (Node TraceItem)) (c : Cursor) (points_more : List (Point TraceItem)) (items_more : List TraceItem) →
    points new c.root.0 ≡ points old c.root.0 ++ points_more →
    (node_at new c.node.0).items ≡ (node_at old c.node.0).items ++ items_more →
    IsBelow new c.root.0 c.node.0 → IsLive new c.node.0 → StandsAt old c → StandsAt new c
stands_on old new c points_more items_more points_are items_are below live stands = record {
  calls = stands.calls;
  outer = stands.outer;
  level = stands.level;
  below = below;
  live = live;
  inside = stands.inside;
  ends = omega (arith, stands.ends, ap (λ is. length is) items_are, length-append (node_at old c.node.0).items items_more);
  room = omega (arith, stands.room, ap (λ ps. length ps) points_are, length-append (points old c.root.0) points_more);
  run = λ k less.
      ap (λ ps. slice_get ps (c.index + k)) points_are
      ∙ get_left (points old c.root.0) points_more (c.index + k) (omega (arith, stands.room, less))
      ∙ stands.run k less
      ∙ ap (option_map (called stands.calls))
      (sym (ap (λ is. slice_get is (c.at + k)) items_are
      ∙ get_left (node_at old c.node.0).items items_more (c.at + k) (omega (arith, stands.ends, less))));
}

none_more : {X : Type 0} (new old : List X) → new ≡ old → new ≡ old ++ []
none_more new old e = e ∙ sym (append-nil old)

stands_kept : (old new : List (Node TraceItem)) (c : Cursor) → Keeps old new c.root.0 → Keeps old new c.node.0 →
    IsBelow new c.root.0 c.node.0 → IsLive new c.node.0 → StandsAt old c → StandsAt new c
stands_kept old new c root node below live stands =
    stands_on old new c [] [] (none_more _ _ root.points) (none_more _ _ node.items) below live stands

same_links : {I : Type 0} (old new : List (Node I)) (y x : ℕ) → (node_at new y).links ≡ (node_at old y).links →
    IsLinked old y x → IsLinked new y x
same_links old new y x e linked = subst (λ ls. 0 < leads x ls) (sym e) linked

module _ (old new : List (Node TraceItem)) (x : ℕ) (c : Cursor) where
  pub good_begun : IsWhole old → Begins old new x → IsGood old c → IsGood new c
  good_begun whole begins good =
      let stands = good.1 in
      let other : (y : ℕ) → IsLive old y → y ≢ x = λ y live e.
      absurd (omega (arith, live, ap (λ n. (node_at old n).owners) e, begins.was_free)) in
      let root = begins.others c.root.0 (other c.root.0 good.0) in
      let node = begins.others c.node.0 (other c.node.0 stands.live) in
      let linked : (y z : ℕ) → IsBelow old c.root.0 y → IsLinked old y z → IsLinked new y z = λ y z below link. elim (cases_eq y x) [
        | inl e ↦ absurd (omega (arith, link, ap (λ n. leads z n.links) (ap (node_at old) e ∙ whole.free x begins.was_free)))
        | inr ne ↦ same_links old new y z (begins.others y ne).keeps.links link
      ] in (
        omega (arith, good.0, root.owners),
        stands_kept old new c root.keeps node.keeps (below_kept old new c.root.0 linked c.node.0 stands.below)
            (omega (arith, stands.live, node.owners)) stands,
      )

  module _ (item : TraceItem) (appends : Appends old new x item) where
    live_appended : (y : ℕ) → IsLive old y → IsLive new y
    live_appended y live = elim (cases_eq y x) [
      | inl e ↦ omega (arith, appends.unshared.maker, ap (λ n. (node_at new n).owners) e)
      | inr ne ↦ omega (arith, live, (appends.others y ne).owners)
    ]

    links_appended : (y : ℕ) → (node_at new y).links ≡ (node_at old y).links
    links_appended y = elim (cases_eq y x) [
      | inl e ↦ subst (λ n. (node_at new n).links ≡ (node_at old n).links) (sym e) appends.links
      | inr ne ↦ (appends.others y ne).keeps.links
    ]

    points_appended : (y : ℕ) → (more : List (Point TraceItem)) × (points new y ≡ points old y ++ more)
    points_appended y = elim (cases_eq y x) [
      | inl e ↦ (own item ∷ [], subst (λ n. points new n ≡ points old n ++ own item ∷ []) (sym e) appends.points)
      | inr ne ↦ ([], none_more _ _ (appends.others y ne).keeps.points)
    ]

    items_appended : (y : ℕ) → (more : List TraceItem) × ((node_at new y).items ≡ (node_at old y).items ++ more)
    items_appended y = elim (cases_eq y x) [
      | inl e ↦ (item ∷ [], subst (λ n. (node_at new n).items ≡ (node_at old n).items ++ item ∷ []) (sym e) appends.items)
      | inr ne ↦ ([], none_more _ _ (appends.others y ne).keeps.items)
    ]

    pub good_appended : IsGood old c → IsGood new c
    good_appended good =
        let stands = good.1 in
        let root = points_appended c.root.0 in
        let node = items_appended c.node.0 in (
          live_appended c.root.0 good.0,
          stands_on old new c root.0 node.0 root.1 node.1
              (below_kept old new c.root.0 (λ y z below link. same_links old new y z (links_appended y) link) c.node.0 stands.below)
              (live_appended c.node.0 stands.live) stands,
        )

  pub good_retained : Recounts old new x ((node_at old x).owners + 1) → IsGood old c → IsGood new c
  good_retained recounts good =
      let stands = good.1 in
      let live : (y : ℕ) → IsLive old y → IsLive new y = λ y was. elim (cases_eq y x) [
        | inl e ↦ omega (arith, recounts.owners, ap (λ n. (node_at new n).owners) e)
        | inr ne ↦ omega (arith, was, recounts.others y ne)
      ] in (
        live c.root.0 good.0,
        stands_kept old new c (recounts.keeps c.root.0) (recounts.keeps c.node.0)
            (below_kept old new c.root.0 (λ y z below link. same_links old new y z (recounts.keeps y).links link) c.node.0 stands.below)
            (live c.node.0 stands.live) stands,
      )

  pub stands_released : Releases old new x → IsLive new c.root.0 → StandsAt old c → StandsAt new c
  stands_released releases live stands =
      let reached : (y : ℕ) → IsBelow old c.root.0 y → IsLive new y = λ y below.
      releases.reached y (reached_through old (less_one (outside old) x) c.root.0 (releases.live c.root.0 live) y below) in
      stands_kept old new c (releases.keeps c.root.0 live) (releases.keeps c.node.0 (reached c.node.0 stands.below))
      (below_kept old new c.root.0 (λ y z below link. same_links old new y z (releases.keeps y (reached y below)).links link)
      c.node.0 stands.below)
      (reached c.node.0 stands.below) stands

module _ (old new : List (Node TraceItem)) (parent child : ℕ) (c : Cursor) (links : Links old new parent child) where
  live_linked : (y : ℕ) → IsLive old y → IsLive new y
  live_linked y live = elim (cases_eq y parent) [
    | inl e ↦ omega (arith, links.unshared.maker, ap (λ n. (node_at new n).owners) e)
    | inr ne ↦ elim (cases_eq y child) [
      | inl e ↦ omega (arith, links.owners, ap (λ n. (node_at new n).owners) e)
      | inr differ ↦ omega (arith, live, (links.others y ne differ).owners)
    ]
  ]

  linked_linked : (y z : ℕ) → IsLinked old y z → IsLinked new y z
  linked_linked y z link = elim (cases_eq y parent) [
    | inl e ↦
        let more : leads z (node_at old parent).links ≤ leads z (node_at new parent).links =
        omega (
          arith,
          leads_count z (node_at old parent).links,
          leads_count z (node_at new parent).links ∙ ap (counts_of z) links.linked,
          counts_more z (children old parent) (child ∷ []),
        ) in
        subst (λ n. 0 < leads z (node_at new n).links) (sym e)
        (omega (arith, more, subst (λ n. 0 < leads z (node_at old n).links) e link))
    | inr ne ↦ elim (cases_eq y child) [
      | inl e ↦ same_links old new y z (subst (λ n. (node_at new n).links ≡ (node_at old n).links) (sym e) links.stands.links) link
      | inr differ ↦ same_links old new y z (links.others y ne differ).keeps.links link
    ]
  ]

  points_linked : (y : ℕ) → (more : List (Point TraceItem)) × (points new y ≡ points old y ++ more)
  points_linked y = elim (cases_eq y parent) [
    | inl e ↦
        let more = map (within (last_item old parent)) (points old child) in
        (more, subst (λ n. points new n ≡ points old n ++ more) (sym e) links.points)
    | inr ne ↦ elim (cases_eq y child) [
      | inl e ↦ ([], none_more _ _ (subst (λ n. points new n ≡ points old n) (sym e) links.stands.points))
      | inr differ ↦ ([], none_more _ _ (links.others y ne differ).keeps.points)
    ]
  ]

  items_linked : (y : ℕ) → (node_at new y).items ≡ (node_at old y).items
  items_linked y = elim (cases_eq y parent) [
    | inl e ↦ subst (λ n. (node_at new n).items ≡ (node_at old n).items) (sym e) links.items
    | inr ne ↦ elim (cases_eq y child) [
      | inl e ↦ subst (λ n. (node_at new n).items ≡ (node_at old n).items) (sym e) links.stands.items
      | inr differ ↦ (links.others y ne differ).keeps.items
    ]
  ]

  pub good_linked : IsGood old c → IsGood new c
  good_linked good =
      let stands = good.1 in
      let root = points_linked c.root.0 in (
        live_linked c.root.0 good.0,
        stands_on old new c root.0 [] root.1 (none_more _ _ (items_linked c.node.0))
            (below_kept old new c.root.0 (λ y z below link. linked_linked y z link) c.node.0 stands.below)
            (live_linked c.node.0 stands.live) stands,
      )
