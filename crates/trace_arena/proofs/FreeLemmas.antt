-- A step of the loop that frees nodes: the first node that waits loses its last link, or its memory.
use Rattle.std.proofs.Common.{◌≡◌, ◌≢◌, ◌⊎◌, ℕ, zero, suc, ◌+◌, ◌-◌, ◌<◌, ◌≤◌, Option, Some, None, List, [], ◌∷◌, ◌++◌, length, set, refl, sym, ap, subst, ◌∙◌, inl, inr, arith}
use Rattle.std.proofs.lemmas.Bool.{cases_eq}
use Rattle.std.proofs.lemmas.List.{get_or-set_same, get_or-set_other}
use Rattle.std.proofs.lemmas.Option.{same_Some, none-some}
use Rattle.trace_arena.specs.declared.node.Link.{Link}
use Rattle.trace_arena.specs.Nodes.{Node, free_node, with_links, with_owners, node_at, leads, parents, outside, IsLive}
use Rattle.trace_arena.specs.Waiting.{next_at, IsIn, IsPath, Frees, work}
use Rattle.trace_arena.proofs.LinkLemmas.{leads_le, leads_push, leads_same, leads_other}
use Rattle.trace_arena.proofs.WriteLemmas.{Writes}

-- a path over what stands behind its own numbers
pub path_frame : (next more : ℕ → Option ℕ) (first : Option ℕ) (xs : List ℕ) → ((y : ℕ) → IsIn y xs → more y ≡ next y) →
    IsPath next first xs → IsPath more first xs
path_frame next more first [] same path = path
path_frame next more first (x ∷ xs) same path = (
  path.0,
  path.1,
  subst (λ (o : Option ℕ). IsPath more o xs) (sym (same x (inl refl)))
      (path_frame next more (next x) xs (λ y within. same y (inr within)) path.2),
)

-- a path that begins with a number
pub path_front : (next : ℕ → Option ℕ) (x : ℕ) (queue : List ℕ) → IsPath next (Some x) queue →
    (rest : List ℕ) × (queue ≡ x ∷ rest) × IsPath next (Some x) (x ∷ rest)
path_front next x [] path = absurd (none-some x (sym path))
path_front next x (y ∷ ys) path =
    let same : y ≡ x = sym (same_Some x y path.0) in
    (ys, ap (λ z. z ∷ ys) same, subst (λ (z : ℕ). IsPath next (Some x) (z ∷ ys)) same path)

pub work_set : {I : Type 0} (nodes : List (Node I)) (x : ℕ) (n : Node I) → x < length nodes →
    work (set nodes x n) + (length (node_at nodes x).links + (node_at nodes x).height) ≡ work nodes + (length n.links + n.height)
work_set [] x n lt = absurd (omega arith)
work_set (m ∷ ms) zero n lt = omega arith
work_set (m ∷ ms) (suc x) n lt = omega (arith, work_set ms x n (omega arith))

-- what a write leaves as it was, every node keeps
pub write_field : {I A : Type 0} (old new : List (Node I)) (x : ℕ) (n : Node I) (F : Node I → A) → Writes old new x n →
    F n ≡ F (node_at old x) → (y : ℕ) → F (node_at new y) ≡ F (node_at old y)
write_field old new x n F writes same y = elim (cases_eq y x) [
  | inl here ↦ ap F (ap (node_at new) here ∙ writes.here) ∙ same ∙ sym (ap (λ z. F (node_at old z)) here)
  | inr differ ↦ ap F (writes.stays y differ)
]

-- the first node that waits lost its last link, and the child lost an owner
module _ {I : Type 0} (now mid : List (Node I)) (nexts : List (Option ℕ)) (x : ℕ) (rest : List Link) (link : Link)
    (frees : Frees now now nexts (Some x)) (links : (node_at now x).links ≡ rest ++ link ∷ [])
    (first : Writes now mid x (with_links (node_at now x) rest)) where
  pub front_in : IsIn x frees.queue
  front_in =
      let front = path_front (next_at nexts) x frees.queue frees.path in
      subst (λ (q : List ℕ). IsIn x q) (sym front.1) (inl refl)

  pub front_idle : (node_at now x).owners ≡ 0
  front_idle = (frees.idle x front_in).0

  child_parents : 0 < parents now link.child.0
  child_parents =
      omega (arith, leads_le now link.child.0 x, ap (leads link.child.0) links, leads_push link.child.0 rest link, leads_same link.child.0 link [] refl)

  child_owned_now : 0 < (node_at now link.child.0).owners
  child_owned_now = omega (arith, child_parents, frees.counted link.child.0)

  pub child_owned : 0 < (node_at mid link.child.0).owners
  child_owned =
      omega (arith, child_owned_now, write_field now mid x (with_links (node_at now x) rest) (λ m. m.owners) first refl link.child.0)

  child_differs : (y : ℕ) → (node_at now y).owners ≡ 0 → y ≢ link.child.0
  child_differs y none same = absurd (omega (arith, none, ap (λ z. (node_at now z).owners) same, child_owned_now))

  module _ (new : List (Node I)) (second : Writes mid new link.child.0 (with_owners (node_at mid link.child.0) ((node_at mid link.child.0).owners - 1))) where
    lost_items : (y : ℕ) → (node_at new y).items ≡ (node_at now y).items
    lost_items y =
        write_field mid new link.child.0 _ (λ m. m.items) second refl y ∙ write_field now mid x _ (λ m. m.items) first refl y

    lost_height : (y : ℕ) → (node_at new y).height ≡ (node_at now y).height
    lost_height y =
        write_field mid new link.child.0 _ (λ m. m.height) second refl y ∙ write_field now mid x _ (λ m. m.height) first refl y

    lost_total : (y : ℕ) → (node_at new y).total ≡ (node_at now y).total
    lost_total y =
        write_field mid new link.child.0 _ (λ m. m.total) second refl y ∙ write_field now mid x _ (λ m. m.total) first refl y

    lost_links : (y : ℕ) → y ≢ x → (node_at new y).links ≡ (node_at now y).links
    lost_links y differ =
        write_field mid new link.child.0 _ (λ m. m.links) second refl y ∙ ap (λ m. m.links) (first.stays y differ)

    lost_owners : (y : ℕ) → y ≢ link.child.0 → (node_at new y).owners ≡ (node_at now y).owners
    lost_owners y differ =
        ap (λ m. m.owners) (second.stays y differ) ∙ write_field now mid x _ (λ m. m.owners) first refl y

    lost_owner : (node_at new link.child.0).owners + 1 ≡ (node_at now link.child.0).owners
    lost_owner =
        omega (arith, ap (λ m. m.owners) second.here, write_field now mid x _ (λ m. m.owners) first refl link.child.0, child_owned_now)

    lost_parents : (y : ℕ) → parents new y + leads y (link ∷ []) ≡ parents now y
    lost_parents y = omega (arith, first.counts y, second.counts y, ap (leads y) links, leads_push y rest link)

    lost_child : parents new link.child.0 + 1 ≡ parents now link.child.0
    lost_child = omega (arith, lost_parents link.child.0, leads_same link.child.0 link [] refl)

    lost_other : (y : ℕ) → y ≢ link.child.0 → parents new y ≡ parents now y
    lost_other y differ = omega (arith, lost_parents y, leads_other y link [] (λ same. differ (sym same)))

    lost_live : (y : ℕ) → IsLive new y → IsLive now y
    lost_live y live = elim (cases_eq y link.child.0) [
      | inl same ↦ omega (arith, ap (λ z. (node_at now z).owners) same, child_owned_now)
      | inr differ ↦ omega (arith, lost_owners y differ, live)
    ]

    pub frees_lost : (nexts' : List (Option ℕ)) (waiting : Option ℕ) (queue : List ℕ) → IsPath (next_at nexts') waiting queue →
        ((y : ℕ) → IsIn y queue → IsIn y frees.queue ⊎ ((y ≡ link.child.0) × ((node_at new link.child.0).owners ≡ 0))) →
        ((y : ℕ) → (IsIn y queue → ⊥) → (IsIn y frees.queue → ⊥) × (y ≡ link.child.0 → 0 < (node_at new link.child.0).owners)) →
        Frees now new nexts' waiting
    frees_lost nexts' waiting queue path members others = record {
      queue = queue;
      path = path;
      idle = λ y within. elim (members y within) [
        | inl was ↦
            let idle = frees.idle y was in
            (lost_owners y (child_differs y idle.0) ∙ idle.0, omega (arith, lost_height y, idle.1))
        | inr is ↦ (
          ap (λ z. (node_at new z).owners) is.0 ∙ is.1,
          omega (arith, lost_height y, ap (λ z. (node_at now z).height) is.0, frees.tall link.child.0 child_owned_now),
        )
      ];
      counted = λ y. elim (cases_eq y link.child.0) [
        | inl same ↦
            subst (λ (z : ℕ). parents new z ≤ (node_at new z).owners) (sym same)
            (omega (arith, lost_child, lost_owner, frees.counted link.child.0))
        | inr differ ↦ omega (arith, lost_other y differ, lost_owners y differ, frees.counted y)
      ];
      outer = λ y. elim (cases_eq y link.child.0) [
        | inl same ↦
            subst (λ (z : ℕ). outside new z ≡ outside now z) (sym same)
            (omega (arith, lost_child, lost_owner))
        | inr differ ↦ omega (arith, lost_other y differ, lost_owners y differ)
      ];
      fewer = λ y. omega (arith, lost_parents y);
      free = λ y none out.
          let away = others y out in
          let differ : y ≢ link.child.0 = λ same. absurd (omega (arith, none, ap (λ z. (node_at new z).owners) same, away.1 same)) in
          let apart : y ≢ x = λ same. away.0 (subst (λ (z : ℕ). IsIn z frees.queue) (sym same) front_in) in
          second.stays y differ ∙ first.stays y apart ∙ frees.free y (sym (lost_owners y differ) ∙ none) away.0;
      tall = λ y live. omega (arith, lost_height y, frees.tall y (lost_live y live));
      kept = λ y live.
          let apart : y ≢ x = λ same.
          absurd (omega (arith, live, ap (λ z. (node_at new z).owners) same, lost_owners x (child_differs x front_idle), front_idle)) in
          record {
            live = lost_live y live;
            items = lost_items y;
            links = lost_links y apart;
            height = lost_height y;
            total = lost_total y;
          };
    }

    -- the child has owners left
    pub frees_left : 1 < (node_at mid link.child.0).owners → Frees now new nexts (Some x)
    frees_left more =
        let left : 0 < (node_at new link.child.0).owners = omega (arith, more, ap (λ m. m.owners) second.here) in
        frees_lost nexts (Some x) frees.queue frees.path (λ y within. inl within) (λ y out. (out, λ _. left))

    -- the child waits before the others
    pub frees_gone : (node_at mid link.child.0).owners ≡ 1 → link.child.0 < length nexts → Frees now new (set nexts link.child.0 (Some x)) (Some link.child.0)
    frees_gone last inside =
        let gone : (node_at new link.child.0).owners ≡ 0 = omega (arith, last, ap (λ m. m.owners) second.here) in
        let out : (y : ℕ) → IsIn y frees.queue → y ≢ link.child.0 = λ y within. child_differs y (frees.idle y within).0 in
        let here : next_at (set nexts link.child.0 (Some x)) link.child.0 ≡ Some x = get_or-set_same nexts link.child.0 (Some x) None inside in
        frees_lost (set nexts link.child.0 (Some x)) (Some link.child.0) (link.child.0 ∷ frees.queue) (
          refl,
          λ within. out link.child.0 within refl,
          subst (λ (o : Option ℕ). IsPath (next_at (set nexts link.child.0 (Some x))) o frees.queue) (sym here)
              (path_frame (next_at nexts) (next_at (set nexts link.child.0 (Some x))) (Some x) frees.queue
              (λ y within. get_or-set_other nexts link.child.0 y (Some x) None (out y within)) frees.path),
        )
        (λ y within. elim within [ inl same ↦ inr (same, gone) | inr later ↦ inl later ])
        (λ y away. (λ within. away (inr within), λ same. absurd (away (inl same))))

-- the first node that waits has no links, and is freed
module _ {I : Type 0} (now new : List (Node I)) (nexts : List (Option ℕ)) (x : ℕ) (free : Option ℕ)
    (frees : Frees now now nexts (Some x)) (links : (node_at now x).links ≡ []) (writes : Writes now new x free_node) where
  freed_parents : (y : ℕ) → parents new y ≡ parents now y
  freed_parents y = omega (arith, writes.counts y, ap (leads y) links)

  freed_owners : (y : ℕ) → (node_at now x).owners ≡ 0 → (node_at new y).owners ≡ (node_at now y).owners
  freed_owners y idle = write_field now new x free_node (λ m. m.owners) writes (sym idle) y

  pub frees_finished : Frees now new (set nexts x free) (next_at nexts x)
  frees_finished =
      let front = path_front (next_at nexts) x frees.queue frees.path in
      let ys = front.0 in
      let into : (y : ℕ) → IsIn y ys → IsIn y frees.queue = λ y within. subst (λ (q : List ℕ). IsIn y q) (sym front.1) (inr within) in
      let first : IsIn x frees.queue = subst (λ (q : List ℕ). IsIn x q) (sym front.1) (inl refl) in
      let idle : (node_at now x).owners ≡ 0 = (frees.idle x first).0 in
      let apart : (y : ℕ) → IsIn y ys → y ≢ x = λ y within same. front.2.1 (subst (λ (z : ℕ). IsIn z ys) same within) in
      let living : (y : ℕ) → IsLive new y → y ≢ x = λ y live same.
      absurd (omega (arith, live, ap (λ z. (node_at new z).owners) same, ap (λ m. m.owners) writes.here)) in
      record {
        queue = ys;
        path =
            path_frame (next_at nexts) (next_at (set nexts x free)) (next_at nexts x) ys
            (λ y within. get_or-set_other nexts x y free None (apart y within)) front.2.2;
        idle = λ y within.
            let was = frees.idle y (into y within) in
            (freed_owners y idle ∙ was.0, omega (arith, was.1, ap (λ m. m.height) (writes.stays y (apart y within))));
        counted = λ y. omega (arith, freed_parents y, freed_owners y idle, frees.counted y);
        outer = λ y. omega (arith, freed_parents y, freed_owners y idle);
        fewer = λ y. omega (arith, freed_parents y);
        free = λ y none out. elim (cases_eq y x) [
          | inl same ↦ ap (node_at new) same ∙ writes.here
          | inr differ ↦
              writes.stays y differ
              ∙ frees.free y (sym (freed_owners y idle) ∙ none)
              (λ within. elim (subst (λ (q : List ℕ). IsIn y q) front.1 within) [ inl same ↦ differ same | inr later ↦ out later ])
        ];
        tall = λ y live.
            omega (arith, ap (λ m. m.height) (writes.stays y (living y live)), frees.tall y (omega (arith, live, freed_owners y idle)));
        kept = λ y live.
            let same = writes.stays y (living y live) in
            record {
              live = omega (arith, live, freed_owners y idle);
              items = ap (λ m. m.items) same;
              links = ap (λ m. m.links) same;
              height = ap (λ m. m.height) same;
              total = ap (λ m. m.total) same;
            };
      }

-- steps one after another
pub frees_here : {I : Type 0} (start now : List (Node I)) (nexts : List (Option ℕ)) (waiting : Option ℕ) →
    Frees start now nexts waiting → Frees now now nexts waiting
frees_here start now nexts waiting frees = record {
  queue = frees.queue;
  path = frees.path;
  idle = frees.idle;
  counted = frees.counted;
  outer = λ y. refl;
  fewer = λ y. omega arith;
  free = frees.free;
  tall = frees.tall;
  kept = λ y live. record { live = live; items = refl; links = refl; height = refl; total = refl };
}

pub frees_on : {I : Type 0} (start now new : List (Node I)) (nexts nexts' : List (Option ℕ)) (waiting waiting' : Option ℕ) →
    Frees start now nexts waiting → Frees now new nexts' waiting' → Frees start new nexts' waiting'
frees_on start now new nexts nexts' waiting waiting' before after = record {
  queue = after.queue;
  path = after.path;
  idle = after.idle;
  counted = after.counted;
  outer = λ y. after.outer y ∙ before.outer y;
  fewer = λ y. omega (arith, after.fewer y, before.fewer y);
  free = after.free;
  tall = after.tall;
  kept = λ y live.
      let second = after.kept y live in
      let first = before.kept y second.live in
      record {
        live = first.live;
        items = second.items ∙ first.items;
        links = second.links ∙ first.links;
        height = second.height ∙ first.height;
        total = second.total ∙ first.total;
      };
}
