-- A step of the loop over the slots, and what the whole loop leaves.
use Rattle.std.proofs.Common.{◌≡◌, ◌≢◌, ℕ, ◌+◌, ◌-◌, ◌<◌, ◌≤◌, Option, Some, None, List, [], ◌∷◌, ◌++◌, length, get_or, set, refl, sym, ap, subst, ◌∙◌, inl, inr, arith}
use Rattle.std.proofs.lemmas.Bool.{cases_eq, cases_lt, eq-eqb, ne_eqb}
use Rattle.std.proofs.lemmas.List.{length-map, length-set, get_or-set_same, length_push, set-set}
use Rattle.std.proofs.lemmas.Option.{none-some}
use Rattle.trace_arena.specs.declared.node.Link.{Link}
use Rattle.trace_arena.specs.declared.slot.Slot.{Slot}
use Rattle.trace_arena.specs.Nodes.{Node, free_node, with_links, with_owners, node_at, leads, parents, outside, IsLive, IsLinked, IsReached, IsReached.from_outside, IsReached.by_link}
use Rattle.trace_arena.specs.Slots.{node_of, nodes_of}
use Rattle.trace_arena.specs.Waiting.{nexts_of, next_at, IsIn, IsPath, Frees, work}
use Rattle.trace_arena.specs.Whole.{IsPlaced, IsWhole}
use Rattle.trace_arena.specs.Changes.{Keeps, less_one, Releases}
use Rattle.trace_arena.proofs.LinkLemmas.{leads_le}
use Rattle.trace_arena.proofs.PointLemmas.{points_keep, placed_agree}
use Rattle.trace_arena.proofs.WriteLemmas.{Writes, writes_set}
use Rattle.trace_arena.proofs.LiveLemmas.{reached_from_live}
use Rattle.trace_arena.proofs.SlotLemmas.{owned_inside, tall_inside, node_of_read, next_read, nodes_of_set, nexts_of_set, nexts_stay, writes_slot}
use Rattle.trace_arena.proofs.StepLemmas.{Step}
use Rattle.trace_arena.proofs.FreeLemmas.{path_front, work_set, write_field, child_owned, frees_left, frees_gone, frees_finished}

-- Some node waits first.
module _ {I : Type 0} (slots : List (Slot I)) (waiting : Option ℕ) (x : ℕ) (first : waiting ≡ Some x)
    (frees : Frees (nodes_of slots) (nodes_of slots) (nexts_of slots) waiting) where
  front_frees : Frees (nodes_of slots) (nodes_of slots) (nexts_of slots) (Some x)
  front_frees = subst (λ (o : Option ℕ). Frees (nodes_of slots) (nodes_of slots) (nexts_of slots) o) first frees

  front_queue : IsIn x front_frees.queue
  front_queue =
      let front = path_front (next_at (nexts_of slots)) x front_frees.queue front_frees.path in
      subst (λ (q : List ℕ). IsIn x q) (sym front.1) (inl refl)

  pub front_inside : x < length slots
  front_inside = tall_inside slots x (front_frees.idle x front_queue).1

  pub front_owners : (slot : Slot I) → slot ≡ get_or slots x slot → slot.owners ≡ 0
  front_owners slot read =
      ap (λ n. n.owners) (node_of_read slots x slot front_inside read) ∙ (front_frees.idle x front_queue).0

  -- its last link was taken away
  module _ (was is : Slot I) (link : Link) (read : was ≡ get_or slots x was) (links : (node_of was).links ≡ (node_of is).links ++ link ∷ [])
      (written : node_of is ≡ with_links (node_of was) (node_of is).links) (next : is.next ≡ was.next) where
    abbrev pub popped : List (Slot I)
    popped = set slots x is

    popped_links : (node_at (nodes_of slots) x).links ≡ (node_of is).links ++ link ∷ []
    popped_links = sym (ap (λ n. n.links) (node_of_read slots x was front_inside read)) ∙ links

    popped_writes : Writes (nodes_of slots) (nodes_of popped) x (with_links (node_at (nodes_of slots) x) (node_of is).links)
    popped_writes =
        writes_slot slots x is _ front_inside
        (written ∙ ap (λ n. with_links n (node_of is).links) (node_of_read slots x was front_inside read))

    popped_nexts : nexts_of popped ≡ nexts_of slots
    popped_nexts = nexts_stay slots x was is front_inside read next

    pub popped_owned : 0 < (node_at (nodes_of (set slots x is)) link.child.0).owners
    popped_owned =
        child_owned (nodes_of slots) (nodes_of popped) (nexts_of slots) x (node_of is).links link front_frees popped_links popped_writes

    popped_height : (y : ℕ) → (node_at (nodes_of popped) y).height ≡ (node_at (nodes_of slots) y).height
    popped_height y = write_field (nodes_of slots) (nodes_of popped) x _ (λ m. m.height) popped_writes refl y

    popped_child_tall : 0 < (node_at (nodes_of popped) link.child.0).height
    popped_child_tall =
        let owned = write_field (nodes_of slots) (nodes_of popped) x _ (λ m. m.owners) popped_writes refl link.child.0 in
        omega (arith, popped_height link.child.0, front_frees.tall link.child.0 (omega (arith, owned, popped_owned)))

    pub popped_inside : link.child.0 < length (set slots x is)
    popped_inside = tall_inside popped link.child.0 popped_child_tall

    -- and the child lost an owner
    module _ (after : List (Slot I)) (now : Option ℕ)
        (nodes : nodes_of after ≡ set (nodes_of popped) link.child.0 (with_owners (node_at (nodes_of popped) link.child.0) ((node_at (nodes_of popped) link.child.0).owners - 1)))
        (waits : (node_at (nodes_of popped) link.child.0).owners ≡ 1 → (now ≡ Some link.child.0) × (nexts_of after ≡ set (nexts_of popped) link.child.0 waiting))
        (stays : 1 < (node_at (nodes_of popped) link.child.0).owners → (now ≡ waiting) × (nexts_of after ≡ nexts_of popped)) where
      abbrev pub child_node : Node I
      child_node = with_owners (node_at (nodes_of popped) link.child.0) ((node_at (nodes_of popped) link.child.0).owners - 1)

      child_inside : link.child.0 < length (nodes_of popped)
      child_inside = omega (arith, popped_inside, length-map popped node_of)

      child_writes : Writes (nodes_of popped) (nodes_of after) link.child.0 child_node
      child_writes =
          subst (λ (ns : List (Node I)). Writes (nodes_of popped) ns link.child.0 child_node) (sym nodes)
          (writes_set (nodes_of popped) link.child.0 child_node child_inside)

      pub popped_frees : Frees (nodes_of slots) (nodes_of after) (nexts_of after) now
      popped_frees = elim (cases_lt 1 (node_at (nodes_of popped) link.child.0).owners) [
        | inl more ↦
            let state = stays more in
            rw (state.0 ∙ first, state.1 ∙ popped_nexts)
            (frees_left (nodes_of slots) (nodes_of popped) (nexts_of slots) x (node_of is).links link front_frees popped_links popped_writes (nodes_of after) child_writes more)
        | inr last ↦
            let one : (node_at (nodes_of popped) link.child.0).owners ≡ 1 = omega (arith, last, popped_owned) in
            let state = waits one in
            let room : link.child.0 < length (nexts_of slots) =
            omega (arith, popped_inside, length-set slots x is, length-map slots (λ (s : Slot I). s.next)) in
            rw (state.0, state.1, popped_nexts, first)
            (frees_gone (nodes_of slots) (nodes_of popped) (nexts_of slots) x (node_of is).links link front_frees popped_links popped_writes (nodes_of after) child_writes one room)
      ]

      pub popped_less : work (nodes_of after) < work (nodes_of slots)
      popped_less =
          let one = work_set (nodes_of slots) x (node_of is) (omega (arith, front_inside, length-map slots node_of)) in
          let two = work_set (nodes_of popped) link.child.0 child_node child_inside in
          let lengths = ap length popped_links ∙ length_push (node_of is).links link in
          let heights = ap (λ n. n.height) written ∙ ap (λ n. n.height) (node_of_read slots x was front_inside read) in
          omega (arith, one, two, lengths, heights, ap work nodes, ap work (nodes_of_set slots x is))

  -- it has no link, and was freed
  module _ (seen left was is : Slot I) (free behind : Option ℕ) (read : seen ≡ get_or slots x seen) (none : (node_of seen).links ≡ [])
      (same : node_of left ≡ with_links (node_of seen) (node_of left).links) (next : left.next ≡ seen.next)
      (again : was ≡ get_or (set slots x left) x was) where
    done_is : was ≡ left
    done_is = again ∙ get_or-set_same slots x left was front_inside

    pub done_owners : was.owners ≡ 0
    done_owners = ap (λ (s : Slot I). s.owners) done_is ∙ ap (λ n. n.owners) same ∙ front_owners seen read

    done_links : (node_at (nodes_of slots) x).links ≡ []
    done_links = sym (ap (λ n. n.links) (node_of_read slots x seen front_inside read)) ∙ none

    module _ (written : node_of is ≡ free_node) (queued : is.next ≡ free) (left_is : behind ≡ was.next) where
      done_once : set (set slots x left) x is ≡ set slots x is
      done_once = set-set slots x left is

      done_behind : behind ≡ next_at (nexts_of slots) x
      done_behind =
          left_is ∙ ap (λ (s : Slot I). s.next) done_is ∙ next ∙ next_read slots x seen front_inside read

      pub done_frees : Frees (nodes_of slots) (nodes_of (set (set slots x left) x is)) (nexts_of (set (set slots x left) x is)) behind
      done_frees =
          rw (done_once, nexts_of_set slots x is free queued, done_behind)
          (frees_finished (nodes_of slots) (nodes_of (set slots x is)) (nexts_of slots) x free front_frees done_links
          (writes_slot slots x is free_node front_inside written))

      pub done_less : work (nodes_of (set (set slots x left) x is)) < work (nodes_of slots)
      done_less =
          let step = work_set (nodes_of slots) x (node_of is) (omega (arith, front_inside, length-map slots node_of)) in
          omega (
            arith,
            step,
            ap (λ ss. work (nodes_of ss)) done_once,
            ap work (nodes_of_set slots x is),
            ap (λ n. length n.links) written,
            ap (λ n. n.height) written,
            (front_frees.idle x front_queue).1,
          )

-- Before the loop: one owner of a node was given up.
module _ {I : Type 0} (old now : List (Node I)) (nexts : List (Option ℕ)) (waiting : Option ℕ) (x : ℕ) (whole : IsWhole old) (owned : 0 < outside old x)
    (writes : Writes old now x (with_owners (node_at old x) ((node_at old x).owners - 1))) where
  begun_field : {A : Type 0} (F : Node I → A) → F (with_owners (node_at old x) ((node_at old x).owners - 1)) ≡ F (node_at old x) →
      (y : ℕ) → F (node_at now y) ≡ F (node_at old y)
  begun_field F same y = write_field old now x _ F writes same y

  begun_parents : (y : ℕ) → parents now y ≡ parents old y
  begun_parents y = omega (arith, writes.counts y)

  begun_owner : (node_at now x).owners + 1 ≡ (node_at old x).owners
  begun_owner = omega (arith, ap (λ m. m.owners) writes.here, owned)

  begun_owners : (y : ℕ) → y ≢ x → (node_at now y).owners ≡ (node_at old y).owners
  begun_owners y differ = ap (λ m. m.owners) (writes.stays y differ)

  begun_outer : (y : ℕ) → outside now y ≡ less_one (outside old) x y
  begun_outer y = elim (cases_eq y x) [
    | inl same ↦
        rw (eq-eqb y x same)
        (omega (arith, begun_parents y, ap (λ z. (node_at now z).owners) same, ap (λ z. (node_at old z).owners) same, begun_owner))
    | inr differ ↦ rw (ne_eqb y x differ) (omega (arith, begun_parents y, begun_owners y differ))
  ]

  pub begun_frees : (queue : List ℕ) → IsPath (next_at nexts) waiting queue →
      ((y : ℕ) → IsIn y queue → (y ≡ x) × ((node_at now x).owners ≡ 0)) →
      ((y : ℕ) → (IsIn y queue → ⊥) → y ≡ x → 0 < (node_at now x).owners) → Frees now now nexts waiting
  begun_frees queue path members others = record {
    queue = queue;
    path = path;
    idle = λ y within.
        let is = members y within in (
          ap (λ z. (node_at now z).owners) is.0 ∙ is.1,
          omega (arith, ap (λ z. (node_at now z).height) is.0, begun_field (λ m. m.height) refl x, whole.tall x (omega (arith, owned))),
        );
    counted = λ y. elim (cases_eq y x) [
      | inl same ↦
          subst (λ (z : ℕ). parents now z ≤ (node_at now z).owners) (sym same)
          (omega (arith, begun_parents x, begun_owner, owned, whole.counted x))
      | inr differ ↦ omega (arith, begun_parents y, begun_owners y differ, whole.counted y)
    ];
    outer = λ y. refl;
    fewer = λ y. omega arith;
    free = λ y none out. elim (cases_eq y x) [
      | inl same ↦ absurd (omega (arith, none, ap (λ z. (node_at now z).owners) same, others y out same))
      | inr differ ↦ writes.stays y differ ∙ whole.free y (sym (begun_owners y differ) ∙ none)
    ];
    tall = λ y live. elim (cases_eq y x) [
      | inl same ↦
          omega (arith, ap (λ z. (node_at now z).height) same, begun_field (λ m. m.height) refl x, whole.tall x (omega (arith, owned)))
      | inr differ ↦ omega (arith, begun_field (λ m. m.height) refl y, whole.tall y (omega (arith, live, begun_owners y differ)))
    ];
    kept = λ y live. record { live = live; items = refl; links = refl; height = refl; total = refl };
  }

  -- After the loop: no node waits.
  module _ (new : List (Node I)) (after : List (Option ℕ)) (frees : Frees now new after None) where
    end_queue : (y : ℕ) → IsIn y frees.queue → ⊥
    end_queue y within = none_waits frees.queue frees.path y within
      where
        none_waits : (queue : List ℕ) → IsPath (next_at after) None queue → (y : ℕ) → IsIn y queue → ⊥
        none_waits [] path y within = within
        none_waits (z ∷ zs) path y within = none-some z path.0

    end_free : (y : ℕ) → (node_at new y).owners ≡ 0 → node_at new y ≡ free_node
    end_free y none = frees.free y none (end_queue y)

    end_linking : (y c : ℕ) → IsLinked new y c → IsLive new y
    end_linking y c linked = elim (cases_lt 0 (node_at new y).owners) [
      | inl live ↦ live
      | inr none ↦ absurd (omega (arith, linked, ap (λ n. leads c n.links) (end_free y (omega (arith, none)))))
    ]

    end_linked : (y c : ℕ) → IsLinked new y c → IsLive new c
    end_linked y c linked = omega (arith, leads_le new c y, frees.counted c)

    end_items : (y : ℕ) → IsLive new y → (node_at new y).items ≡ (node_at old y).items
    end_items y live = (frees.kept y live).items ∙ begun_field (λ m. m.items) refl y

    end_links : (y : ℕ) → IsLive new y → (node_at new y).links ≡ (node_at old y).links
    end_links y live = (frees.kept y live).links ∙ begun_field (λ m. m.links) refl y

    end_height : (y : ℕ) → IsLive new y → (node_at new y).height ≡ (node_at old y).height
    end_height y live = (frees.kept y live).height ∙ begun_field (λ m. m.height) refl y

    end_total : (y : ℕ) → IsLive new y → (node_at new y).total ≡ (node_at old y).total
    end_total y live = (frees.kept y live).total ∙ begun_field (λ m. m.total) refl y

    end_link_was : (y c : ℕ) → IsLinked new y c → IsLinked old y c
    end_link_was y c linked =
        subst (λ (ls : List Link). 0 < leads c ls) (end_links y (end_linking y c linked)) linked

    pub released_whole : IsWhole new
    released_whole = record {
      counted = frees.counted;
      below = λ y c linked.
          omega (arith, end_height y (end_linking y c linked), end_height c (end_linked y c linked), whole.below y c (end_link_was y c linked));
      tall = frees.tall;
      free = end_free;
      placed = λ y. elim (cases_lt 0 (node_at new y).owners) [
        | inl live ↦
            rw (end_items y live, end_total y live, end_links y live)
            (placed_agree (λ c. (node_at old c).total) (λ c. (node_at new c).total) 0 0 (length (node_at old y).items) (node_at old y).total (node_at old y).links
            (λ c lt. end_total c (end_linked y c (subst (λ (ls : List Link). 0 < leads c ls) (sym (end_links y live)) lt)))
            (whole.placed y))
        | inr none ↦
            subst
            (λ (m : Node I). IsPlaced (λ c. (node_at new c).total) 0 0 (length m.items) m.total m.links)
            (sym (end_free y (omega (arith, none))))
            (omega arith, omega arith)
      ];
    }

    end_keeps : (y : ℕ) → IsLive new y → Keeps old new y
    end_keeps y live = record {
      items = end_items y live;
      links = end_links y live;
      points =
          points_keep old new (IsLive new) (λ z c _ linked. end_linked z c linked) end_items end_links y live (end_height y live);
    }

    end_outer : (y : ℕ) → outside new y ≡ less_one (outside old) x y
    end_outer y = frees.outer y ∙ begun_outer y

    end_live : (y : ℕ) → IsReached new (outside new) y → IsReached old (less_one (outside old) x) y
    end_live _ (from_outside y owned') = from_outside y (subst (λ (n : ℕ). 0 < n) (end_outer y) owned')
    end_live _ (by_link z y reached linked) = by_link z y (end_live z reached) (end_link_was z y linked)

    end_reached : (y : ℕ) → IsReached old (less_one (outside old) x) y → IsLive new y
    end_reached _ (from_outside y owned') = omega (arith, owned', end_outer y)
    end_reached _ (by_link z y reached linked) =
        let live = end_reached z reached in
        end_linked z y (subst (λ (ls : List Link). 0 < leads y ls) (sym (end_links z live)) linked)

    pub released : Releases old new x
    released = record {
      outer = end_outer;
      live = λ y live. end_live y (reached_from_live new released_whole y live);
      reached = end_reached;
      keeps = end_keeps;
      unshared = λ y differ alone.
          let none : parents new y ≡ 0 = omega (arith, frees.fewer y, begun_parents y, alone.no_parent) in
          record {
            maker = omega (arith, frees.outer y, none, frees.counted y, begun_parents y, begun_owners y differ, alone.maker, alone.no_parent);
            no_parent = none;
          };
    }

-- the call of `release`, over the slots once one owner was given up
module _ {I : Type 0} (slots : List (Slot I)) (nodes : List (Node I)) (view : nodes_of slots ≡ nodes) (whole : IsWhole (nodes_of slots))
    (x : ℕ) (owned : 0 < outside nodes x) (after : List (Slot I)) (waiting : Option ℕ)
    (left : nodes_of after ≡ set (nodes_of slots) x (with_owners (node_at (nodes_of slots) x) ((node_at (nodes_of slots) x).owners - 1)))
    (waits : (node_at (nodes_of slots) x).owners ≡ 1 → (waiting ≡ Some x) × (nexts_of after ≡ set (nexts_of slots) x None))
    (stays : 1 < (node_at (nodes_of slots) x).owners → (waiting ≡ None) × (nexts_of after ≡ nexts_of slots)) where
  left_owned : 0 < outside (nodes_of slots) x
  left_owned = subst (λ (ns : List (Node I)). 0 < outside ns x) (sym view) owned

  left_inside : x < length slots
  left_inside = owned_inside slots x (omega (arith, left_owned))

  left_writes : Writes (nodes_of slots) (nodes_of after) x (with_owners (node_at (nodes_of slots) x) ((node_at (nodes_of slots) x).owners - 1))
  left_writes =
      subst
      (λ (ns : List (Node I)). Writes (nodes_of slots) ns x (with_owners (node_at (nodes_of slots) x) ((node_at (nodes_of slots) x).owners - 1)))
      (sym left)
      (writes_set (nodes_of slots) x _ (omega (arith, left_inside, length-map slots node_of)))

  left_count : (node_at (nodes_of after) x).owners ≡ (node_at (nodes_of slots) x).owners - 1
  left_count = ap (λ m. m.owners) left_writes.here

  pub left_frees : Frees (nodes_of after) (nodes_of after) (nexts_of after) waiting
  left_frees = elim (cases_lt 1 (node_at (nodes_of slots) x).owners) [
    | inl more ↦
        begun_frees (nodes_of slots) (nodes_of after) (nexts_of after) waiting x whole left_owned left_writes [] (stays more).0
        (λ y within. absurd within) (λ y out same. omega (arith, more, left_count))
    | inr last ↦
        let one : (node_at (nodes_of slots) x).owners ≡ 1 = omega (arith, last, left_owned) in
        let state = waits one in
        let behind : next_at (nexts_of after) x ≡ None =
        ap (λ ns. next_at ns x) state.1
        ∙ get_or-set_same (nexts_of slots) x None None (omega (arith, left_inside, length-map slots (λ (s : Slot I). s.next))) in
        begun_frees (nodes_of slots) (nodes_of after) (nexts_of after) waiting x whole left_owned left_writes (x ∷ [])
        (state.0, λ within. within, behind)
        (λ y within. elim within [ inl same ↦ (same, omega (arith, one, left_count)) | inr none ↦ absurd none ])
        (λ y out same. absurd (out (inl same)))
  ]

  pub release_slots : (new : List (Slot I)) → Frees (nodes_of after) (nodes_of new) (nexts_of new) None → Step I (nodes_of new) (Releases nodes (nodes_of new) x)
  release_slots new frees = record {
    whole = released_whole (nodes_of slots) (nodes_of after) (nexts_of after) waiting x whole left_owned left_writes (nodes_of new) (nexts_of new) frees;
    change =
        subst (λ (ns : List (Node I)). Releases ns (nodes_of new) x) view
        (released (nodes_of slots) (nodes_of after) (nexts_of after) waiting x whole left_owned left_writes (nodes_of new) (nexts_of new) frees);
  }
