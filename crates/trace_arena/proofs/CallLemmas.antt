-- What each call leaves, over the slots that it reads and writes and the arena that contracts see.
use Rattle.std.proofs.Common.{◌≡◌, ◌≢◌, ℕ, ◌+◌, ◌<◌, List, [], ◌∷◌, ◌++◌, length, get_or, set, sym, ap, subst, ◌∙◌, arith, Result, Ok, Err, OnErr}
use Rattle.std.proofs.lemmas.List.{map_push, length-map, get_or-set_other, length-set, get_or_past}
use Rattle.trace_arena.specs.declared.slot.Slot.{Slot}
use Rattle.trace_arena.specs.declared.node.NodeId.{NodeId}
use Rattle.trace_arena.specs.Nodes.{Node, Arena, free_node, new_node, node_at, with_item, with_link, with_owners, IsLive, IsUnshared}
use Rattle.trace_arena.specs.Slots.{node_of, nodes_of}
use Rattle.trace_arena.specs.Points.{points}
use Rattle.trace_arena.specs.Whole.{IsWhole}
use Rattle.trace_arena.proofs.PointLemmas.{points_length}
use Rattle.trace_arena.specs.Changes.{Recounts, Begins, Appends, Links}
use Rattle.trace_arena.proofs.SlotLemmas.{nodes_of_set, owned_inside, node_of_read, writes_slot, same_slot}
use Rattle.trace_arena.proofs.WriteLemmas.{Writes, writes_push}
use Rattle.trace_arena.proofs.StepLemmas.{Step, step_append, step_begin, step_recount, step_linked}

pub on_err : {T E : Type 0} (r : Result T E) {P : Type 0} → P → OnErr r P
on_err (Ok x) p = tt
on_err (Err e) p = p

-- an arena of the same nodes
pub same_arena : {I : Type 0} (now : Arena I) (nodes others : List (Node I)) (made : ℕ) → others ≡ nodes →
    record { nodes = nodes; made = made } ≡ now → record { nodes = others; made = made } ≡ now
same_arena now nodes others made same is = ap (λ ns. record { nodes = ns; made = made }) same ∙ is

module _ {I : Type 0} (slots : List (Slot I)) (nodes : List (Node I)) (view : nodes_of slots ≡ nodes) (whole : IsWhole (nodes_of slots)) where
  pub unshared_inside : (x : ℕ) → IsUnshared nodes x → x < length slots
  unshared_inside x unshared =
      owned_inside slots x (omega (arith, (subst (λ (ns : List (Node I)). IsUnshared ns x) (sym view) unshared).maker))

  -- the call of `append` that had memory, and the one that had none
  pub append_slots : (x : ℕ) (item : I) (was is : Slot I) → IsUnshared nodes x → was ≡ get_or slots x was →
      node_of is ≡ with_item (node_of was) item →
      Step I (nodes_of (set slots x is)) (Appends nodes (nodes_of (set slots x is)) x item)
  append_slots x item was is unshared read written =
      let inside = unshared_inside x unshared in
      let step =
      step_append (nodes_of slots) (nodes_of (set slots x is)) x item whole
      (subst (λ (ns : List (Node I)). IsUnshared ns x) (sym view) unshared)
      (writes_slot slots x is (with_item (node_at (nodes_of slots) x) item) inside
      (written ∙ ap (λ n. with_item n item) (node_of_read slots x was inside read))) in
      record {
        whole = step.whole;
        change = subst (λ (ns : List (Node I)). Appends ns (nodes_of (set slots x is)) x item) view step.change;
      }

  pub append_refused : (x : ℕ) (was is : Slot I) → IsUnshared nodes x → was ≡ get_or slots x was → node_of is ≡ node_of was →
      nodes_of (set slots x is) ≡ nodes_of slots
  append_refused x was is unshared read written =
      same_slot slots x is (written ∙ node_of_read slots x was (unshared_inside x unshared) read)

  -- the call of `begin` that found a free slot, and the one that made one
  pub begin_again : (x : ℕ) (is : Slot I) → x < length slots → (node_at (nodes_of slots) x).owners ≡ 0 → node_of is ≡ new_node →
      Step I (nodes_of (set slots x is)) (Begins nodes (nodes_of (set slots x is)) x)
  begin_again x is inside none written =
      let step = step_begin (nodes_of slots) (nodes_of (set slots x is)) x whole none (writes_slot slots x is new_node inside written) in
      record {
        whole = step.whole;
        change = subst (λ (ns : List (Node I)). Begins ns (nodes_of (set slots x is)) x) view step.change;
      }

  pub begin_anew : (x : ℕ) (is : Slot I) (after : List (Slot I)) → x ≡ length slots → node_of is ≡ new_node → after ≡ slots ++ is ∷ [] →
      Step I (nodes_of after) (Begins nodes (nodes_of after) x)
  begin_anew x is after number written pushed =
      let end : length (nodes_of slots) ≡ x = length-map slots node_of ∙ sym number in
      let same : nodes_of slots ++ new_node ∷ [] ≡ nodes_of after =
      ap (λ n. nodes_of slots ++ n ∷ []) (sym written) ∙ sym (map_push node_of slots is) ∙ ap nodes_of (sym pushed) in
      let writes : Writes (nodes_of slots) (nodes_of after) x new_node =
      subst (λ (ns : List (Node I)). Writes (nodes_of slots) ns x new_node) same
      (subst (λ (y : ℕ). Writes (nodes_of slots) (nodes_of slots ++ new_node ∷ []) y new_node) end (writes_push (nodes_of slots) new_node)) in
      let none : (node_at (nodes_of slots) x).owners ≡ 0 =
      ap (λ n. n.owners) (get_or_past (nodes_of slots) x free_node (omega (arith, end))) in
      let step = step_begin (nodes_of slots) (nodes_of after) x whole none writes in
      record {
        whole = step.whole;
        change = subst (λ (ns : List (Node I)). Begins ns (nodes_of after) x) view step.change;
      }

  -- the call of `link` that had memory
  pub link_slots : (parent : ℕ) (child : NodeId) (seen was is again after : Slot I) (owners : ℕ) → IsUnshared nodes parent → IsLive nodes child.0 →
      child.0 ≢ parent → seen ≡ get_or slots child.0 seen → was ≡ get_or slots parent was →
      node_of is ≡ with_link (node_of was) child seen.height seen.total → again ≡ get_or (set slots parent is) child.0 again →
      owners ≡ seen.owners + 1 → node_of after ≡ with_owners (node_of again) owners →
      Step I (nodes_of (set (set slots parent is) child.0 after)) (Links nodes (nodes_of (set (set slots parent is) child.0 after)) parent child.0)
  link_slots parent child seen was is again after owners unshared live differ seen_is was_is written again_is counted owned =
      let parent_in = unshared_inside parent unshared in
      let live_here : IsLive (nodes_of slots) child.0 = subst (λ (ns : List (Node I)). IsLive ns child.0) (sym view) live in
      let child_in = owned_inside slots child.0 live_here in
      let seen_node : node_of seen ≡ node_at (nodes_of slots) child.0 = node_of_read slots child.0 seen child_in seen_is in
      let again_node : node_of again ≡ node_at (nodes_of slots) child.0 =
      node_of_read (set slots parent is) child.0 again (omega (arith, child_in, length-set slots parent is)) again_is
      ∙ ap (λ ns. node_at ns child.0) (nodes_of_set slots parent is)
      ∙ get_or-set_other (nodes_of slots) parent child.0 (node_of is) free_node differ in
      let is_node : node_of is ≡ with_link (node_at (nodes_of slots) parent) child (node_at (nodes_of slots) child.0).height (node_at (nodes_of slots) child.0).total =
      written
      ∙ ap (λ n. with_link n child seen.height seen.total) (node_of_read slots parent was parent_in was_is)
      ∙ ap (λ n. with_link (node_at (nodes_of slots) parent) child n.height n.total) seen_node in
      let after_node : node_of after ≡ with_owners (node_at (nodes_of slots) child.0) ((node_at (nodes_of slots) child.0).owners + 1) =
      owned
      ∙ ap (λ n. with_owners n owners) again_node
      ∙ ap (with_owners (node_at (nodes_of slots) child.0)) (counted ∙ ap (λ n. n.owners + 1) seen_node) in
      let same : nodes_of (set (set slots parent is) child.0 after) ≡ set (set (nodes_of slots) parent _) child.0 _ =
      nodes_of_set (set slots parent is) child.0 after
      ∙ ap (λ ns. set ns child.0 (node_of after)) (nodes_of_set slots parent is ∙ ap (set (nodes_of slots) parent) is_node)
      ∙ ap (set (set (nodes_of slots) parent _) child.0) after_node in
      let step =
      step_linked (nodes_of slots) parent child whole (subst (λ (ns : List (Node I)). IsUnshared ns parent) (sym view) unshared) live_here differ
      (omega (arith, parent_in, length-map slots node_of)) (omega (arith, child_in, length-map slots node_of)) in
      let here : Step I (nodes_of (set (set slots parent is) child.0 after)) (Links (nodes_of slots) (nodes_of (set (set slots parent is) child.0 after)) parent child.0) =
      subst (λ (new : List (Node I)). Step I new (Links (nodes_of slots) new parent child.0)) (sym same) step in
      record {
        whole = here.whole;
        change = subst (λ (ns : List (Node I)). Links ns (nodes_of (set (set slots parent is) child.0 after)) parent child.0) view here.change;
      }

  -- what a live node counts is how many points it has
  pub points_read : (x : ℕ) (slot : Slot I) → IsLive nodes x → slot ≡ get_or slots x slot → slot.total ≡ length (points nodes x)
  points_read x slot live read =
      let inside = owned_inside slots x (subst (λ (ns : List (Node I)). IsLive ns x) (sym view) live) in
      ap (λ n. n.total) (node_of_read slots x slot inside read)
      ∙ sym (points_length (nodes_of slots) whole x)
      ∙ ap (λ ns. length (points ns x)) view

  -- the call of `retain` that had room
  pub retain_slots : (x : ℕ) (was is : Slot I) (owners : ℕ) → IsLive nodes x → was ≡ get_or slots x was → owners ≡ was.owners + 1 →
      node_of is ≡ with_owners (node_of was) owners →
      Step I (nodes_of (set slots x is)) (Recounts nodes (nodes_of (set slots x is)) x ((node_at nodes x).owners + 1))
  retain_slots x was is owners live read more written =
      let here : IsLive (nodes_of slots) x = subst (λ (ns : List (Node I)). IsLive ns x) (sym view) live in
      let inside = owned_inside slots x here in
      let node : node_of was ≡ node_at (nodes_of slots) x = node_of_read slots x was inside read in
      let step =
      step_recount (nodes_of slots) (nodes_of (set slots x is)) x ((node_at (nodes_of slots) x).owners + 1) whole here
      (omega (arith, whole.counted x)) (omega arith)
      (writes_slot slots x is _ inside
      (written ∙ ap (λ n. with_owners n owners) node ∙ ap (with_owners (node_at (nodes_of slots) x)) (more ∙ ap (λ n. n.owners + 1) node))) in
      record {
        whole = step.whole;
        change = subst (λ (ns : List (Node I)). Recounts ns (nodes_of (set slots x is)) x ((node_at ns x).owners + 1)) view step.change;
      }
