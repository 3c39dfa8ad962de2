-- What a write of a slot leaves of the nodes.
use Rattle.std.proofs.Common.{◌≡◌, ℕ, ◌<◌, List, length, get_or, set, sym, ap, subst, ◌∙◌, inl, inr, arith, Option, None}
use Rattle.std.proofs.lemmas.Bool.{cases_lt}
use Rattle.std.proofs.lemmas.List.{map-set, set-get_or, length-map, get_or-map, get_or_past}
use Rattle.trace_arena.specs.declared.slot.Slot.{Slot}
use Rattle.trace_arena.specs.Nodes.{Node, free_node, node_at}
use Rattle.trace_arena.specs.Waiting.{nexts_of, next_at}
use Rattle.trace_arena.specs.Slots.{node_of, nodes_of}
use Rattle.trace_arena.proofs.WriteLemmas.{Writes, writes_set}

-- a number that has an owner is the number of a slot
pub owned_inside : {I : Type 0} (slots : List (Slot I)) (x : ℕ) → 0 < (node_at (nodes_of slots) x).owners → x < length slots
owned_inside slots x owned =
    elim (cases_lt x (length slots)) [
      | inl inside ↦ inside
      | inr past ↦
          absurd (omega (arith, owned, ap (λ n. n.owners) (get_or_past (nodes_of slots) x free_node (omega (arith, past, length-map slots node_of)))))
    ]

-- the node of a slot that was read
pub node_of_read : {I : Type 0} (slots : List (Slot I)) (x : ℕ) (slot : Slot I) → x < length slots → slot ≡ get_or slots x slot →
    node_of slot ≡ node_at (nodes_of slots) x
node_of_read slots x slot inside is =
    ap node_of is ∙ sym (get_or-map node_of slots x slot free_node inside)

pub nodes_of_set : {I : Type 0} (slots : List (Slot I)) (x : ℕ) (slot : Slot I) → nodes_of (set slots x slot) ≡ set (nodes_of slots) x (node_of slot)
nodes_of_set slots x slot = map-set node_of slots x slot

-- a slot that is written as another node
pub writes_slot : {I : Type 0} (slots : List (Slot I)) (x : ℕ) (slot : Slot I) (n : Node I) → x < length slots → node_of slot ≡ n →
    Writes (nodes_of slots) (nodes_of (set slots x slot)) x n
writes_slot {I} slots x slot n inside is =
    subst
    (λ (nodes : List (Node I)). Writes (nodes_of slots) nodes x n)
    (sym (nodes_of_set slots x slot ∙ ap (set (nodes_of slots) x) is))
    (writes_set (nodes_of slots) x n (omega (arith, inside, length-map slots node_of)))

-- a slot that is written as the node that it was
pub same_slot : {I : Type 0} (slots : List (Slot I)) (x : ℕ) (slot : Slot I) → node_of slot ≡ node_at (nodes_of slots) x →
    nodes_of (set slots x slot) ≡ nodes_of slots
same_slot slots x slot is =
    nodes_of_set slots x slot ∙ ap (set (nodes_of slots) x) is ∙ set-get_or (nodes_of slots) x free_node

-- a number that holds something is the number of a slot
pub tall_inside : {I : Type 0} (slots : List (Slot I)) (x : ℕ) → 0 < (node_at (nodes_of slots) x).height → x < length slots
tall_inside slots x tall =
    elim (cases_lt x (length slots)) [
      | inl inside ↦ inside
      | inr past ↦
          absurd (omega (arith, tall, ap (λ n. n.height) (get_or_past (nodes_of slots) x free_node (omega (arith, past, length-map slots node_of)))))
    ]

-- a slot that was read and is written as a change of its node
pub set_read : {I : Type 0} (slots : List (Slot I)) (x : ℕ) (was is : Slot I) (F : Node I → Node I) → x < length slots →
    was ≡ get_or slots x was → node_of is ≡ F (node_of was) →
    nodes_of (set slots x is) ≡ set (nodes_of slots) x (F (node_at (nodes_of slots) x))
set_read slots x was is F inside read written =
    nodes_of_set slots x is ∙ ap (set (nodes_of slots) x) (written ∙ ap F (node_of_read slots x was inside read))

-- what stands behind each slot
pub nexts_of_set : {I : Type 0} (slots : List (Slot I)) (x : ℕ) (is : Slot I) (next : Option ℕ) → is.next ≡ next →
    nexts_of (set slots x is) ≡ set (nexts_of slots) x next
nexts_of_set {I} slots x is next same =
    map-set (λ (s : Slot I). s.next) slots x is ∙ ap (set (nexts_of slots) x) same

pub next_read : {I : Type 0} (slots : List (Slot I)) (x : ℕ) (was : Slot I) → x < length slots → was ≡ get_or slots x was →
    was.next ≡ next_at (nexts_of slots) x
next_read {I} slots x was inside read =
    ap (λ (s : Slot I). s.next) read ∙ sym (get_or-map (λ (s : Slot I). s.next) slots x was None inside)

pub nexts_stay : {I : Type 0} (slots : List (Slot I)) (x : ℕ) (was is : Slot I) → x < length slots → was ≡ get_or slots x was →
    is.next ≡ was.next → nexts_of (set slots x is) ≡ nexts_of slots
nexts_stay slots x was is inside read same =
    nexts_of_set slots x is (next_at (nexts_of slots) x) (same ∙ next_read slots x was inside read)
    ∙ set-get_or (nexts_of slots) x None
