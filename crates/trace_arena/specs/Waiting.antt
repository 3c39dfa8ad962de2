-- Nodes without owners that wait to be freed. No public clause cites this file. This project.
use Rattle.std.specs.Prelude.{◌≡◌, ℕ, ◌+◌, ◌<◌, ◌≤◌, ◌⊎◌, Option, Some, None, List, [], ◌∷◌, map, length, slice_index_or}
use Rattle.trace_arena.specs.declared.slot.Slot.{Slot}
use Rattle.trace_arena.specs.Nodes.{Node, free_node, node_at, parents, outside, IsLive}

-- what stands behind each slot
abbrev pub nexts_of : {I : Type 0} → List (Slot I) → List (Option ℕ)
nexts_of slots = map (λ slot. slot.next) slots

abbrev pub next_at : List (Option ℕ) → ℕ → Option ℕ
next_at nexts x = slice_index_or nexts x None

abbrev pub IsIn : ℕ → List ℕ → Type 0
IsIn x [] = ⊥
IsIn x (y ∷ ys) = (x ≡ y) ⊎ IsIn x ys

-- these numbers, each once, stand behind one another from the first on
abbrev pub IsPath : (ℕ → Option ℕ) → Option ℕ → List ℕ → Type 0
IsPath next first [] = first ≡ None
IsPath next first (x ∷ xs) = (first ≡ Some x) × (IsIn x xs → ⊥) × IsPath next (next x) xs

-- a node keeps what it holds
pub record Holds {I : Type 0} (start now : List (Node I)) (x : ℕ) : Type 0 where
  pub live : IsLive start x
  pub items : (node_at now x).items ≡ (node_at start x).items
  pub links : (node_at now x).links ≡ (node_at start x).links
  pub height : (node_at now x).height ≡ (node_at start x).height
  pub total : (node_at now x).total ≡ (node_at start x).total

-- the nodes without owners that hold something still are those that wait, and nothing else changed since the start
pub record Frees {I : Type 0} (start now : List (Node I)) (nexts : List (Option ℕ)) (waiting : Option ℕ) : Type 0 where
  pub queue : List ℕ
  pub path : IsPath (next_at nexts) waiting queue
  pub idle : (x : ℕ) → IsIn x queue → ((node_at now x).owners ≡ 0) × (0 < (node_at now x).height)
  pub counted : (x : ℕ) → parents now x ≤ (node_at now x).owners
  pub outer : (x : ℕ) → outside now x ≡ outside start x
  pub fewer : (x : ℕ) → parents now x ≤ parents start x
  pub free : (x : ℕ) → (node_at now x).owners ≡ 0 → (IsIn x queue → ⊥) → node_at now x ≡ free_node
  pub tall : (x : ℕ) → IsLive now x → 0 < (node_at now x).height
  pub kept : (x : ℕ) → IsLive now x → Holds start now x

-- the links and heights that are there to be taken away
abbrev pub work : {I : Type 0} → List (Node I) → ℕ
work [] = 0
work (n ∷ ns) = length n.links + n.height + work ns
