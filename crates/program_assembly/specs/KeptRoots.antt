-- What is kept of the last assembly: outcomes of calls, and the root of its points (this project).
use Rattle.std.specs.Prelude.{◌≡◌, ℕ, ◌<◌, Option, Some, None, List}
use Rattle.std.specs.Coded.{Π_prop, le_prop}
use Rattle.trace_values.specs.declared.item.TraceItem.{TraceItem}
use Rattle.trace_arena.specs.Nodes.{Node, outside}
use Rattle.trace_arena.specs.Changes.{less_one}
use Rattle.trace_arena.specs.declared.node.NodeId.{NodeId}
use Rattle.call_sites.specs.Calls.{call_of}
use Rattle.call_sites.specs.Rules.{rebased}
use Rattle.expansion_memo.specs.Kept.{KeptOutcome, AllStand, AllStand-prop}
use Rattle.program_assembly.specs.Assembly.{open_code_machine}

-- All that is kept stands, and the root, if there is one, has an owner from outside.
pub record AreKept (nodes : List (Node TraceItem)) (kept : List (Option KeptOutcome)) (root : Option NodeId) : Type 0 where
  pub stand : AllStand open_code_machine rebased call_of (λ item. item) nodes kept
  pub owned : (r : NodeId) → root ≡ Some r → 0 < outside nodes r.0

-- this is a fact that a value can keep
pub AreKept-prop : (nodes : List (Node TraceItem)) (kept : List (Option KeptOutcome)) (root : Option NodeId) → IsProp (AreKept nodes kept root)
AreKept-prop nodes kept root one other = λ i. record {
  stand = AllStand-prop open_code_machine rebased call_of (λ item. item) nodes kept one.stand other.stand i;
  owned = Π_prop (λ r. Π_prop (λ is. le_prop)) one.owned other.owned i;
}

-- how many owners each node has from outside, once one of the root is given up
unfoldable pub owners_without : Option NodeId → (ℕ → ℕ) → ℕ → ℕ
owners_without None owners = owners
owners_without (Some root) owners = less_one owners root.0
