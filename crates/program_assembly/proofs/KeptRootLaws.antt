-- The owners of the roots of two assemblies, of which the first is given up.
use Rattle.std.proofs.Common.{◌≡◌, ℕ, ◌-◌, ◌<◌, cond, Option, Some, None, List, [], refl, sym, ap, subst, ◌∙◌, inl, inr, eq-eqb, arith}
use Rattle.std.proofs.lemmas.Bool.{cases_eq, ne_eqb}
use Rattle.trace_arena.specs.declared.node.NodeId.{NodeId}
use Rattle.trace_arena.specs.Nodes.{Node, outside, IsLive}
use Rattle.trace_arena.specs.Changes.{less_one}
use Rattle.expansion_memo.specs.Running.{IsHandedOut}
use Rattle.expansion_memo.specs.Kept.{KeptOutcome, AllStand, kept_at}
use Rattle.trace_values.specs.declared.item.TraceItem.{TraceItem}
use Rattle.call_sites.specs.Calls.{call_of}
use Rattle.call_sites.specs.Rules.{rebased}
use Rattle.program_assembly.specs.Assembly.{open_code_machine}
use Rattle.program_assembly.specs.KeptRoots.{AreKept, owners_without}

some_same : (a b : NodeId) → Some a ≡ Some b → a ≡ b
some_same a b e = cc

-- with no root given up
pub owners_of_none : (owners : ℕ → ℕ) (x : ℕ) → owners_without None owners x ≡ owners x
unfolding owners_without
owners_of_none owners x = refl

-- with this one given up
pub owners_of_some : (root : NodeId) (owners : ℕ → ℕ) (x : ℕ) → owners_without (Some root) owners x ≡ less_one owners root.0 x
unfolding owners_without
owners_of_some root owners x = refl

-- what is kept with no root
pub kept_without_root : (nodes : List (Node TraceItem)) (kept : List (Option KeptOutcome))
    → AllStand open_code_machine rebased call_of (λ item. item) nodes kept → AreKept nodes kept None
kept_without_root nodes kept stand = record { stand = stand; owned = λ r is. cc }

-- nothing is kept
pub nothing_kept : (nodes : List (Node TraceItem)) (kept : List (Option KeptOutcome)) → kept ≡ [] → AreKept nodes kept None
nothing_kept nodes kept none = kept_without_root nodes kept (λ i o at. (let e : kept_at [] i ≡ Some o = ap (λ k. kept_at k i) (sym none) ∙ at in cc))

module _ (old made new : List (Node TraceItem)) (next : ℕ) (handed : IsHandedOut old made next) where
  -- a root that was owned still is, beside the next one
  pub still_owned : (x : ℕ) → 0 < outside old x → 0 < outside made x
  still_owned x owned = elim (cases_eq x next) [
    | inl same ↦ subst (λ y. 0 < outside made y) (sym same) (let e = handed.owned in omega arith)
    | inr other ↦ (
        let live : IsLive old x = omega (arith, owned) in
        let e = (handed.lasts x other live).owners in
        omega (arith, owned)
        )
  ]

  pub last_is_owned : (last : Option NodeId) → ((r : NodeId) → last ≡ Some r → 0 < outside old r.0) → (r : NodeId) → last ≡ Some r → 0 < outside made r.0
  last_is_owned last owned r is = still_owned r.0 (owned r is)

  -- and the next one is owned once the last is given up
  pub next_is_owned : (last : Option NodeId) → ((r : NodeId) → last ≡ Some r → 0 < outside old r.0)
      → ((x : ℕ) → outside new x ≡ owners_without last (outside made) x) → 0 < outside new next
  next_is_owned None owned given =
      let e = given next ∙ owners_of_none (outside made) next in
      let one = handed.owned in
      omega arith
  next_is_owned (Some r) owned given = elim (cases_eq next r.0) [
    | inl same ↦ (
        let e = given next ∙ owners_of_some r (outside made) next ∙ ap (λ b. cond b (outside made next - 1) (outside made next)) (eq-eqb next r.0 same) in
        let before : outside old next ≡ outside old r.0 = ap (λ x. outside old x) same in
        let some = owned r refl in
        let one = handed.owned in
        omega arith
        )
    | inr other ↦ (
        let e = given next ∙ owners_of_some r (outside made) next ∙ ap (λ b. cond b (outside made next - 1) (outside made next)) (ne_eqb next r.0 other) in
        let one = handed.owned in
        omega arith
        )
  ]

  pub kept_with_next : (kept : List (Option KeptOutcome)) (last : Option NodeId) (root : NodeId) → root.0 ≡ next
      → AllStand open_code_machine rebased call_of (λ item. item) new kept
      → ((r : NodeId) → last ≡ Some r → 0 < outside old r.0)
      → ((x : ℕ) → outside new x ≡ owners_without last (outside made) x) → AreKept new kept (Some root)
  kept_with_next kept last root is stand owned given = record {
    stand = stand;
    owned = λ r same. (
        let e : r.0 ≡ next = sym (ap (λ x. x.0) (some_same root r same)) ∙ is in
        subst (λ x. 0 < outside new x) (sym e) (next_is_owned last owned given)
        );
  }
