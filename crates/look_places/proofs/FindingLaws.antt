-- What an index and the numbers find is what lookahead finds.
use Rattle.std.proofs.Common.{◌≡◌, ◌∙◌, ℕ, List, Option, Some, None, refl, ap}
use Rattle.std.specs.Prelude.{slice_get}
use Rattle.hlasm_statements.specs.declared.statement.Statement.{Statement}
use Rattle.text_pool.specs.Members.{Member}
use Rattle.lookahead_scan.specs.Index.{finds}
use Rattle.lookahead_scan.specs.Looks.{look}
use Rattle.lookahead_scan.specs.declared.index.LookIndex.{LookIndex}
use Rattle.look_places.specs.Finding.{finds_from}
use Rattle.look_places.specs.Places.{look_behind, look_from, numbers}

module _ (members : List ℕ → Member) (list : List Statement) (index : LookIndex)
    (finds_it : (name : List ℕ) (after : ℕ) → finds index name after ≡ look members list name after) where
  finds_behind : (name : List ℕ) (number : Option ℕ) → finds_from index name number ≡ look_from members list name number
  finds_behind name None = refl
  finds_behind name (Some number) = finds_it name number

  pub foreseen : (found : List ℕ) → found ≡ numbers 0 list → (name : List ℕ) (place : ℕ) →
      finds_from index name (slice_get found place) ≡ look_behind members list name place
  foreseen found is name place =
      finds_behind name (slice_get found place) ∙ ap (λ (ns : List ℕ). look_from members list name (slice_get ns place)) is
