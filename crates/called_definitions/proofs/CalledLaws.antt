-- The points one behind the other.
use Rattle.std.proofs.Common.{◌≡◌, ◌∙◌, ◌+◌, ◌<◌, ◌≤◌, ℕ, zero, suc, Bool, true, false, List, [], ◌∷◌, ◌++◌, length, take, Option, Some, None, refl, sym, ap, add-one, arith}
use Rattle.std.specs.Prelude.{slice_get, unwrap_or}
use Rattle.std.specs.Bool.{OnTrue, OnFalse}
use Rattle.std.specs.List.{fold}
use Rattle.std.specs.Option.{option_map, MatchOption}
use Rattle.std.proofs.lemmas.Bool.{OnTrue_at, OnFalse_at}
use Rattle.std.proofs.lemmas.List.Sums.{fold-append}
use Rattle.std.proofs.lemmas.Option.{none-some}
use Rattle.text_lists.specs.Definitions.{Defined}
use Rattle.text_lists.specs.Lists.{Source}
use Rattle.text_pool.specs.Members.{Member}
use Rattle.trace_arena.specs.Points.{Point}
use Rattle.trace_values.specs.declared.item.TraceItem.{TraceItem}
use Rattle.called_definitions.specs.Called.{definitions_of, with_definition, with_point}

take_next : {X : Type 0} (xs : List X) (k : ℕ) (x : X) → slice_get xs k ≡ Some x → take (suc k) xs ≡ take k xs ++ x ∷ []
take_next [] k x e = absurd (none-some x e)
take_next (y ∷ ys) zero x e = ap (λ o. unwrap_or o x ∷ []) e
take_next (y ∷ ys) (suc k) x e = ap (λ zs. y ∷ zs) (take_next ys k x e)

of_some : {X Y : Type 0} (f : X → Y) (o : Option X) (y : Y) → option_map f o ≡ Some y → (x : X) × (o ≡ Some x)
of_some f None y e = absurd (none-some y e)
of_some f (Some x) y e = (x, refl)

-- the definitions of the points up to an index, and of the next one
pub known-next : (texts : List Source) (members : List ℕ → Member) (points : List (Point TraceItem)) (k : ℕ) (item : TraceItem) (known grown : List Defined) →
    known ≡ definitions_of texts members (take k points) → option_map (λ (p : Point TraceItem). p.item) (slice_get points k) ≡ Some item →
    grown ≡ with_definition texts members known item.definition → grown ≡ definitions_of texts members (take (k + 1) points)
unfolding definitions_of
known-next texts members points k item known grown is at adds =
    let found = of_some (λ (p : Point TraceItem). p.item) (slice_get points k) item at in
    let p = found.0 in
    let item_is : item ≡ p.item = ap (λ o. unwrap_or o item) (sym at ∙ ap (option_map (λ (q : Point TraceItem). q.item)) found.1) in
    adds
    ∙ ap (λ (i : TraceItem). with_definition texts members known i.definition) item_is
    ∙ ap (λ (ds : List Defined). with_point texts members ds p) is
    ∙ sym (fold-append (with_point texts members) [] (take k points) (p ∷ []))
    ∙ ap (fold (with_point texts members) []) (sym (ap (λ (n : ℕ). take n points) (add-one k) ∙ take_next points k p found.1))

-- those of no point
pub known-none : (texts : List Source) (members : List ℕ → Member) (points : List (Point TraceItem)) (known : List Defined) → known ≡ [] →
    known ≡ definitions_of texts members (take 0 points)
unfolding definitions_of
known-none texts members points known is = is

no_points : {X : Type 0} (xs : List X) → length xs ≤ 0 → xs ≡ []
no_points [] none = refl
no_points (x ∷ xs) none = absurd (omega arith)

no_cursor : {X C : Type 0} (xs : List X) (o : Option C) (P : C → Type 0) → o ≡ None → MatchOption o (length xs ≤ 0) P → xs ≡ []
no_cursor xs None P is none = no_points xs none
no_cursor xs (Some c) P is found = absurd (none-some c (sym is))

-- where there is no cursor at the first point there is no definition
pub none-known : {C : Type 0} (texts : List Source) (members : List ℕ → Member) (points : List (Point TraceItem)) (o : Option C) (P : C → Type 0) → o ≡ None →
    MatchOption o (length points ≤ 0) P → (known : List Defined) → known ≡ [] → known ≡ definitions_of texts members points
unfolding definitions_of
none-known texts members points o P is none known empty =
    empty ∙ ap (fold (with_point texts members) []) (sym (no_cursor points o P is none))

take_whole : {X : Type 0} (xs : List X) (k : ℕ) → length xs ≤ k → take k xs ≡ xs
take_whole [] zero all = refl
take_whole [] (suc k) all = refl
take_whole (x ∷ xs) zero all = absurd (omega arith)
take_whole {X} (x ∷ xs) (suc k) all = ap (λ (rest : List X). x ∷ rest) (take_whole xs k (omega arith))

-- those of all points
pub all-known : (texts : List Source) (members : List ℕ → Member) (points : List (Point TraceItem)) (k : ℕ) (known : List Defined) → length points ≤ k →
    known ≡ definitions_of texts members (take k points) → known ≡ definitions_of texts members points
all-known texts members points k known all is = is ∙ ap (definitions_of texts members) (take_whole points k all)

pub step-index : (b : Bool) (new old i n m : ℕ) → OnTrue b (new ≡ old + 1) → OnFalse b (m ≡ old + 1) → m ≡ n → old ≡ i → i + 1 < n → new ≡ i + 1
step-index true new old i n m next last same is lt = let on = OnTrue_at refl next in omega arith
step-index false new old i n m next last same is lt = let on = OnFalse_at refl last in absurd (omega arith)
