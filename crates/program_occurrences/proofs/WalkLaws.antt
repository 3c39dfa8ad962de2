-- The points one behind the other.
use Rattle.std.proofs.Common.{◌≡◌, ◌∙◌, ◌+◌, ◌<◌, ◌≤◌, ℕ, zero, suc, Bool, true, false, List, [], ◌∷◌, ◌++◌, length, take, Option, Some, None, refl, sym, ap, subst, append_assoc, append-nil, add-one, arith}
use Rattle.std.specs.Prelude.{slice_get, unwrap_or}
use Rattle.std.specs.Bool.{OnTrue, OnFalse}
use Rattle.std.proofs.lemmas.Bool.{OnTrue_at, OnFalse_at}
use Rattle.std.specs.List.{flat_map, fold}
use Rattle.std.specs.Option.{option_map, MatchOption}
use Rattle.std.proofs.lemmas.Grind.{flat_map-append}
use Rattle.std.proofs.lemmas.List.Sums.{fold-append}
use Rattle.std.proofs.lemmas.Option.{none-some}
use Rattle.defined_symbols.specs.Symbols.{defined_by, first_in, with_symbol, with_symbols}
use Rattle.running_calls.proofs.CallLaws.{held-here, held-inside}
use Rattle.running_calls.proofs.DoneLaws.{follows-on}
use Rattle.running_calls.specs.Calls.{Follows, held, met, passed, reached, running, variables_or}
use Rattle.running_calls.specs.declared.calls.RunningCall.{RunningCall}
use Rattle.standing_occurrences.proofs.PlaceLaws.{standing-behind}
use Rattle.standing_occurrences.specs.Standing.{standing, with_first}
use Rattle.text_lists.specs.Definitions.{Defined}
use Rattle.text_lists.specs.Lists.{Source}
use Rattle.text_pool.specs.Members.{Member}
use Rattle.trace_arena.specs.Points.{Point}
use Rattle.trace_values.specs.declared.item.TraceItem.{TraceItem}
use Rattle.trace_values.specs.declared.occurrence.Occurrence.{Occurrence}
use Rattle.trace_variables.specs.Calls.{done_before}
use Rattle.program_occurrences.proofs.CallLaws.{at_point, point-alike}
use Rattle.program_occurrences.specs.Met.{met_with}
use Rattle.program_occurrences.specs.Occurrences.{of_point}
use Rattle.program_occurrences.specs.Programs.{occurrences_of, of_points, situation, symbols_of}

-- one point more
of_points-append : (texts : List Source) (definitions : List Defined) (members : List ℕ → Member) (before points : List (Point TraceItem)) (point : Point TraceItem) →
    of_points texts definitions members before (points ++ point ∷ [])
    ≡ of_points texts definitions members before points ++ of_point texts definitions members (situation (before ++ points) point) point.item
of_points-append texts definitions members before [] point =
    append-nil (of_point texts definitions members (situation before point) point.item)
    ∙ ap (λ (b : List (Point TraceItem)). of_point texts definitions members (situation b point) point.item) (sym (append-nil before))
of_points-append texts definitions members before (p ∷ ps) point =
    let own = of_point texts definitions members (situation before p) p.item in
    ap (λ rest. own ++ rest) (of_points-append texts definitions members (before ++ p ∷ []) ps point)
    ∙ sym (append_assoc own (of_points texts definitions members (before ++ p ∷ []) ps) (of_point texts definitions members (situation ((before ++ p ∷ []) ++ ps) point) point.item))
    ∙ ap (λ (b : List (Point TraceItem)). (own ++ of_points texts definitions members (before ++ p ∷ []) ps) ++ of_point texts definitions members (situation b point) point.item)
    (append_assoc before (p ∷ []) ps)

-- what was kept of the points so far says what is known at the next one
met-situation : (texts : List Source) (definitions : List Defined) (members : List ℕ → Member) (calls : List (Option RunningCall)) (before : List (Point TraceItem)) (point : Point TraceItem) →
    Follows calls before →
    of_point texts definitions members (met_with calls (symbols_of before) (length point.calls) point.item) point.item
    ≡ of_point texts definitions members (situation before point) point.item
met-situation texts definitions members calls before point follows =
    let level = length point.calls in
    let item = point.item in
    let first = first_in (symbols_of before) item.line in
    ap (λ (call : Option RunningCall). of_point texts definitions members (record { calls = held (met calls level item); level = level; variables = variables_or call item; first = first }) item) (follows level)
    ∙ point-alike texts definitions members (held (met calls level item)) (λ one. running (done_before one before)) level (variables_or (running (done_before level before)) item) first item
    (λ one below. held-inside calls level one (reached (held calls level) item) below ∙ follows one)

symbols-append : (before : List (Point TraceItem)) (point : Point TraceItem) → with_symbols (symbols_of before) (defined_by point.item.line) ≡ symbols_of (before ++ point ∷ [])
symbols-append before point =
    let own : Point TraceItem → List (List ℕ) = λ p. defined_by p.item.line in
    sym (fold-append with_symbol [] (flat_map own before) (own point))
    ∙ ap (λ more. with_symbols [] (flat_map own before ++ more)) (sym (append-nil (own point)))
    ∙ ap (with_symbols []) (sym (flat_map-append own before (point ∷ [])))

-- ---- what is kept of some points

pub record IsKept (texts : List Source) (definitions : List Defined) (members : List ℕ → Member) (points : List (Point TraceItem)) (calls : List (Option RunningCall))
    (symbols : List (List ℕ)) (kept : List Occurrence) : Type 0 where
  pub follows : Follows calls points
  pub defined : symbols ≡ symbols_of points
  pub standing_are : kept ≡ fold with_first [] (of_points texts definitions members [] points)

pub kept-none : (texts : List Source) (definitions : List Defined) (members : List ℕ → Member) → IsKept texts definitions members [] [] [] []
kept-none texts definitions members = record { follows = λ level. refl; defined = refl; standing_are = refl }

kept_point : (texts : List Source) (definitions : List Defined) (members : List ℕ → Member) (before : List (Point TraceItem)) (point : Point TraceItem)
    (calls later : List (Option RunningCall)) (symbols more : List (List ℕ)) (kept grown : List Occurrence) → IsKept texts definitions members before calls symbols kept →
    later ≡ passed calls (length point.calls) point.item → more ≡ with_symbols symbols (defined_by point.item.line) →
    grown ≡ fold with_first kept (of_point texts definitions members (met_with calls symbols (length point.calls) point.item) point.item) →
    IsKept texts definitions members (before ++ point ∷ []) later more grown
kept_point texts definitions members before point calls later symbols more kept grown is passes notes adds = record {
  follows = λ level. ap (λ (c : List (Option RunningCall)). held c level) passes ∙ follows-on calls before point is.follows level;
  defined = notes ∙ ap (λ s. with_symbols s (defined_by point.item.line)) is.defined ∙ symbols-append before point;
  standing_are =
      adds
      ∙ ap (λ s. fold with_first kept (of_point texts definitions members (met_with calls s (length point.calls) point.item) point.item)) is.defined
      ∙ ap (fold with_first kept) (met-situation texts definitions members calls before point is.follows)
      ∙ ap (λ (k : List Occurrence). fold with_first k (of_point texts definitions members (situation before point) point.item)) is.standing_are
      ∙ sym (fold-append with_first [] (of_points texts definitions members [] before) (of_point texts definitions members (situation before point) point.item))
      ∙ ap (fold with_first []) (sym (of_points-append texts definitions members [] before point));
}

take_next : {X : Type 0} (xs : List X) (k : ℕ) (x : X) → slice_get xs k ≡ Some x → take (suc k) xs ≡ take k xs ++ x ∷ []
take_next [] k x e = absurd (none-some x e)
take_next (y ∷ ys) zero x e = ap (λ o. unwrap_or o x ∷ []) e
take_next (y ∷ ys) (suc k) x e = ap (λ zs. y ∷ zs) (take_next ys k x e)

of_some : {X Y : Type 0} (f : X → Y) (o : Option X) (y : Y) → option_map f o ≡ Some y → (x : X) × (o ≡ Some x)
of_some f None y e = absurd (none-some y e)
of_some f (Some x) y e = (x, refl)

-- the same of the points up to an index, of which the next one has this level and this item
pub kept-next : (texts : List Source) (definitions : List Defined) (members : List ℕ → Member) (points : List (Point TraceItem)) (k level : ℕ) (item : TraceItem)
    (calls later : List (Option RunningCall)) (symbols more : List (List ℕ)) (kept grown : List Occurrence) → IsKept texts definitions members (take k points) calls symbols kept →
    option_map (λ (p : Point TraceItem). length p.calls) (slice_get points k) ≡ Some level →
    option_map (λ (p : Point TraceItem). p.item) (slice_get points k) ≡ Some item →
    later ≡ passed calls level item → more ≡ with_symbols symbols (defined_by item.line) →
    grown ≡ fold with_first kept (of_point texts definitions members (met_with calls symbols level item) item) →
    IsKept texts definitions members (take (k + 1) points) later more grown
kept-next texts definitions members points k level item calls later symbols more kept grown is within at passes notes adds =
    let found = of_some (λ (p : Point TraceItem). p.item) (slice_get points k) item at in
    let p = found.0 in
    let level_is : level ≡ length p.calls = ap (λ o. unwrap_or o level) (sym within ∙ ap (option_map (λ (q : Point TraceItem). length q.calls)) found.1) in
    let item_is : item ≡ p.item = ap (λ o. unwrap_or o item) (sym at ∙ ap (option_map (λ (q : Point TraceItem). q.item)) found.1) in
    rw (ap (λ (n : ℕ). take n points) (add-one k) ∙ take_next points k p found.1)
    (kept_point texts definitions members (take k points) p calls later symbols more kept grown is
    (passes ∙ ap (λ (n : ℕ). passed calls n item) level_is ∙ ap (λ (i : TraceItem). passed calls (length p.calls) i) item_is)
    (notes ∙ ap (λ (i : TraceItem). with_symbols symbols (defined_by i.line)) item_is)
    (adds
    ∙ ap (λ (n : ℕ). fold with_first kept (of_point texts definitions members (met_with calls symbols n item) item)) level_is
    ∙ ap (λ (i : TraceItem). fold with_first kept (of_point texts definitions members (met_with calls symbols (length p.calls) i) i)) item_is))

-- those that stand of a list are kept one by one
pub fold-standing : (done more : List Occurrence) → fold with_first (standing done) more ≡ standing (done ++ more)
fold-standing done [] = ap standing (sym (append-nil done))
fold-standing done (next ∷ more) =
    ap (λ (k : List Occurrence). fold with_first k more) (sym (standing-behind done next))
    ∙ fold-standing (done ++ next ∷ []) more
    ∙ ap standing (append_assoc done (next ∷ []) more)

-- ---- the ends of the walk

-- nothing is kept of no point
pub same-kept : (texts : List Source) (definitions : List Defined) (members : List ℕ → Member) (points : List (Point TraceItem)) (calls : List (Option RunningCall))
    (symbols : List (List ℕ)) (kept : List Occurrence) → calls ≡ [] → symbols ≡ [] → kept ≡ [] → IsKept texts definitions members (take 0 points) calls symbols kept
same-kept texts definitions members points calls symbols kept no_call no_symbol none =
    subst (λ c. IsKept texts definitions members [] c symbols kept) (sym no_call)
    (subst (λ s. IsKept texts definitions members [] [] s kept) (sym no_symbol) (subst (λ k. IsKept texts definitions members [] [] [] k) (sym none) (kept-none texts definitions members)))

no_points : {X : Type 0} (xs : List X) → length xs ≤ 0 → xs ≡ []
no_points [] none = refl
no_points (x ∷ xs) none = absurd (omega arith)

no_cursor : {X C : Type 0} (xs : List X) (o : Option C) (P : C → Type 0) → o ≡ None → MatchOption o (length xs ≤ 0) P → xs ≡ []
no_cursor xs None P is none = no_points xs none
no_cursor xs (Some c) P is found = absurd (none-some c (sym is))

-- where there is no cursor at the first point there is no occurrence
pub none-kept : {C : Type 0} (texts : List Source) (definitions : List Defined) (members : List ℕ → Member) (points : List (Point TraceItem)) (o : Option C) (P : C → Type 0) →
    o ≡ None → MatchOption o (length points ≤ 0) P → (kept : List Occurrence) → kept ≡ [] → kept ≡ occurrences_of texts definitions members points
unfolding occurrences_of
none-kept texts definitions members points o P is none kept empty = empty ∙ ap (λ (ps : List (Point TraceItem)). standing (of_points texts definitions members [] ps)) (sym (no_cursor points o P is none))

take_whole : {X : Type 0} (xs : List X) (k : ℕ) → length xs ≤ k → take k xs ≡ xs
take_whole [] zero all = refl
take_whole [] (suc k) all = refl
take_whole (x ∷ xs) zero all = absurd (omega arith)
take_whole {X} (x ∷ xs) (suc k) all = ap (λ (rest : List X). x ∷ rest) (take_whole xs k (omega arith))

-- what is kept of all points are their occurrences
pub all-kept : (texts : List Source) (definitions : List Defined) (members : List ℕ → Member) (points : List (Point TraceItem)) (k : ℕ) (calls : List (Option RunningCall))
    (symbols : List (List ℕ)) (kept : List Occurrence) → length points ≤ k → IsKept texts definitions members (take k points) calls symbols kept →
    kept ≡ occurrences_of texts definitions members points
unfolding occurrences_of
all-kept texts definitions members points k calls symbols kept all is =
    is.standing_are
    ∙ ap (λ (ps : List (Point TraceItem)). fold with_first [] (of_points texts definitions members [] ps)) (take_whole points k all)
    ∙ fold-standing [] (of_points texts definitions members [] points)

pub step-index : (b : Bool) (new old i n m : ℕ) → OnTrue b (new ≡ old + 1) → OnFalse b (m ≡ old + 1) → m ≡ n → old ≡ i → i + 1 < n → new ≡ i + 1
step-index true new old i n m next last same is lt = let on = OnTrue_at refl next in omega arith
step-index false new old i n m next last same is lt = let on = OnFalse_at refl last in absurd (omega arith)

some_same : {X : Type 0} (x y : X) → Some x ≡ Some y → x ≡ y
some_same x y is = cc

-- what is known at a point that is met, by the calls with it
pub met-is : (calls new : List (Option RunningCall)) (symbols : List (List ℕ)) (level : ℕ) (item : TraceItem) (call : RunningCall) (first : Option (List ℕ)) →
    new ≡ met calls level item → Some call ≡ held new level → first ≡ first_in symbols item.line →
    at_point (held new) level call.variables first ≡ met_with calls symbols level item
met-is calls new symbols level item call first is there first_is =
    let call_is : call ≡ reached (held calls level) item =
    some_same call (reached (held calls level) item) (there ∙ ap (λ (c : List (Option RunningCall)). held c level) is ∙ held-here calls level (reached (held calls level) item)) in
    λ i. record { calls = held (is i); level = level; variables = (call_is i).variables; first = first_is i }

-- a call of the level is there
pub met-there : (calls new : List (Option RunningCall)) (level : ℕ) (item : TraceItem) → new ≡ met calls level item → None ≡ held new level → ⊥
met-there calls new level item is none =
    none-some (reached (held calls level) item) (none ∙ ap (λ (c : List (Option RunningCall)). held c level) is ∙ held-here calls level (reached (held calls level) item))
