-- The symbols of the points that were passed.
use Rattle.std.proofs.Common.{◌≡◌, ℕ, zero, suc, ◌+◌, ◌-◌, ◌≤◌, ◌<◌, List, [], ◌∷◌, ◌++◌, map, length, take, drop, Option, Some, None, refl, sym, ap, ◌∙◌, arith, append_assoc, append-nil, length-append}
use Rattle.std.specs.Prelude.{slice_get, unwrap_or}
use Rattle.std.specs.Option.{option_map, option_map_or}
use Rattle.std.proofs.lemmas.List.{map-append}
use Rattle.std.proofs.lemmas.Option.{none-some}
use Rattle.hl_base.specs.declared.place.Frame.{Frame}
use Rattle.ordinary_symbols.specs.Table.{Table, Entry, row_of}
use Rattle.program_assembly.specs.PointNotes.{stack_at}
use Rattle.program_assembly.specs.Statements.{generated, own_line}
use Rattle.program_assembly.specs.Layout.{Layout}
use Rattle.trace_arena.specs.Points.{Point}
use Rattle.trace_cursor.specs.Stacks.{stack_of}
use Rattle.trace_paths.proofs.TouchedLaws.{own_item}
use Rattle.trace_values.specs.declared.item.TraceItem.{TraceItem}
use Rattle.trace_values.specs.declared.symbol_row.SymbolRow.{SymbolRow}
use Rattle.program_names.specs.Symbols.{row_at, rows_between, symbols_behind, statement_of, behind_point, rows_from}

-- what stands behind so many elements of a list
take_zero : {A : Type 0} (xs : List A) → take 0 xs ≡ []
take_zero [] = refl
take_zero (x ∷ xs) = refl

get-drop : {A : Type 0} (xs : List A) (before k : ℕ) → slice_get (drop before xs) k ≡ slice_get xs (before + k)
get-drop [] zero k = refl
get-drop [] (suc before) k = refl
get-drop (x ∷ xs) zero k = let same : k ≡ 0 + k = omega arith in ap (slice_get (x ∷ xs)) same
get-drop (x ∷ xs) (suc before) k =
    let same : suc (before + k) ≡ suc before + k = omega arith in
    get-drop xs before k ∙ ap (slice_get (x ∷ xs)) same

take_next : {A : Type 0} (xs : List A) (k : ℕ) (x : A) → slice_get xs k ≡ Some x → take (suc k) xs ≡ take k xs ++ x ∷ []
take_next [] k x is = absurd (none-some x is)
take_next (y ∷ ys) zero x is = ap (λ o. unwrap_or o x ∷ take 0 ys) is ∙ ap (λ zs. x ∷ zs) (take_zero ys)
take_next (y ∷ ys) (suc k) x is = ap (λ zs. y ∷ zs) (take_next ys k x is)

take_all : {A : Type 0} (xs : List A) (k m : ℕ) → slice_get xs k ≡ None → k ≤ m → take k xs ≡ take m xs
take_all [] zero zero none le = refl
take_all [] zero (suc m) none le = refl
take_all [] (suc k) zero none le = refl
take_all [] (suc k) (suc m) none le = refl
take_all (x ∷ xs) zero m none le = absurd (none-some x (sym none))
take_all (x ∷ xs) (suc k) zero none le = absurd (omega arith)
take_all (x ∷ xs) (suc k) (suc m) none le = let less : k ≤ m = omega arith in ap (λ ys. x ∷ ys) (take_all xs k m none less)

-- the symbols from one place of a table up to another, and one symbol more
next_row : (stack : List Frame) (xs : Table) (k : ℕ) (o : Option Entry) (row : SymbolRow) → slice_get xs k ≡ o → option_map row_of o ≡ Some row →
    map (row_at stack) (take (suc k) xs) ≡ map (row_at stack) (take k xs) ++ record row { stack = stack } ∷ []
next_row stack xs k None row there is = absurd (none-some row is)
next_row stack xs k (Some e) row there is =
    let same : row_of e ≡ row = ap (λ o. unwrap_or o row) is in
    ap (map (row_at stack)) (take_next xs k e there)
    ∙ map-append (row_at stack) (take k xs) (e ∷ [])
    ∙ ap (λ (r : SymbolRow). map (row_at stack) (take k xs) ++ record r { stack = stack } ∷ []) same

place_there : (table : Table) (before at : ℕ) → before ≤ at → slice_get (drop before table) (at - before) ≡ slice_get table at
place_there table before at le =
    let place : before + (at - before) ≡ at = omega arith in
    get-drop table before (at - before) ∙ ap (slice_get table) place

pub rows_between-more : (table : Table) (stack : List Frame) (before at : ℕ) (row : SymbolRow) → before ≤ at → option_map row_of (slice_get table at) ≡ Some row →
    rows_between table stack before (at + 1) ≡ rows_between table stack before at ++ record row { stack = stack } ∷ []
rows_between-more table stack before at row le is =
    let more : (at + 1) - before ≡ suc (at - before) = omega arith in
    ap (λ n. map (row_at stack) (take n (drop before table))) more
    ∙ next_row stack (drop before table) (at - before) (slice_get table at) row (place_there table before at le) is

-- behind the last symbol there is none
nothing_there : (o : Option Entry) → option_map row_of o ≡ None → o ≡ None
nothing_there None is = refl
nothing_there (Some e) is = absurd (none-some (row_of e) (sym is))

pub rows_between-all : (table : Table) (stack : List Frame) (before at behind : ℕ) → before ≤ at → at - before ≤ behind - before →
    option_map row_of (slice_get table at) ≡ None → rows_between table stack before at ≡ rows_between table stack before behind
rows_between-all table stack before at behind le less is =
    ap (map (row_at stack)) (take_all (drop before table) (at - before) (behind - before) (place_there table before at le ∙ nothing_there (slice_get table at) is) less)

-- where there is no symbol more, a point defines none
pub rows_nowhere : (table : Table) (before behind : ℕ) (o : Option (Point TraceItem)) → behind ≤ before →
    option_map_or (λ point. rows_between table (stack_of point) before behind) o [] ≡ []
rows_nowhere table before behind None le = refl
rows_nowhere table before behind (Some p) le =
    let none : behind - before ≡ 0 = omega arith in
    ap (λ n. map (row_at (stack_of p)) (take n (drop before table))) none ∙ ap (map (row_at (stack_of p))) (take_zero (drop before table))

-- the symbols of a point that is there have its stack
pub rows_stacked : (table : Table) (before behind : ℕ) (ps : List (Point TraceItem)) (i : ℕ) → i < length ps →
    rows_between table (stack_at (slice_get ps i)) before behind ≡ option_map_or (λ point. rows_between table (stack_of point) before behind) (slice_get ps i) []
rows_stacked table before behind [] i lt = absurd (omega arith)
rows_stacked table before behind (p ∷ ps) zero lt = refl
rows_stacked table before behind (p ∷ ps) (suc i) lt = let less : i < length ps = omega arith in rows_stacked table before behind ps i less

-- how many symbols there are behind points
abbrev pub behind_all : Layout → (number before : ℕ) → List (Point TraceItem) → ℕ
behind_all layout number before [] = before
behind_all layout number before (point ∷ points) = behind_all layout (number + length (own_line point)) (behind_point layout number before point) points

-- the symbols of a point that these points precede
abbrev pub rows_there : Layout → (number before : ℕ) → Point TraceItem → List SymbolRow
rows_there layout number before point = rows_between layout.symbols (stack_of point) before (behind_point layout number before point)

-- one point more
rows_step : (layout : Layout) (number before : ℕ) (ps : List (Point TraceItem)) (k : ℕ) →
    rows_from layout number before (take (suc k) ps)
    ≡ rows_from layout number before (take k ps)
    ++ option_map_or (rows_there layout (number + length (generated (take k ps))) (behind_all layout number before (take k ps))) (slice_get ps k) []
rows_step layout number before [] zero = refl
rows_step layout number before [] (suc k) = refl
rows_step layout number before (p ∷ ps) zero =
    let same : number ≡ number + 0 = omega arith in
    append-nil (rows_there layout number before p) ∙ ap (λ n. rows_there layout n before p) same
rows_step layout number before (p ∷ ps) (suc k) =
    let next = number + length (own_line p) in
    let more = behind_point layout number before p in
    let both = length-append (own_line p) (generated (take k ps)) in
    let same : next + length (generated (take k ps)) ≡ number + length (own_line p ++ generated (take k ps)) = omega (arith, both) in
    ap (λ rs. rows_there layout number before p ++ rs)
    (rows_step layout next more ps k
    ∙ ap (λ n. rows_from layout next more (take k ps) ++ option_map_or (rows_there layout n (behind_all layout next more (take k ps))) (slice_get ps k) []) same)
    ∙ sym (append_assoc (rows_there layout number before p) (rows_from layout next more (take k ps))
    (option_map_or (rows_there layout (number + length (own_line p ++ generated (take k ps))) (behind_all layout next more (take k ps))) (slice_get ps k) []))

rows_from-more : (layout : Layout) (number before : ℕ) (ps : List (Point TraceItem)) (k : ℕ) →
    rows_from layout number before (take (k + 1) ps)
    ≡ rows_from layout number before (take k ps)
    ++ option_map_or (rows_there layout (number + length (generated (take k ps))) (behind_all layout number before (take k ps))) (slice_get ps k) []
rows_from-more layout number before ps k =
    let same : k + 1 ≡ suc k = omega arith in
    ap (λ n. rows_from layout number before (take n ps)) same ∙ rows_step layout number before ps k

pub rows_from-next : (layout : Layout) (ps : List (Point TraceItem)) (k : ℕ) →
    rows_from layout 0 0 (take (k + 1) ps)
    ≡ rows_from layout 0 0 (take k ps)
    ++ option_map_or (rows_there layout (length (generated (take k ps))) (behind_all layout 0 0 (take k ps))) (slice_get ps k) []
rows_from-next layout ps k =
    let same : 0 + length (generated (take k ps)) ≡ length (generated (take k ps)) = omega arith in
    rows_from-more layout 0 0 ps k
    ∙ ap (λ n. rows_from layout 0 0 (take k ps) ++ option_map_or (rows_there layout n (behind_all layout 0 0 (take k ps))) (slice_get ps k) []) same

-- how many symbols there are behind one point more
behind_step : (layout : Layout) (number before : ℕ) (ps : List (Point TraceItem)) (k : ℕ) →
    behind_all layout number before (take (suc k) ps)
    ≡ option_map_or (behind_point layout (number + length (generated (take k ps))) (behind_all layout number before (take k ps))) (slice_get ps k)
    (behind_all layout number before (take k ps))
behind_step layout number before [] zero = refl
behind_step layout number before [] (suc k) = refl
behind_step layout number before (p ∷ ps) zero =
    let same : number ≡ number + 0 = omega arith in
    ap (λ n. behind_point layout n before p) same
behind_step layout number before (p ∷ ps) (suc k) =
    let next = number + length (own_line p) in
    let more = behind_point layout number before p in
    let both = length-append (own_line p) (generated (take k ps)) in
    let same : next + length (generated (take k ps)) ≡ number + length (own_line p ++ generated (take k ps)) = omega (arith, both) in
    behind_step layout next more ps k
    ∙ ap (λ n. option_map_or (behind_point layout n (behind_all layout next more (take k ps))) (slice_get ps k) (behind_all layout next more (take k ps))) same

behind_all-more : (layout : Layout) (number before : ℕ) (ps : List (Point TraceItem)) (k : ℕ) →
    behind_all layout number before (take (k + 1) ps)
    ≡ option_map_or (behind_point layout (number + length (generated (take k ps))) (behind_all layout number before (take k ps))) (slice_get ps k)
    (behind_all layout number before (take k ps))
behind_all-more layout number before ps k =
    let same : k + 1 ≡ suc k = omega arith in
    ap (λ n. behind_all layout number before (take n ps)) same ∙ behind_step layout number before ps k

pub behind_all-next : (layout : Layout) (ps : List (Point TraceItem)) (k : ℕ) →
    behind_all layout 0 0 (take (k + 1) ps)
    ≡ option_map_or (behind_point layout (length (generated (take k ps))) (behind_all layout 0 0 (take k ps))) (slice_get ps k)
    (behind_all layout 0 0 (take k ps))
behind_all-next layout ps k =
    let same : 0 + length (generated (take k ps)) ≡ length (generated (take k ps)) = omega arith in
    behind_all-more layout 0 0 ps k
    ∙ ap (λ n. option_map_or (behind_point layout n (behind_all layout 0 0 (take k ps))) (slice_get ps k) (behind_all layout 0 0 (take k ps))) same

-- where there is an item, what its point leaves is told by the item
pub behind_there : (layout : Layout) (number before : ℕ) (o : Option (Point TraceItem)) (item : TraceItem) → option_map own_item o ≡ Some item
    → symbols_behind (statement_of layout number item.line) before ≡ option_map_or (behind_point layout number before) o before
behind_there layout number before None item is = absurd (none-some item is)
behind_there layout number before (Some p) item is =
    let same : p.item ≡ item = ap (λ o. unwrap_or o item) is in
    ap (λ (i : TraceItem). symbols_behind (statement_of layout number i.line) before) (sym same)

-- and its rows
pub rows_told : (layout : Layout) (number before behind : ℕ) (o : Option (Point TraceItem)) (item : TraceItem) → option_map own_item o ≡ Some item
    → behind ≡ symbols_behind (statement_of layout number item.line) before
    → option_map_or (λ point. rows_between layout.symbols (stack_of point) before behind) o [] ≡ option_map_or (rows_there layout number before) o []
rows_told layout number before behind None item is told = absurd (none-some item is)
rows_told layout number before behind (Some p) item is told =
    let same : p.item ≡ item = ap (λ o. unwrap_or o item) is in
    ap (λ n. rows_between layout.symbols (stack_of p) before n) told
    ∙ ap (λ (i : TraceItem). rows_between layout.symbols (stack_of p) before (symbols_behind (statement_of layout number i.line) before)) (sym same)
