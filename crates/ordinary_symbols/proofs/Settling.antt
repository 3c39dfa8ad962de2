-- What the code does to its rows, as tries and rounds of the table.
use Rattle.std.proofs.Common.{◌≡◌, ℕ, zero, suc, ◌+◌, ◌-◌, ◌<◌, ◌≤◌, Bool, true, false, if◌then◌else◌, List, [], ◌∷◌, ◌++◌, length, Option, Some, None, refl, sym, ap, add-one, subst, ◌∙◌, set, slice_get, get_or, take, drop, arith, map, IfSome}
use Rattle.std.specs.Prelude.{Result}
use Rattle.trace_values.specs.declared.section.Reloc.{Reloc}
use Rattle.ordinary_symbols.specs.declared.fault.EvalFault.{EvalFault}
use Rattle.ordinary_symbols.specs.declared.held.Held.{Held}
use Rattle.std.proofs.lemmas.List.{map-set, length-map, take_all, drop_all, append-nil, drop_more, take_more_set, drop-set-lt, append_assoc, length-set}
use Rattle.std.proofs.lemmas.Option.{get_or_from_slice_get, slice_get_within, slice_get-get_or}
use Rattle.ordinary_symbols.specs.Table.{Table, Entry, known, name_of}
use Rattle.ordinary_symbols.specs.Views.{entry_of, standing_of, names_of}
use Rattle.ordinary_symbols.specs.Rounds.{is_ready, settled, settled_by, tried, tried_from, round, rounds, resolved}
use Rattle.ordinary_symbols.proofs.Lists.{set-slice_get, slice_get-map}
use Rattle.ordinary_symbols.proofs.Tries.{tried-name, tried-unready}
use Rattle.ordinary_symbols.proofs.Endings.{rounds-still, resolved-tried}

split_at : (t : Table) (k : ℕ) (e : Entry) → slice_get t k ≡ Some e → t ≡ take k t ++ e ∷ drop (suc k) t
split_at [] k e at = absurd cc
split_at (x ∷ t) zero e at = let one : x ≡ e = cc in ap (λ y. y ∷ t) one
split_at (x ∷ t) (suc k) e at = ap (λ rest. x ∷ rest) (split_at t k e at)

-- a round that has come so far, one symbol on
pub turn_more : (t : Table) (k : ℕ) (e : Entry) → slice_get t k ≡ Some e →
    tried_from (take (k + 1) (set t k (tried (known t) e))) (drop (k + 1) (set t k (tried (known t) e))) ≡ tried_from (take k t) (drop k t)
turn_more t k e at =
    let inside : k < length t = slice_get_within t k e at in
    let now = tried (known t) e in
    let here : drop k t ≡ e ∷ drop (k + 1) t = drop_more t k e inside ∙ ap (λ x. x ∷ drop (k + 1) t) (get_or_from_slice_get t k e e at) in
    let whole : t ≡ take k t ++ e ∷ drop (k + 1) t = split_at t k e at ∙ ap (λ n. take k t ++ e ∷ drop n t) (sym (add-one k)) in
    ap (λ before. tried_from before (drop (k + 1) (set t k now))) (take_more_set t k now inside)
    ∙ ap (tried_from (take k t ++ now ∷ [])) (drop-set-lt (k + 1) t k now (omega arith))
    ∙ ap (λ u. tried_from (take k t ++ tried (known u) e ∷ []) (drop (k + 1) t)) whole
    ∙ sym (ap (tried_from (take k t)) here)

-- a round that has come to the end
pub turn_all : (t : Table) (k : ℕ) → length t ≤ k → tried_from (take k t) (drop k t) ≡ t
turn_all t k past = ap (tried_from (take k t)) (drop_all k t past) ∙ take_all k t past

by_some : {X : Type 0} (o : Option X) (P : X → Type 0) (x : X) → o ≡ Some x → IfSome o P → P x
by_some None P x is holds = absurd cc
by_some (Some y) P x is holds = let same : y ≡ x = cc in subst P same holds

pub if_some : {X : Type 0} (o : Option X) (P : X → Type 0) (x : X) → o ≡ Some x → P x → IfSome o P
if_some None P x is holds = absurd cc
if_some (Some y) P x is holds = let same : x ≡ y = cc in subst P same holds

none_past : (xs : Table) (i : ℕ) → slice_get xs i ≡ None → length xs ≤ i
none_past [] i none = omega arith
none_past (x ∷ xs) zero none = absurd cc
none_past (x ∷ xs) (suc i) none = let more = none_past xs i none in omega arith

-- one symbol more was tried in a round
pub turn_step : (t u : Table) (k : ℕ) → k < length t → IfSome (slice_get t k) (λ e. u ≡ set t k (tried (known t) e)) →
    (tried_from (take (k + 1) u) (drop (k + 1) u) ≡ tried_from (take k t) (drop k t)) × (length u ≡ length t)
turn_step t u k inside is = by (slice_get t k) refl
  where
    by : (o : Option Entry) → slice_get t k ≡ o → (tried_from (take (k + 1) u) (drop (k + 1) u) ≡ tried_from (take k t) (drop k t)) × (length u ≡ length t)
    by None at = let far : length t ≤ k = none_past t k at in absurd (omega arith)
    by (Some e) at =
        let now : u ≡ set t k (tried (known t) e) = by_some (slice_get t k) (λ x. u ≡ set t k (tried (known t) x)) e at is in
        (ap (λ x. tried_from (take (k + 1) x) (drop (k + 1) x)) now ∙ turn_more t k e at, ap length now ∙ length-set t k (tried (known t) e))

-- one round more
pub rounds_step : (left : ℕ) (t : Table) → 0 < left → rounds left t ≡ rounds (left - 1) (round t)
rounds_step zero t some = absurd (omega arith)
rounds_step (suc left) t some = ap (λ n. rounds n (round t)) (let same : left ≡ suc left - 1 = omega arith in same)

-- a round that settled nothing is the last
pub rounds_last : (left : ℕ) (t : Table) → round t ≡ t → rounds left t ≡ t
rounds_last left t still = rounds-still left t still

-- no round is left
pub rounds_done : (left : ℕ) (t : Table) → left ≤ 0 → rounds left t ≡ t
rounds_done zero t none = refl
rounds_done (suc left) t none = absurd (omega arith)

-- as many rounds as rows
pub rounds_all : (n : ℕ) (rows : List Held) → n ≡ length rows → rounds n (map entry_of rows) ≡ resolved (map entry_of rows)
rounds_all n rows is = ap (λ m. rounds m (map entry_of rows)) (is ∙ sym (length-map rows entry_of))

-- a symbol that is read at a place
pub held_at : (rows : List Held) (k : ℕ) (held : Held) → k < length (map entry_of rows) → held ≡ get_or rows k held →
    slice_get (map entry_of rows) k ≡ Some (entry_of held)
held_at rows k held inside read =
    let within : k < length rows = let same = length-map rows entry_of in omega arith in
    slice_get-map entry_of rows k held (slice_get-get_or rows k held within ∙ ap Some (sym read))

-- what is read twice is the same
read_twice : (rows : List Held) (k : ℕ) (held again : Held) → k < length (map entry_of rows) → held ≡ get_or rows k held → again ≡ get_or rows k again → again ≡ held
read_twice rows k held again inside read reread =
    let within : k < length rows = let same = length-map rows entry_of in omega arith in
    let one : Some again ≡ Some held = ap Some reread ∙ sym (slice_get-get_or rows k again within) ∙ slice_get-get_or rows k held within ∙ ap Some (sym read) in cc

-- a symbol that was settled is what it is when it is tried
pub now_tried : (rows : List Held) (k : ℕ) (held again now : Held) (sized : Bool) (n : ℕ) (r : Result Reloc EvalFault) →
    k < length (map entry_of rows) → held ≡ get_or rows k held → again ≡ get_or rows k again →
    is_ready (known (map entry_of rows)) (standing_of held.standing) ≡ true →
    settled held.row sized n r ≡ settled_by (known (map entry_of rows)) (standing_of held.standing) held.row →
    entry_of now ≡ settled again.row sized n r → entry_of now ≡ tried (known (map entry_of rows)) (entry_of held)
now_tried rows k held again now sized n r inside read reread ready is settles =
    settles
    ∙ ap (λ (h : Held). settled h.row sized n r) (read_twice rows k held again inside read reread)
    ∙ is
    ∙ sym (ap (λ b. if b then settled_by (known (map entry_of rows)) (standing_of held.standing) held.row else entry_of held) ready)

-- the table after a symbol was settled
pub table_settled : (rows : List Held) (k : ℕ) (held now : Held) → entry_of now ≡ tried (known (map entry_of rows)) (entry_of held) →
    map entry_of (set rows k now) ≡ set (map entry_of rows) k (tried (known (map entry_of rows)) (entry_of held))
table_settled rows k held now is = map-set entry_of rows k now ∙ ap (set (map entry_of rows) k) is

-- its names are what they were
pub names_settled : (rows : List Held) (k : ℕ) (held now : Held) → k < length (map entry_of rows) → held ≡ get_or rows k held →
    entry_of now ≡ tried (known (map entry_of rows)) (entry_of held) → names_of (set rows k now) ≡ names_of rows
names_settled rows k held now inside read is =
    let within : k < length rows = let same = length-map rows entry_of in omega arith in
    let name : now.row.name ≡ held.row.name = ap name_of is ∙ tried-name (known (map entry_of rows)) (entry_of held) in
    map-set (λ (h : Held). h.row.name) rows k now
    ∙ ap (set (names_of rows) k) name
    ∙ set-slice_get (names_of rows) k held.row.name (slice_get-map (λ (h : Held). h.row.name) rows k held (slice_get-get_or rows k held within ∙ ap Some (sym read)))

-- a symbol that is not ready stays
pub table_unready : (rows : List Held) (k : ℕ) (held : Held) → k < length (map entry_of rows) → held ≡ get_or rows k held →
    is_ready (known (map entry_of rows)) (standing_of held.standing) ≡ false →
    map entry_of rows ≡ set (map entry_of rows) k (tried (known (map entry_of rows)) (entry_of held))
table_unready rows k held inside read unready =
    sym (ap (set (map entry_of rows) k) (tried-unready (known (map entry_of rows)) (entry_of held) unready)
    ∙ set-slice_get (map entry_of rows) k (entry_of held) (held_at rows k held inside read))
