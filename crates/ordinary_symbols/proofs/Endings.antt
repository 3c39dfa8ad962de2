-- After as many rounds as there are symbols nothing is left to settle; and what was tried before changes nothing.
use Rattle.std.proofs.Common.{◌≡◌, ℕ, zero, suc, ◌+◌, ◌<◌, ◌≤◌, ◌⊎◌, inl, inr, List, [], ◌∷◌, ◌++◌, length, Option, Some, None, refl, sym, ap, subst, ◌∙◌, set, slice_get, get_or, take, drop, arith, append_assoc}
use Rattle.std.proofs.lemmas.List.{append-nil, set_at}
use Rattle.ordinary_symbols.specs.Table.{Table, Entry, Standing, Settled, Deferred, Faulty, known}
use Rattle.ordinary_symbols.specs.Rounds.{tried, tried_from, round, rounds, resolved}
use Rattle.ordinary_symbols.proofs.Lists.{slice_get-middle}
use Rattle.ordinary_symbols.proofs.Tries.{waits, tried-cases}
use Rattle.ordinary_symbols.proofs.Paths.{Reaches, start, then_tried, Closed, reaches-trans, one_end}

-- how many symbols are deferred
abbrev pub deferred_in : Table → ℕ
deferred_in [] = 0
deferred_in (e ∷ es) = waits e.standing + deferred_in es

deferred_in-append : (t u : Table) → deferred_in (t ++ u) ≡ deferred_in t + deferred_in u
deferred_in-append [] u = sym (omega arith)
deferred_in-append (e ∷ es) u = let more = deferred_in-append es u in omega arith

few_waits : (e : Entry) → waits e.standing ≤ 1
few_waits e = by e.standing
  where
    by : (s : Standing) → waits s ≤ 1
    by Settled = omega arith
    by (Deferred sized tree here) = omega arith
    by Faulty = omega arith

few_deferred : (t : Table) → deferred_in t ≤ length t
few_deferred [] = omega arith
few_deferred (e ∷ es) = let more = few_deferred es in let one = few_waits e in omega arith

-- each of these symbols stays when it is tried in a table
abbrev Stay : Table → Table → Type 0
Stay t [] = Unit {0}
Stay t (e ∷ es) = (tried (known t) e ≡ e) × Stay t es

-- symbols that are tried in turn: fewer are deferred, or all stay
abbrev InTurn : (before rest : Table) → Type 0
InTurn before rest = (deferred_in (tried_from before rest) < deferred_in before + deferred_in rest)
    ⊎ ((tried_from before rest ≡ before ++ rest) × Stay (before ++ rest) rest)

first_in_turn : (before : Table) (e : Entry) (rest : Table) → InTurn (before ++ tried (known (before ++ e ∷ rest)) e ∷ []) rest → InTurn before (e ∷ rest)
first_in_turn before e rest others = by (tried-cases (known (before ++ e ∷ rest)) e)
  where
    now : Entry
    now = tried (known (before ++ e ∷ rest)) e

    counted : deferred_in (before ++ now ∷ []) ≡ deferred_in before + waits now.standing
    counted = deferred_in-append before (now ∷ []) ∙ omega arith

    joined : (x : Entry) → (before ++ x ∷ []) ++ rest ≡ before ++ x ∷ rest
    joined x = append_assoc before (x ∷ []) rest

    unchanged : now ≡ e → InTurn (before ++ now ∷ []) rest → InTurn before (e ∷ rest)
    unchanged same (inl less) =
        let alike : waits now.standing ≡ waits e.standing = ap (λ (x : Entry). waits x.standing) same in
        let count = counted in inl (omega arith)
    unchanged same (inr (is, stay)) =
        let whole : (before ++ now ∷ []) ++ rest ≡ before ++ e ∷ rest = joined now ∙ ap (λ x. before ++ x ∷ rest) same in
        inr (is ∙ whole, (same, subst (λ t. Stay t rest) whole stay))

    fewer : waits e.standing ≡ 1 → waits now.standing ≡ 0 → InTurn (before ++ now ∷ []) rest →
        deferred_in (tried_from (before ++ now ∷ []) rest) < deferred_in before + (waits e.standing + deferred_in rest)
    fewer was is (inl less) = let count = counted in omega arith
    fewer was is (inr (same, stay)) =
        let count = counted in
        let all : deferred_in (tried_from (before ++ now ∷ []) rest) ≡ deferred_in (before ++ now ∷ []) + deferred_in rest =
        ap deferred_in same ∙ deferred_in-append (before ++ now ∷ []) rest in omega arith

    by : (now ≡ e) ⊎ ((waits e.standing ≡ 1) × (waits now.standing ≡ 0)) → InTurn before (e ∷ rest)
    by (inl same) = unchanged same others
    by (inr (was, is)) = inl (fewer was is others)

in_turn : (before rest : Table) → InTurn before rest
in_turn before [] = inr (sym (append-nil before), tt)
in_turn before (e ∷ rest) = first_in_turn before e rest (in_turn (before ++ tried (known (before ++ e ∷ rest)) e ∷ []) rest)

stay-closed : (t es : Table) → Stay t es → (k : ℕ) (e : Entry) → slice_get es k ≡ Some e → tried (known t) e ≡ e
stay-closed t [] stay k e at = absurd cc
stay-closed t (x ∷ es) stay zero e at = let one : x ≡ e = cc in sym (ap (tried (known t)) one) ∙ stay.0 ∙ one
stay-closed t (x ∷ es) stay (suc k) e at = stay-closed t es stay.1 k e at

-- a round settles an EQU, or nothing is left to settle
pub round-cases : (t : Table) → (deferred_in (round t) < deferred_in t) ⊎ ((round t ≡ t) × Closed t)
round-cases t = by (in_turn [] t)
  where
    by : (deferred_in (round t) < 0 + deferred_in t) ⊎ ((round t ≡ t) × Stay t t) → (deferred_in (round t) < deferred_in t) ⊎ ((round t ≡ t) × Closed t)
    by (inl less) = inl (omega arith)
    by (inr (same, stay)) = inr (same, stay-closed t t stay)

pub rounds-still : (n : ℕ) (t : Table) → round t ≡ t → rounds n t ≡ t
rounds-still zero t still = refl
rounds-still (suc n) t still = ap (rounds n) still ∙ rounds-still n t still

rounds-closed : (n : ℕ) (t : Table) → deferred_in t ≤ n → Closed (rounds n t)
rounds-closed zero t few = by (round-cases t)
  where
    by : (deferred_in (round t) < deferred_in t) ⊎ ((round t ≡ t) × Closed t) → Closed t
    by (inl less) = absurd (omega arith)
    by (inr (same, closed)) = closed
rounds-closed (suc n) t few = by (λ less. rounds-closed n (round t) less) (round-cases t)
  where
    by : (deferred_in (round t) ≤ n → Closed (rounds n (round t))) → (deferred_in (round t) < deferred_in t) ⊎ ((round t ≡ t) × Closed t) →
        Closed (rounds n (round t))
    by fewer (inl less) = fewer (omega arith)
    by fewer (inr (same, closed)) = subst Closed (sym (rounds-still (suc n) t same)) closed

pub resolved-closed : (t : Table) → Closed (resolved t)
resolved-closed t = rounds-closed (length t) t (few_deferred t)

reaches-turn : (t before rest : Table) → Reaches t (before ++ rest) → Reaches t (tried_from before rest)
reaches-turn t before [] path = subst (Reaches t) (append-nil before) path
reaches-turn t before (e ∷ rest) path =
    let now = tried (known (before ++ e ∷ rest)) e in
    reaches-turn t (before ++ now ∷ []) rest
    (subst (Reaches t) (set_at before e rest now (length before) refl ∙ sym (append_assoc before (now ∷ []) rest))
    (then_tried (before ++ e ∷ rest) (length before) e path (slice_get-middle before rest e)))

reaches-rounds : (n : ℕ) (t u : Table) → Reaches t u → Reaches t (rounds n u)
reaches-rounds zero t u path = path
reaches-rounds (suc n) t u path = reaches-rounds n t (round u) (reaches-turn t [] u path)

pub reaches-resolved : (t : Table) → Reaches t (resolved t)
reaches-resolved t = reaches-rounds (length t) t t start

stay_of : (t es : Table) → ((k : ℕ) (e : Entry) → slice_get es k ≡ Some e → tried (known t) e ≡ e) → Stay t es
stay_of t [] closed = tt
stay_of t (e ∷ es) closed = (closed zero e refl, stay_of t es (λ k. closed (suc k)))

turn-still : (before rest : Table) → Stay (before ++ rest) rest → tried_from before rest ≡ before ++ rest
turn-still before [] stay = sym (append-nil before)
turn-still before (e ∷ rest) stay =
    let now = tried (known (before ++ e ∷ rest)) e in
    let whole : (before ++ now ∷ []) ++ rest ≡ before ++ e ∷ rest = append_assoc before (now ∷ []) rest ∙ ap (λ x. before ++ x ∷ rest) stay.0 in
    turn-still (before ++ now ∷ []) rest (subst (λ t. Stay t rest) (sym whole) stay.1) ∙ whole

-- a further round changes nothing
pub round-resolved : (t : Table) → round (resolved t) ≡ resolved t
round-resolved t = turn-still [] (resolved t) (stay_of (resolved t) (resolved t) (resolved-closed t))

-- what was tried before changes nothing
pub resolved-tried : (t : Table) (k : ℕ) (e : Entry) → slice_get t k ≡ Some e → resolved (set t k (tried (known t) e)) ≡ resolved t
resolved-tried t k e at =
    let next = set t k (tried (known t) e) in
    one_end t (resolved next) (resolved t) (reaches-trans t next (resolved next) (then_tried t k e start at) (reaches-resolved next)) (resolved-closed next)
    (reaches-resolved t) (resolved-closed t)
