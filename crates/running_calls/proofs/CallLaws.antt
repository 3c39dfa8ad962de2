-- The calls of levels, as they are kept.
use Rattle.std.proofs.Common.{◌≡◌, ◌∙◌, ◌+◌, ◌-◌, ◌<◌, ◌≤◌, ◌⊎◌, inl, inr, ℕ, zero, suc, List, [], ◌∷◌, ◌++◌, length, take, replicate, Option, Some, None, refl, sym, ap, arith, append_assoc, append-nil}
use Rattle.std.proofs.lemmas.Bool.{cases_lt}
use Rattle.std.proofs.lemmas.List.{replicate_more}
use Rattle.hl_base.specs.declared.place.Origin.{Origin}
use Rattle.trace_values.specs.declared.item.TraceItem.{TraceItem}
use Rattle.variable_meanings.specs.Meanings.{Call}
use Rattle.running_calls.specs.Calls.{held, met, outside, padded, place_of, variables_or}
use Rattle.running_calls.specs.declared.calls.RunningCall.{RunningCall}

-- the level of the call that was put behind the outer ones, and those outside and within it
pub held-here : (calls : List (Option RunningCall)) (n : ℕ) (x : RunningCall) → held (outside calls n ++ Some x ∷ []) n ≡ Some x
held-here calls zero x = refl
held-here [] (suc n) x = held-here [] n x
held-here (c ∷ cs) (suc n) x = held-here cs n x

pub held-inside : (calls : List (Option RunningCall)) (n level : ℕ) (x : RunningCall) → level < n →
    held (outside calls n ++ Some x ∷ []) level ≡ held calls level
held-inside calls zero level x below = absurd (omega arith)
held-inside [] (suc n) zero x below = refl
held-inside [] (suc n) (suc level) x below = held-inside [] n level x (omega arith)
held-inside (c ∷ cs) (suc n) zero x below = refl
held-inside (c ∷ cs) (suc n) (suc level) x below = held-inside cs n level x (omega arith)

pub held-within : (calls : List (Option RunningCall)) (n level : ℕ) (x : RunningCall) → n < level →
    held (outside calls n ++ Some x ∷ []) level ≡ None
held-within calls zero zero x above = absurd (omega arith)
held-within calls zero (suc level) x above = refl
held-within calls (suc n) zero x above = absurd (omega arith)
held-within [] (suc n) (suc level) x above = held-within [] n level x (omega arith)
held-within (c ∷ cs) (suc n) (suc level) x above = held-within cs n level x (omega arith)

abbrev nothing : Option RunningCall
nothing = None

nones : (n : ℕ) → replicate n nothing ≡ outside [] n
nones zero = refl
nones (suc n) = ap (λ (rest : List (Option RunningCall)). None ∷ rest) (nones n)

padded-none : (n : ℕ) → padded n (take n []) ≡ outside [] n
padded-none zero = refl
padded-none (suc n) =
    let all : suc n - 0 ≡ suc n = omega arith in
    ap (λ (k : ℕ). replicate k nothing) all ∙ nones (suc n)

-- the front of the calls with none for each level that has none
pub padded-take : (calls : List (Option RunningCall)) (n : ℕ) → padded n (take n calls) ≡ outside calls n
padded-take [] n = padded-none n
padded-take (c ∷ cs) zero = refl
padded-take (c ∷ cs) (suc n) =
    let left : suc n - suc (length (take n cs)) ≡ n - length (take n cs) = omega arith in
    ap (λ (k : ℕ). c ∷ (take n cs ++ replicate k nothing)) left ∙ ap (λ (rest : List (Option RunningCall)). c ∷ rest) (padded-take cs n)

-- none for each level so far, before the first, behind one more, and behind all
pub pad-init : (old : List (Option RunningCall)) (k : ℕ) → k ≡ length old → old ≡ old ++ replicate (k - length old) None
pad-init old k is =
    let no : k - length old ≡ 0 = omega arith in
    sym (ap (λ (m : ℕ). old ++ replicate m nothing) no ∙ append-nil old)

pub pad-more : (old now new : List (Option RunningCall)) (k : ℕ) → length old ≤ k → now ≡ old ++ replicate (k - length old) None →
    new ≡ now ++ None ∷ [] → new ≡ old ++ replicate (k + 1 - length old) None
pad-more old now new k from is put =
    let one : (k - length old) + 1 ≡ k + 1 - length old = omega arith in
    put
    ∙ ap (λ (l : List (Option RunningCall)). l ++ nothing ∷ []) is
    ∙ append_assoc old (replicate (k - length old) nothing) (nothing ∷ [])
    ∙ ap (λ (l : List (Option RunningCall)). old ++ l) (replicate_more (k - length old) nothing)
    ∙ ap (λ (m : ℕ). old ++ replicate m nothing) one

pub pad-end : (old now : List (Option RunningCall)) (k level : ℕ) → level ≤ k → (length old ≤ level → k ≤ level) →
    (level < length old → k ≡ length old) → now ≡ old ++ replicate (k - length old) None → now ≡ padded level old
pad-end old now k level end least most is =
    is ∙ ap (λ (m : ℕ). old ++ replicate m nothing) (as_many (cases_lt level (length old)))
  where
    as_many : (level < length old) ⊎ (length old ≤ level) → k - length old ≡ level - length old
    as_many (inl below) = let same : k ≡ length old = most below in omega arith
    as_many (inr few) = let up : k ≤ level = least few in omega arith

-- ---- a point that is met

abbrev call_of : Call → Origin → RunningCall
call_of variables at = record { variables = variables; at = at }

-- the call that is put behind those outside its level
pub met-is : (old cut filled new : List (Option RunningCall)) (level : ℕ) (item : TraceItem) (here : Option RunningCall)
    (variables : Call) (at : Origin) →
    here ≡ held old level → cut ≡ take level old → filled ≡ padded level cut → variables ≡ variables_or here item → at ≡ place_of item →
    new ≡ filled ++ Some (record { variables = variables; at = at }) ∷ [] → new ≡ met old level item
met-is old cut filled new level item here variables at taken is fills meant stands put =
    put
    ∙ ap (λ (calls : List (Option RunningCall)). calls ++ Some (call_of variables at) ∷ []) (fills ∙ ap (padded level) is ∙ padded-take old level)
    ∙ ap (λ (v : Call). outside old level ++ Some (call_of v at) ∷ [])
    (meant ∙ ap (λ (h : Option RunningCall). variables_or h item) taken)
    ∙ ap (λ (a : Origin). outside old level ++ Some (call_of (variables_or (held old level) item) a) ∷ []) stands
