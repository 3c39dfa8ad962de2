-- What trying one symbol does, under more or less that is known.
use Rattle.std.proofs.Common.{◌≡◌, ◌≢◌, ℕ, ◌+◌, ◌<◌, ◌≤◌, ◌⊎◌, inl, inr, Bool, true, false, cond, List, [], ◌∷◌, Option, Some, None, Result, Ok, Err, refl, sym, ap, subst, ◌∙◌}
use Rattle.std.specs.Option.{is_none, option_map}
use Rattle.trace_values.specs.declared.section.Reloc.{Reloc}
use Rattle.trace_values.specs.declared.symbol_row.SymbolRow.{SymbolRow}
use Rattle.expression_grammar.specs.Trees.{Tree}
use Rattle.ordinary_symbols.specs.declared.fault.EvalFault.{EvalFault}
use Rattle.ordinary_symbols.specs.declared.known.Known.{Known}
use Rattle.ordinary_symbols.specs.Known.{Knowledge, first_unknown, equated_length}
use Rattle.ordinary_symbols.specs.Table.{Table, Entry, Standing, Settled, Deferred, Faulty, name_of, known_of, known_at}
use Rattle.ordinary_symbols.specs.Values.{value}
use Rattle.ordinary_symbols.specs.Rounds.{settled, is_ready, settled_by, tried}
use Rattle.ordinary_symbols.proofs.Agreement.{Agree, Below, ready_agrees, value-agree, equated_length-agree}

-- an entry is deferred
abbrev pub waits : Standing → ℕ
waits (Deferred sized tree here) = 1
waits Settled = 0
waits Faulty = 0

by_none : {X : Type 0} (o : Option X) → is_none o ≡ true → o ≡ None
by_none None is = refl
by_none (Some x) is = absurd cc

pub tried-unready : (k : Knowledge) (e : Entry) → is_ready k e.standing ≡ false → tried k e ≡ e
tried-unready k e is = ap (λ b. cond b (settled_by k e.standing e.row) e) is

tried-ready : (k : Knowledge) (e : Entry) → is_ready k e.standing ≡ true → tried k e ≡ settled_by k e.standing e.row
tried-ready k e is = ap (λ b. cond b (settled_by k e.standing e.row) e) is

settled-name : (row : SymbolRow) (sized : Bool) (n : ℕ) (r : Result Reloc EvalFault) → (settled row sized n r).row.name ≡ row.name
settled-name row sized n (Ok v) = refl
settled-name row sized n (Err fault) = refl

settled-waits : (row : SymbolRow) (sized : Bool) (n : ℕ) (r : Result Reloc EvalFault) → waits (settled row sized n r).standing ≡ 0
settled-waits row sized n (Ok v) = refl
settled-waits row sized n (Err fault) = refl

settled_by-name : (k : Knowledge) (standing : Standing) (row : SymbolRow) → (settled_by k standing row).row.name ≡ row.name
settled_by-name k (Deferred sized tree here) row = settled-name row sized (equated_length k tree) (value k here tree)
settled_by-name k Settled row = refl
settled_by-name k Faulty row = refl

ready-waits : (k : Knowledge) (standing : Standing) (row : SymbolRow) → is_ready k standing ≡ true →
    (waits standing ≡ 1) × (waits (settled_by k standing row).standing ≡ 0)
ready-waits k (Deferred sized tree here) row is = (refl, settled-waits row sized (equated_length k tree) (value k here tree))
ready-waits k Settled row is = absurd cc
ready-waits k Faulty row is = absurd cc

-- a symbol that is tried keeps its name
pub tried-name : (k : Knowledge) (e : Entry) → name_of (tried k e) ≡ name_of e
tried-name k e = by (is_ready k e.standing) refl
  where
    by : (b : Bool) → is_ready k e.standing ≡ b → name_of (tried k e) ≡ name_of e
    by true is = ap name_of (tried-ready k e is) ∙ settled_by-name k e.standing e.row
    by false is = ap name_of (tried-unready k e is)

-- a symbol that is tried stays, or is deferred no longer
pub tried-cases : (k : Knowledge) (e : Entry) → (tried k e ≡ e) ⊎ ((waits e.standing ≡ 1) × (waits (tried k e).standing ≡ 0))
tried-cases k e = by (is_ready k e.standing) refl
  where
    by : (b : Bool) → is_ready k e.standing ≡ b → (tried k e ≡ e) ⊎ ((waits e.standing ≡ 1) × (waits (tried k e).standing ≡ 0))
    by true is =
        let both = ready-waits k e.standing e.row is in
        inr (both.0, ap (λ (x : Entry). waits x.standing) (tried-ready k e is) ∙ both.1)
    by false is = inl (tried-unready k e is)

ready-more : (k l : Knowledge) (standing : Standing) → Below k l → is_ready k standing ≡ true → is_ready l standing ≡ true
ready-more k l (Deferred sized tree here) below is = ap is_none (ready_agrees k l tree below (by_none (first_unknown k tree) is)).1
ready-more k l Settled below is = absurd cc
ready-more k l Faulty below is = absurd cc

ready-same : (k l : Knowledge) (standing : Standing) (row : SymbolRow) → Below k l → is_ready k standing ≡ true →
    settled_by k standing row ≡ settled_by l standing row
ready-same k l (Deferred sized tree here) row below is =
    let agree = (ready_agrees k l tree below (by_none (first_unknown k tree) is)).0 in
    ap (λ n. settled row sized n (value k here tree)) (equated_length-agree k l tree agree)
    ∙ ap (λ r. settled row sized (equated_length l tree) r) (value-agree k l here tree agree)
ready-same k l Settled row below is = absurd cc
ready-same k l Faulty row below is = absurd cc

-- where more is known, a symbol that is tried comes to the same, unless it only stays
pub tried-more : (k l : Knowledge) (e : Entry) → Below k l → (tried k e ≡ e) ⊎ (tried k e ≡ tried l e)
tried-more k l e below = by (is_ready k e.standing) refl
  where
    by : (b : Bool) → is_ready k e.standing ≡ b → (tried k e ≡ e) ⊎ (tried k e ≡ tried l e)
    by true is =
        inr (tried-ready k e is ∙ ready-same k l e.standing e.row below is ∙ sym (tried-ready l e (ready-more k l e.standing below is)))
    by false is = inl (tried-unready k e is)

unready : (k : Knowledge) (standing : Standing) → waits standing ≡ 0 → is_ready k standing ≡ false
unready k (Deferred sized tree here) is = absurd cc
unready k Settled is = refl
unready k Faulty is = refl

-- what is deferred no longer stays
pub tried-settled : (k : Knowledge) (e : Entry) → waits e.standing ≡ 0 → tried k e ≡ e
tried-settled k e is = tried-unready k e (unready k e.standing is)

-- a symbol that was tried where more was known stays
pub tried-again : (k l : Knowledge) (e : Entry) → Below k l → tried k (tried l e) ≡ tried l e
tried-again k l e below = by (tried-cases l e)
  where
    by : (tried l e ≡ e) ⊎ ((waits e.standing ≡ 1) × (waits (tried l e).standing ≡ 0)) → tried k (tried l e) ≡ tried l e
    by (inr (was, now)) = tried-settled k (tried l e) now
    by (inl stays) = ap (tried k) stays ∙ less (tried-more k l e below) ∙ sym stays
      where
        less : (tried k e ≡ e) ⊎ (tried k e ≡ tried l e) → tried k e ≡ e
        less (inl is) = is
        less (inr is) = is ∙ stays

known-waits : (standing : Standing) (row : SymbolRow) (x : Known) → known_of standing row ≡ Some x → waits standing ≡ 0
known-waits Settled row x is = refl
known-waits (Deferred sized tree here) row x is = absurd cc
known-waits Faulty row x is = refl

-- a symbol of which something is known stays
pub tried-known : (k : Knowledge) (e : Entry) (x : Known) → known_at (Some e) ≡ Some x → tried k e ≡ e
tried-known k e x is = tried-settled k e (known-waits e.standing e.row x is)
