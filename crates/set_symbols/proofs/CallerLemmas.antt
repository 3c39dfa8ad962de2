-- What a caller has of a table after a call: what was declared or set is found, and the rest stands.
use Rattle.std.proofs.Common.{◌≡◌, ◌≢◌, ℕ, Bool, true, false, cond, List, [], ◌∷◌, ◌++◌, Option, Some, None, refl, sym, ap, subst, ◌∙◌, unwrap_or, arith}
use Rattle.std.specs.Ordering.{nat_cmp, eq_by_cmp}
use Rattle.std.specs.Option.{option_map}
use Rattle.std.specs.Str.{bytes_eq}
use Rattle.std.specs.Cmp.{nat_cmp_total, unsigned_tied}
use Rattle.std.specs.FinMap as finite
use Rattle.std.specs.FinMap.{get-insert, get-empty}
use Rattle.std.proofs.lemmas.Slice.Eq.{bytes_eq-Decides}
use Rattle.hl_base.specs.declared.set.SetValue.{SetValue}
use Rattle.set_symbols.specs.declared.symbol.Declared.{Declared}
use Rattle.set_symbols.proofs.TableLemmas.{none_of_map}
use Rattle.set_symbols.specs.Laws.{DeclaredSymbolIsUnset, OtherSymbolsStand, SetValueIsHeld, OtherValuesStand}
use Rattle.set_symbols.specs.Table.{Table, Symbol, symbol_of, declared_of, value_of, value_at, with_symbol, put, holding, fresh, local_of, unset}

bytes_eq-same : (bytes : List ℕ) → bytes_eq bytes bytes ≡ true
bytes_eq-same bytes = (bytes_eq-Decides bytes bytes).1 refl

by_truth : (b : Bool) → (b ≡ true → b ≡ false) → b ≡ false
by_truth true not = not refl
by_truth false not = refl

bytes_eq-other : (other name : List ℕ) → ¬ (other ≡ name) → bytes_eq other name ≡ false
bytes_eq-other other name differ = by_truth (bytes_eq other name) (λ is. absurd (differ ((bytes_eq-Decides other name).0 is)))

found_step : (new symbol : Symbol) (rest : Table) (b : Bool) → bytes_eq new.name symbol.name ≡ b →
    symbol_of (with_symbol rest new) new.name ≡ Some new → symbol_of (with_symbol (symbol ∷ rest) new) new.name ≡ Some new
found_step new symbol rest true is further =
    ap (λ b. symbol_of (cond b (new ∷ rest) (symbol ∷ with_symbol rest new)) new.name) is
    ∙ ap (λ b. cond b (Some new) (symbol_of rest new.name)) (bytes_eq-same new.name)
found_step new symbol rest false is further =
    ap (λ b. symbol_of (cond b (new ∷ rest) (symbol ∷ with_symbol rest new)) new.name) is
    ∙ ap (λ b. cond b (Some symbol) (symbol_of (with_symbol rest new) new.name)) is
    ∙ further

-- the symbol that was written is found
pub symbol_of-with_symbol : (table : Table) (new : Symbol) → symbol_of (with_symbol table new) new.name ≡ Some new
symbol_of-with_symbol [] new = ap (λ b. cond b (Some new) None) (bytes_eq-same new.name)
symbol_of-with_symbol (symbol ∷ rest) new =
    found_step new symbol rest (bytes_eq new.name symbol.name) refl (symbol_of-with_symbol rest new)

other_step : (new symbol : Symbol) (rest : Table) (other : List ℕ) (b : Bool) → bytes_eq new.name symbol.name ≡ b → ¬ (other ≡ new.name) →
    symbol_of (with_symbol rest new) other ≡ symbol_of rest other →
    symbol_of (with_symbol (symbol ∷ rest) new) other ≡ symbol_of (symbol ∷ rest) other
other_step new symbol rest other true is differ further =
    ap (λ b. symbol_of (cond b (new ∷ rest) (symbol ∷ with_symbol rest new)) other) is
    ∙ ap (λ b. cond b (Some new) (symbol_of rest other)) (bytes_eq-other other new.name differ)
    ∙ sym (ap (λ b. cond b (Some symbol) (symbol_of rest other)) (bytes_eq-other other symbol.name (λ same. differ (same ∙ sym ((bytes_eq-Decides new.name symbol.name).0 is)))))
other_step new symbol rest other false is differ further =
    ap (λ b. symbol_of (cond b (new ∷ rest) (symbol ∷ with_symbol rest new)) other) is
    ∙ ap (cond (bytes_eq other symbol.name) (Some symbol)) further

-- every other symbol stands
pub symbol_of-with_symbol-other : (table : Table) (new : Symbol) (other : List ℕ) → ¬ (other ≡ new.name) →
    symbol_of (with_symbol table new) other ≡ symbol_of table other
symbol_of-with_symbol-other [] new other differ = ap (λ b. cond b (Some new) None) (bytes_eq-other other new.name differ)
symbol_of-with_symbol-other (symbol ∷ rest) new other differ =
    other_step new symbol rest other (bytes_eq new.name symbol.name) refl differ (symbol_of-with_symbol-other rest new other differ)

push_step : (b : Bool) (symbol : Symbol) (x y z : Option Symbol) → x ≡ unwrap_or (option_map Some y) z →
    cond b (Some symbol) x ≡ unwrap_or (option_map Some (cond b (Some symbol) y)) z
push_step true symbol x y z is = refl
push_step false symbol x y z is = is

-- the symbol behind those that are there
pub symbol_of-push : (table : Table) (new : Symbol) (name : List ℕ) →
    symbol_of (table ++ new ∷ []) name ≡ unwrap_or (option_map Some (symbol_of table name)) (symbol_of (new ∷ []) name)
symbol_of-push [] new name = refl
symbol_of-push (symbol ∷ rest) new name = push_step (bytes_eq name symbol.name) symbol _ _ _ (symbol_of-push rest new name)

first_of-none : (o : Option Symbol) → unwrap_or (option_map Some o) None ≡ o
first_of-none None = refl
first_of-none (Some symbol) = refl

-- the symbol whose element is set
abbrev base : Table → List ℕ → SetValue → Symbol
base table name held = unwrap_or (symbol_of table name) (fresh name (local_of held))

name_step : (b : Bool) (name : List ℕ) (symbol new : Symbol) (found : Option Symbol) → (b ≡ true → name ≡ symbol.name) →
    (unwrap_or found new).name ≡ name → (unwrap_or (cond b (Some symbol) found) new).name ≡ name
name_step true name symbol new found is further = sym (is refl)
name_step false name symbol new found is further = further

-- a symbol that is found has the name
pub name-symbol_of : (table : Table) (new : Symbol) → (unwrap_or (symbol_of table new.name) new).name ≡ new.name
name-symbol_of [] new = refl
name-symbol_of (symbol ∷ rest) new =
    name_step (bytes_eq new.name symbol.name) new.name symbol new (symbol_of rest new.name) (bytes_eq-Decides new.name symbol.name).0
    (name-symbol_of rest new)

symbol_of-put : (table : Table) (name : List ℕ) (at : ℕ) (held : SetValue) →
    symbol_of (put table name at held) name ≡ Some (holding (base table name held) at held)
symbol_of-put table name at held =
    ap (symbol_of (put table name at held)) (sym (name-symbol_of table (fresh name (local_of held))))
    ∙ symbol_of-with_symbol table (holding (base table name held) at held)

declared-unwrap_or : (found : Option Symbol) (new : Symbol) →
    (unwrap_or found new).declared ≡ unwrap_or (option_map (λ (s : Symbol). s.declared) found) new.declared
declared-unwrap_or None new = refl
declared-unwrap_or (Some symbol) new = refl

value-unwrap_or : (found : Option Symbol) (name : List ℕ) (declared : Declared) (at : ℕ) →
    value_at at (unwrap_or found (fresh name declared)) ≡ unwrap_or (option_map (value_at at) found) (unset declared.kind)
value-unwrap_or None name declared at = ap (λ o. unwrap_or o (unset declared.kind)) (get-empty nat_cmp at)
value-unwrap_or (Some symbol) name declared at = refl

eq_by_cmp-same : (at : ℕ) → eq_by_cmp nat_cmp at at ≡ true
eq_by_cmp-same at = unsigned_tied at at ∙ grind arith

eq_by_cmp-other : (other at : ℕ) → ¬ (other ≡ at) → eq_by_cmp nat_cmp other at ≡ false
eq_by_cmp-other other at differ = unsigned_tied other at ∙ grind (arith, differ)

value_at-holding : (symbol : Symbol) (at : ℕ) (held : SetValue) → value_at at (holding symbol at held) ≡ held
value_at-holding symbol at held =
    ap (λ o. unwrap_or o (unset symbol.declared.kind))
    (get-insert nat_cmp_total symbol.values at held at ∙ ap (λ b. cond b (Some held) (finite.get symbol.values at)) (eq_by_cmp-same at))

value_at-holding-other : (symbol : Symbol) (at other : ℕ) (held : SetValue) → ¬ (other ≡ at) →
    value_at other (holding symbol at held) ≡ value_at other symbol
value_at-holding-other symbol at other held differ =
    ap (λ o. unwrap_or o (unset symbol.declared.kind))
    (get-insert nat_cmp_total symbol.values at held other
    ∙ ap (λ b. cond b (Some held) (finite.get symbol.values other)) (eq_by_cmp-other other at differ))

pub declared_symbol_is_unset : DeclaredSymbolIsUnset
declared_symbol_is_unset table name declared none =
    let found : symbol_of (table ++ fresh name declared ∷ []) name ≡ Some (fresh name declared) =
    symbol_of-push table (fresh name declared) name
    ∙ ap (λ o. unwrap_or (option_map Some o) (symbol_of (fresh name declared ∷ []) name)) (none_of_map (λ (s : Symbol). s.declared) (symbol_of table name) none)
    ∙ ap (λ b. cond b (Some (fresh name declared)) None) (bytes_eq-same name) in (
      ap (option_map (λ (s : Symbol). s.declared)) found,
      (λ at. ap (option_map (value_at at)) found ∙ ap (λ o. Some (unwrap_or o (unset declared.kind))) (get-empty nat_cmp at)),
    )

pub other_symbols_stand : OtherSymbolsStand
other_symbols_stand table name other declared differ =
    symbol_of-push table (fresh name declared) other
    ∙ ap (λ b. unwrap_or (option_map Some (symbol_of table other)) (cond b (Some (fresh name declared)) None)) (bytes_eq-other other name differ)
    ∙ first_of-none (symbol_of table other)

pub set_value_is_held : SetValueIsHeld
set_value_is_held table name at held = (
  ap (option_map (value_at at)) (symbol_of-put table name at held) ∙ ap Some (value_at-holding (base table name held) at held),
  ap (option_map (λ (s : Symbol). s.declared)) (symbol_of-put table name at held)
      ∙ ap Some (declared-unwrap_or (symbol_of table name) (fresh name (local_of held))),
)

pub other_values_stand : OtherValuesStand
other_values_stand table name at held = (
  (λ other differ.
      ap (option_map (value_at other)) (symbol_of-put table name at held)
      ∙ ap Some (value_at-holding-other (base table name held) at other held differ
      ∙ value-unwrap_or (symbol_of table name) name (local_of held) other)),
  (λ other differ. symbol_of-with_symbol-other table (holding (base table name held) at held) other
      (λ same. differ (same ∙ name-symbol_of table (fresh name (local_of held))))),
)
