-- What a caller has of a table once a symbol was declared or a value was set (this project).
use Rattle.std.specs.Prelude.{◌≡◌, ℕ, ◌++◌, [], ◌∷◌, List, None, Some, unwrap_or}
use Rattle.hl_base.specs.declared.set.SetValue.{SetValue}
use Rattle.set_symbols.specs.declared.symbol.Declared.{Declared}
use Rattle.set_symbols.specs.Table.{Table, symbol_of, declared_of, value_of, value_at, fresh, local_of, put, unset}

-- a symbol that was declared is found as it was declared, and each place of it holds nothing
abbrev pub DeclaredSymbolIsUnset : Type 0
DeclaredSymbolIsUnset = (table : Table) (name : List ℕ) (declared : Declared) → declared_of table name ≡ None →
    (declared_of (table ++ fresh name declared ∷ []) name ≡ Some declared)
    × ((at : ℕ) → value_of (table ++ fresh name declared ∷ []) name at ≡ Some (unset declared.kind))

-- every other symbol is what it was
abbrev pub OtherSymbolsStand : Type 0
OtherSymbolsStand = (table : Table) (name other : List ℕ) (declared : Declared) → ¬ (other ≡ name) →
    symbol_of (table ++ fresh name declared ∷ []) other ≡ symbol_of table other

-- a value that was set is what the place holds; the symbol stays as it was declared, and one that was not is local
abbrev pub SetValueIsHeld : Type 0
SetValueIsHeld = (table : Table) (name : List ℕ) (at : ℕ) (held : SetValue) →
    (value_of (put table name at held) name at ≡ Some held)
    × (declared_of (put table name at held) name ≡ Some (unwrap_or (declared_of table name) (local_of held)))

-- every other place of the symbol holds what it held, and every other symbol is what it was
abbrev pub OtherValuesStand : Type 0
OtherValuesStand = (table : Table) (name : List ℕ) (at : ℕ) (held : SetValue) →
    ((other : ℕ) → ¬ (other ≡ at) → value_of (put table name at held) name other
    ≡ Some (unwrap_or (value_of table name other) (unset (local_of held).kind)))
    × ((other : List ℕ) → ¬ (other ≡ name) → symbol_of (put table name at held) other ≡ symbol_of table other)
