-- SET symbols of a macro call or of open code (HLASM Language Reference SC26-4940, "SET symbols").
use Rattle.std.specs.Prelude.{◌≢◌, ℕ, Bool, false, List, [], ◌∷◌, ◌++◌, Option, Some, None, IsSome, find, unwrap_or, if◌then◌else◌}
use Rattle.std.specs.Option.{option_map}
use Rattle.std.specs.Str.{bytes_eq}
use Rattle.std.specs.Ordering.{nat_cmp}
use Rattle.std.specs.FinMap as map
use Rattle.hl_base.specs.declared.set.SetKind.{SetKind}
use Rattle.hl_base.specs.declared.set.SetValue.{SetValue}
pub use Rattle.set_symbols.specs.Kinds.{kind_of, unset, place}
use Rattle.set_symbols.specs.declared.symbol.Declared.{Declared}

-- A symbol: its name, its type, whether it is global, and the values of its elements that were set. Element 0 is the
-- symbol without a subscript.
pub record Symbol : Type 0 where
  pub name : List ℕ
  pub declared : Declared
  pub values : map.FinMap nat_cmp SetValue

-- the symbols in the order of declaration
abbrev pub Table : Type 0
Table = List Symbol

-- the symbol of a name
abbrev pub symbol_of : Table → List ℕ → Option Symbol
symbol_of table name = find (λ symbol. bytes_eq name symbol.name) table

-- how the symbol of a name was declared
abbrev pub declared_of : Table → List ℕ → Option Declared
declared_of table name = option_map (λ (symbol : Symbol). symbol.declared) (symbol_of table name)

-- the table has a symbol of this name
abbrev pub IsDeclared : Table → List ℕ → Type 0
IsDeclared table name = IsSome (symbol_of table name)

-- what a symbol holds at a place
abbrev pub value_at : ℕ → Symbol → SetValue
value_at at symbol = unwrap_or (map.get symbol.values at) (unset symbol.declared.kind)

-- what the symbol of a name holds at a place
abbrev pub value_of : Table → List ℕ → ℕ → Option SetValue
value_of table name at = option_map (value_at at) (symbol_of table name)

-- a symbol that was declared, and holds nothing yet
abbrev pub fresh : List ℕ → Declared → Symbol
fresh name declared = record { name = name; declared = declared; values = map.empty }

-- a symbol after a value was set at a place
abbrev pub holding : Symbol → ℕ → SetValue → Symbol
holding symbol at held = record symbol { values = map.insert symbol.values at held }

-- the table where the symbol of this name is this one: it keeps its place, and a new one goes last
abbrev pub with_symbol : Table → Symbol → Table
with_symbol [] new = new ∷ []
with_symbol (symbol ∷ rest) new = if bytes_eq new.name symbol.name then new ∷ rest else symbol ∷ with_symbol rest new

-- a local symbol of the type of a value
abbrev pub local_of : SetValue → Declared
local_of held = record { kind = kind_of held; global = false }

-- the table after a value was set at a place of the symbol of a name; one that was not there is local, of the value's type
abbrev pub put : Table → List ℕ → ℕ → SetValue → Table
put table name at held =
    with_symbol table (holding (unwrap_or (symbol_of table name) (fresh name (local_of held))) at held)

-- it was declared, with another type
abbrev pub IsOther : Option Declared → SetKind → Type 0
IsOther None kind = ⊥
IsOther (Some declared) kind = declared.kind ≢ kind

-- the table has a symbol of this name, of another type than the value
abbrev pub IsOfOtherKind : Table → List ℕ → SetValue → Type 0
IsOfOtherKind table name held = IsOther (declared_of table name) (kind_of held)
