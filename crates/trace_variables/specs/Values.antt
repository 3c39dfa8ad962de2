-- What statements leave of the values of variable symbols (HLASM Language Reference SC26-4940, "SET symbols").
use Rattle.std.specs.Prelude.{ℕ, Bool, true, false, pos, if◌then◌else◌, List, [], ◌∷◌, ◌++◌, ◌||◌, not}
use Rattle.std.specs.Bool.{beq}
use Rattle.std.specs.List.{fold}
use Rattle.std.specs.Option.{is_some}
use Rattle.std.specs.Ordering.{nat_cmp, ordering_then}
use Rattle.std.specs.declared.cmp.Ordering.{Ordering}
use Rattle.std.specs.Cmp.Lexicographic.{slice_cmp}
use Rattle.std.specs.Map.{lookup}
use Rattle.std.specs.BTreeMap.{is_at, insert_entry}
use Rattle.hl_base.specs.declared.set.Declaration.{Declaration}
use Rattle.hl_base.specs.declared.set.SetKind.{SetKind}
use Rattle.hl_base.specs.declared.set.SetKind.TheVariants as kind
use Rattle.hl_base.specs.declared.set.SetValue.{SetValue}
use Rattle.hl_base.specs.declared.set.SetValue.TheVariants as value
use Rattle.trace_values.specs.declared.item.TraceItem.{TraceItem}
use Rattle.trace_values.specs.declared.variable.Setting.{Setting}

-- what one value is found by: the bytes of the name, the type, and the element, 0 where there is no subscript
pub record VariableKey : Type 0 where
  pub name : List ℕ
  pub kind : SetKind
  pub element : ℕ

-- the place of a type among the types
abbrev pub place_of : SetKind → ℕ
place_of kind.A = 0
place_of kind.B = 1
place_of kind.C = 2

-- by the bytes of the names, then by type, then by element
abbrev pub key_order : VariableKey → VariableKey → Ordering
key_order a b =
    ordering_then (slice_cmp nat_cmp a.name b.name) (ordering_then (nat_cmp (place_of a.kind) (place_of b.kind)) (nat_cmp a.element b.element))

-- the type of a symbol that holds a value, and what one holds to which nothing was set: 0, 0 or the empty text
abbrev pub kind_of : SetValue → SetKind
kind_of (value.A number) = kind.A
kind_of (value.B bit) = kind.B
kind_of (value.C text) = kind.C

abbrev pub unset : SetKind → SetValue
unset kind.A = value.A (pos 0)
unset kind.B = value.B false
unset kind.C = value.C []

-- values in the order of their keys, one for each
abbrev pub Values : Type 0
Values = List (VariableKey × SetValue)

-- a value at its place in the order, instead of the one of the same key
abbrev pub put : Values → VariableKey → SetValue → Values
put values key held = insert_entry key_order values key held

abbrev pub has : Values → VariableKey → Bool
has values key = is_some (lookup (is_at (key_order key)) values)

-- what an element gets
abbrev pub key_of : Setting → VariableKey
key_of setting = record { name = setting.name; kind = kind_of setting.value; element = setting.element }

abbrev pub after_setting : Values → Setting → Values
after_setting values setting = put values (key_of setting) setting.value

abbrev pub after_settings : Values → List Setting → Values
after_settings values settings = fold after_setting values settings

-- a scalar that is declared global, or local, has a value from then on, if it had none; an array has none
abbrev pub declared_key : Declaration → VariableKey
declared_key d = record { name = d.name; kind = d.kind; element = 0 }

abbrev pub after_declaration : Bool → Values → Declaration → Values
after_declaration global values d =
    if d.array || (not (beq d.global global) || has values (declared_key d)) then values
    else put values (declared_key d) (unset d.kind)

abbrev pub after_declarations : Bool → Values → List Declaration → Values
after_declarations global values declarations = fold (after_declaration global) values declarations

-- what the statement of a point leaves of the local symbols of its call, and of the global ones
abbrev pub after_locals : Values → TraceItem → Values
after_locals values item = after_settings (after_declarations false values item.declared) item.locals

abbrev pub after_globals : Values → TraceItem → Values
after_globals values item = after_settings (after_declarations true values item.declared) item.globals

-- the parameters and system variables, which the first item of a call has
abbrev pub entry_of : List TraceItem → List Setting
entry_of [] = []
entry_of (item ∷ items) = item.entry

-- the local values of a call that had done this, and goes on with this item: if it had done nothing, this is its first
abbrev pub local_values : List TraceItem → TraceItem → Values
local_values done own = fold after_locals (after_settings [] (entry_of (done ++ own ∷ []))) done

-- the global values after some items

abbrev pub global_values : List TraceItem → Values
global_values items = fold after_globals [] items
