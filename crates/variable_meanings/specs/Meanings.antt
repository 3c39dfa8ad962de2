-- What variable symbols mean in a call, as its statements are processed (HLASM Language Reference SC26-4940, "Symbolic
-- parameters", "System variable symbols", "SET symbols").
use Rattle.std.specs.Prelude.{◌==◌, ℕ, Bool, List, [], ◌∷◌, ◌++◌, Option, Some, None, codes, find, is_some, option_map, if◌then◌else◌}
use Rattle.std.specs.List.{fold}
use Rattle.std.specs.Option.{option_or}
use Rattle.std.specs.Str.{bytes_eq}
use Rattle.hl_base.specs.declared.place.Origin.{Origin}
use Rattle.hl_base.specs.declared.set.Declaration.{Declaration}
use Rattle.hlasm_statements.specs.declared.statement.Field.{Field}
use Rattle.hlasm_statements.specs.declared.statement.Field.TheVariants.{Label, Op, Operands}
use Rattle.trace_arena.specs.Points.{Point}
use Rattle.trace_values.specs.declared.item.TraceItem.{TraceItem}
use Rattle.trace_values.specs.declared.occurrence.Role.TheVariants as role
use Rattle.trace_values.specs.declared.occurrence.Scope.{Scope}
use Rattle.trace_values.specs.declared.occurrence.Scope.TheVariants.{Program, Definition, Global}
use Rattle.trace_values.specs.declared.variable.Setting.{Setting}
use Rattle.trace_variables.specs.Calls.{done_before}
use Rattle.trace_variables.specs.Values.{kind_of, entry_of}
use Rattle.macro_binding.specs.Prototypes.{is_system}
use Rattle.variable_meanings.specs.declared.meaning.Meaning.{Meaning}

-- where the local symbols of a call are known, by the place of the prototype of its definition, which open code has not
abbrev pub own_scope : Option Origin → Scope
own_scope None = Program
own_scope (Some origin) = Definition origin

-- whether a name is that of a system variable that a call knows: open code knows SYSPARM alone. No parameter has such a name
abbrev pub knows_system : Option Origin → List ℕ → Bool
knows_system None name = bytes_eq name (codes "SYSPARM")
knows_system (Some origin) name = is_system name

-- what a system variable means, and a parameter
abbrev pub system_meaning : Scope → Meaning
system_meaning own = record { scope = own; role = role.System }

abbrev pub parameter_meaning : Scope → Meaning
parameter_meaning own = record { scope = own; role = role.Parameter }

-- what a symbol means that is declared: one that is global is the same wherever it is declared with this type
abbrev pub declared_meaning : Scope → Declaration → Meaning
declared_meaning own d =
    if d.global then record { scope = Global d.kind; role = role.Plain } else record { scope = own; role = role.Local d.kind }

-- what a local symbol means that is set and was not declared
abbrev pub set_meaning : Scope → Setting → Meaning
set_meaning own setting = record { scope = own; role = role.Local (kind_of setting.value) }

-- a name with its meaning
pub record Known : Type 0 where
  pub name : List ℕ
  pub meaning : Meaning

abbrev pub has_name : List ℕ → Known → Bool
has_name name one = bytes_eq name one.name

abbrev pub meaning_in : Known → Meaning
meaning_in one = one.meaning

-- what a name means among some that have meanings
abbrev pub meaning_of : List Known → List ℕ → Option Meaning
meaning_of known name = option_map meaning_in (find (has_name name) known)

-- a meaning for a name that has none yet
abbrev pub with_meaning : List Known → List ℕ → Meaning → List Known
with_meaning known name meaning = if is_some (meaning_of known name) then known else known ++ record { name = name; meaning = meaning } ∷ []

-- parameters are known by their values, among which those of system variables stand too
abbrev pub with_entry : Scope → List Known → Setting → List Known
with_entry own known setting = if is_system setting.name then known else with_meaning known setting.name (parameter_meaning own)

unfoldable pub with_entries : Scope → List Known → List Setting → List Known
with_entries own known entry = fold (with_entry own) known entry

-- those known behind declarations, and behind settings of local symbols
abbrev pub with_declaration : Scope → List Known → Declaration → List Known
with_declaration own known d = with_meaning known d.name (declared_meaning own d)

unfoldable pub with_declarations : Scope → List Known → List Declaration → List Known
with_declarations own known declared = fold (with_declaration own) known declared

abbrev pub with_setting : Scope → List Known → Setting → List Known
with_setting own known setting = with_meaning known setting.name (set_meaning own setting)

unfoldable pub with_settings : Scope → List Known → List Setting → List Known
with_settings own known settings = fold (with_setting own) known settings

-- those known behind the statement of a point
abbrev pub with_item : Scope → List Known → TraceItem → List Known
with_item own known item = with_settings own (with_declarations own known item.declared) item.locals

-- a call, or open code: the place of the prototype of its definition, which open code has not, and the symbols to which its
-- entry or its statements gave meanings
pub record Call : Type 0 where
  pub definition : Option Origin
  pub known : List Known

-- one at its entry, which gives it these values
abbrev pub entered : Option Origin → List Setting → Call
entered definition entry = record { definition = definition; known = with_entries (own_scope definition) [] entry }

-- one behind the statement of a point
abbrev pub after_item : Call → TraceItem → Call
after_item call item = record { definition = call.definition; known = with_item (own_scope call.definition) call.known item }

-- the call that had done this and goes on with this item; and the call of a level before a point of it, where these are the
-- points before: a function of the points
abbrev pub call_with : List TraceItem → TraceItem → Call
call_with done item = fold after_item (entered item.definition (entry_of (done ++ item ∷ []))) done

abbrev pub call_before : List (Point TraceItem) → (level : ℕ) → TraceItem → Call
call_before before level item = call_with (done_before level before) item

-- what a symbol means in a call
abbrev pub meaning : Call → List ℕ → Option Meaning
meaning call name =
    if knows_system call.definition name then Some (system_meaning (own_scope call.definition)) else meaning_of call.known name

-- whether a declaration, or a setting, is one of this name
abbrev pub declares : List ℕ → Declaration → Bool
declares name d = bytes_eq name d.name

abbrev pub sets : List ℕ → Setting → Bool
sets name setting = bytes_eq name setting.name

-- the meaning that a statement of a call gives a symbol at a place of its fields: a declaration in the operands, a setting at
-- the beginning of the name entry
abbrev pub given : Scope → Field → (at : ℕ) → TraceItem → List ℕ → Option Meaning
given own Label at item name = if at == 0 then option_map (set_meaning own) (find (sets name) item.locals) else None
given own Op at item name = None
given own Operands at item name = option_map (declared_meaning own) (find (declares name) item.declared)

-- what a symbol means at a place of a statement of a call: what it meant before, or what the statement gives it there
abbrev pub meaning_at : Call → Field → (at : ℕ) → TraceItem → List ℕ → Option Meaning
meaning_at call field at item name = option_or (meaning call name) (given (own_scope call.definition) field at item name)
