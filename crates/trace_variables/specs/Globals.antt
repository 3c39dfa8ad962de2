-- What the statements of a trace leave of the global SET symbols (this project).
use Rattle.std.specs.Prelude.{◌==◌, if◌then◌else◌, List, [], ◌∷◌, ◌++◌}
use Rattle.std.specs.List.{flat_map}
use Rattle.hl_base.specs.declared.set.SetKind.{SetKind}
use Rattle.hl_base.specs.declared.set.SetKind.TheVariants as kind
use Rattle.hl_base.specs.declared.set.SetValue.{SetValue}
use Rattle.trace_values.specs.declared.item.TraceItem.{TraceItem}
use Rattle.trace_values.specs.declared.variable.Setting.{Setting}
use Rattle.trace_variables.specs.Values.{VariableKey, Values, place_of, global_values}

-- an element of a symbol with its value
abbrev pub setting_of : VariableKey × SetValue → Setting
setting_of entry = record { name = entry.0.name; element = entry.0.element; value = entry.1 }

-- the same, if the symbol is of a type
abbrev pub settings_of : SetKind → VariableKey × SetValue → List Setting
settings_of kind entry = if place_of entry.0.kind == place_of kind then setting_of entry ∷ [] else []

-- values by type, those of SETA symbols first; within a type they stand as before
abbrev pub by_type : Values → List Setting
by_type values =
    flat_map (settings_of kind.A) values ++ (flat_map (settings_of kind.B) values ++ flat_map (settings_of kind.C) values)

-- What these items leave, by type, then in the byte order of names, then by element: each global symbol that was declared
-- without a subscript has its element 0, and each other element is there that was set.
abbrev pub globals_after : List TraceItem → List Setting
globals_after items = by_type (global_values items)
