-- Parameters that are lent, as contracts see them.
use Rattle.std.specs.Str.{chars}
use Rattle.macro_binding.specs.declared.parameters.Parameter.{Parameter}
use Rattle.macro_binding.specs.declared.value.Bound.{Bound}
use Rattle.macro_binding.specs.Bindings as bindings
use Rattle.macro_binding.specs.Prototypes as prototypes

-- a parameter
abbrev pub parameter_seen : Parameter → prototypes.Parameter
parameter_seen p = record { name = p.name.now; role = p.role.now }

-- a parameter with its value
abbrev pub bound_seen : Bound → bindings.Bound
bound_seen b = record { name = b.name.now; value = chars b.value.now }
