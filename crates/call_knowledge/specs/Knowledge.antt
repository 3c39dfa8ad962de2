-- What a call knows of variable symbols (HLASM Language Reference SC26-4940, "SET symbols", "Subscripted SET symbols",
-- "Symbolic parameters", "System variable symbols", "ACTR instruction"), and what its first statement shows of its entry (this
-- project).
use Rattle.std.specs.Prelude.{ℕ, ℤ, ◌||◌, Bool, true, false, List, [], ◌∷◌, length, is_some, Option, Some, None, find, codes}
use Rattle.std.specs.Str.{bytes_eq}
use Rattle.set_symbols.specs.Table.{Table, declared_of}
use Rattle.set_symbols.specs.declared.symbol.Declared.{Declared}
use Rattle.macro_binding.specs.Bindings.{Binding}
use Rattle.macro_binding.specs.Values.{bound_of, value_of}
use Rattle.macro_binding.specs.declared.value.Worth.{Worth}
use Rattle.trace_values.specs.declared.variable.Setting.{Setting}
use Rattle.call_knowledge.specs.declared.system.SystemVariable.{SystemVariable}

-- What is known: the SET symbols without a subscript and those with one, each declared here or set; how many branches are
-- left; the system variable symbols of this place but &SYSLIST; in a macro what its parameters and &SYSLIST are worth; and what
-- is shown of them at its first statement, to which a call may come back only by a branch: so nothing is behind one.
pub record Knowledge : Type 0 where
  pub scalars : Table
  pub arrays : Table
  pub branches : ℕ
  pub systems : List SystemVariable
  pub binding : Option Binding
  pub shown : List Setting

-- how many branches a call may take, as long as no ACTR says otherwise
abbrev pub most_branches : ℕ
most_branches = 4096

-- what open code knows before its first statement: the one system variable symbol SYSPARM
abbrev pub open_code : (sysparm : List ℕ) → Knowledge
open_code sysparm = record {
  scalars = [];
  arrays = [];
  branches = most_branches;
  systems = record { name = codes "SYSPARM"; text = sysparm } ∷ [];
  binding = None;
  shown = [];
}

-- what a macro knows before its first statement, which shows so much
abbrev pub in_macro : List SystemVariable → Binding → (shown : List Setting) → Knowledge
in_macro systems binding shown = record {
  scalars = [];
  arrays = [];
  branches = most_branches;
  systems = systems;
  binding = Some binding;
  shown = shown;
}

-- what a parameter, or &SYSLIST, with these subscripts is worth, where the name is that of one
abbrev pub bound_value : Option Binding → (name : List ℕ) (subscripts : List ℤ) → Option Worth
bound_value None name subscripts = None
bound_value (Some binding) name subscripts = value_of binding name subscripts

-- whether a name is that of a parameter, or SYSLIST
abbrev pub is_bound : Option Binding → (name : List ℕ) → Bool
is_bound None name = false
is_bound (Some binding) name = bytes_eq name (codes "SYSLIST") || is_some (bound_of binding.parameters name)

-- how many positional operands a call has; open code has none
abbrev pub positional_count : Option Binding → ℕ
positional_count None = 0
positional_count (Some binding) = length binding.positionals

-- what a variable symbol that is no parameter is: nothing here; a system variable symbol; or a SET symbol without or with a
-- subscript
pub data Meaning : Type 0 where
  Unknown : Meaning
  SystemText : (text : List ℕ) → Meaning
  Scalar : (declared : Declared) → Meaning
  Array : (declared : Declared) → Meaning

abbrev pub array_meaning : Option Declared → Meaning
array_meaning None = Unknown
array_meaning (Some declared) = Array declared

abbrev pub symbol_meaning : (scalar array : Option Declared) → Meaning
symbol_meaning None array = array_meaning array
symbol_meaning (Some declared) array = Scalar declared

abbrev pub meant : Option SystemVariable → (scalar array : Option Declared) → Meaning
meant None scalar array = symbol_meaning scalar array
meant (Some system) scalar array = SystemText system.text

-- the system variable symbol of a name
abbrev pub system_of : List SystemVariable → List ℕ → Option SystemVariable
system_of systems name = find (λ system. bytes_eq name system.name) systems

-- what a name means
abbrev pub meaning : Knowledge → List ℕ → Meaning
meaning k name = meant (system_of k.systems name) (declared_of k.scalars name) (declared_of k.arrays name)

-- whether a name means anything
abbrev pub is_meaning : Meaning → Bool
is_meaning Unknown = false
is_meaning (SystemText text) = true
is_meaning (Scalar declared) = true
is_meaning (Array declared) = true

abbrev pub is_known : Knowledge → List ℕ → Bool
is_known k name = is_bound k.binding name || is_meaning (meaning k name)
