-- What is shown of a macro's call as it is entered (HLASM Language Reference SC26-4940, "Symbolic parameters", "System variable
-- symbols", "&SYSLIST system variable symbol"; this project): its parameters, and the system variables that its definition names,
-- with their texts.
use Rattle.std.specs.Prelude.{ℕ, ◌+◌, ◌==◌, Bool, true, false, List, [], ◌∷◌, ◌++◌, length, map, codes}
use Rattle.hl_base.specs.declared.set.SetValue.TheVariants.{C}
use Rattle.trace_values.specs.declared.variable.Setting.{Setting}
use Rattle.macro_binding.specs.Bindings.{Binding, Bound, Given, givens, positionals}
use Rattle.macro_binding.specs.Prototypes.{Parameter}
use Rattle.call_knowledge.specs.declared.system.SystemVariable.{SystemVariable}

-- a text under a name, with a number behind it where it has one above 0
abbrev pub held : (name : List ℕ) (number : ℕ) (text : List ℕ) → Setting
held name number text = record { name = name; element = number; value = C text }

-- a parameter is shown whole, a sublist too
abbrev pub parameter_shown : Bound → Setting
parameter_shown bound = held bound.name 0 bound.value

abbrev pub system_shown : SystemVariable → Setting
system_shown system = held system.name 0 system.text

-- &SYSLIST with the numbers from this one on
abbrev pub operands_shown : (number : ℕ) → List (List ℕ) → List Setting
operands_shown number [] = []
operands_shown number (text ∷ rest) = held (codes "SYSLIST") number text ∷ operands_shown (number + 1) rest

-- what &SYSLIST stands for with the numbers from 0 on, if it is named: the name entry and the positional operands
abbrev pub listed : (is_named : Bool) (name_entry : List ℕ) (operands : List (List ℕ)) → List (List ℕ)
listed false name_entry operands = []
listed true name_entry operands = name_entry ∷ operands

-- The parameters in the order of the prototype, then the system variables but &SYSLIST, and then &SYSLIST with each number.
abbrev pub shown : (is_listed : Bool) → List SystemVariable → Binding → List Setting
shown is_listed systems binding =
    (map parameter_shown binding.parameters ++ map system_shown systems)
    ++ operands_shown 0 (listed is_listed binding.name_entry binding.positionals)

-- whether an operand of a call of a macro with these parameters is a positional one
abbrev pub is_positional : List Parameter → (operand : List ℕ) → Bool
is_positional parameters operand = length (positionals (givens parameters (operand ∷ []))) == 1

-- the positional ones among some operands
abbrev pub positional_among : List Parameter → List (List ℕ) → List (List ℕ)
positional_among parameters operands = positionals (givens parameters operands)
