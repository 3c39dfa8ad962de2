-- Prototypes of macro definitions (HLASM Language Reference SC26-4940, "Macro prototype statement", "Symbolic parameters",
-- "Positional parameters", "Keyword parameters").
use Rattle.std.specs.Prelude.{ℕ, ◌+◌, ◌==◌, ◌||◌, ◌&&◌, Bool, true, false, List, [], ◌∷◌, ◌++◌, take, drop, length, position, codes, find, is_some, encode_utf8_all, Option, Some, None, option_map, option_and_then, if◌then◌else◌}
use Rattle.std.specs.Str.{bytes_eq}
use Rattle.hl_base.specs.Symbols.{symbol_of}
use Rattle.instruction_table.specs.declared.meaning.Operation.{Operation}
use Rattle.instruction_table.specs.declared.meaning.Operation.TheVariants.{Conditional, Ordinary, Both}
use Rattle.instruction_table.specs.Operations.{operation_of}
use Rattle.operand_list.specs.Split.{operands_of}
use Rattle.macro_binding.specs.declared.role.Role.{Role}
use Rattle.macro_binding.specs.declared.role.Role.TheVariants.{NameEntry, Positional, Keyword}

-- a parameter: its name, and what it stands for in a call
pub record Parameter : Type 0 where
  pub name : List ℕ
  pub role : Role

-- the operation by which a macro is called, and its parameters, that of the name entry first
pub record Prototype : Type 0 where
  pub operation : List ℕ
  pub parameters : List Parameter

-- what stands before and behind the first equals sign of a text
pub record Parted : Type 0 where
  pub before : List ℕ
  pub behind : List ℕ

abbrev pub parted_at : List ℕ → ℕ → Parted
parted_at text n = record { before = take n text; behind = drop (n + 1) text }

-- a text parted at its first equals sign, where it has one
abbrev pub parted : List ℕ → Option Parted
parted text = option_map (parted_at text) (position (λ c. c == 61) text)

-- the name that a text is
abbrev pub name_of : List ℕ → Option (List ℕ)
name_of text = symbol_of (encode_utf8_all text)

-- the name of the variable symbol that a text is: an ampersand and an ordinary symbol
abbrev pub variable_name : List ℕ → Option (List ℕ)
variable_name [] = None
variable_name (c ∷ rest) = if c == 38 then name_of rest else None

-- whether a name is that of a system variable
abbrev pub is_system : List ℕ → Bool
is_system name =
    bytes_eq name (codes "SYSNDX") || (bytes_eq name (codes "SYSECT") || (bytes_eq name (codes "SYSLIST")
    || (bytes_eq name (codes "SYSMAC") || (bytes_eq name (codes "SYSNEST") || bytes_eq name (codes "SYSPARM")))))

-- the parameter of a name
abbrev pub parameter_of : List Parameter → List ℕ → Option Parameter
parameter_of parameters name = find (λ p. bytes_eq name p.name) parameters

-- what the parameter of a name stands for
abbrev pub role_of : List Parameter → List ℕ → Option Role
role_of parameters name = option_map (λ (p : Parameter). p.role) (parameter_of parameters name)

-- whether no parameter may have a name behind these: one of them has it, or a system variable
abbrev pub is_taken : List Parameter → List ℕ → Bool
is_taken parameters name = is_system name || is_some (role_of parameters name)

abbrev pub is_positional : Role → Bool
is_positional (Positional place) = true
is_positional other = false

-- how many positional parameters there are
abbrev pub positional_count : List Parameter → ℕ
positional_count [] = 0
positional_count (p ∷ rest) = if is_positional p.role then positional_count rest + 1 else positional_count rest

-- a parameter of this name behind these, where it is no name or it is taken: none
abbrev pub admitted : List Parameter → Role → Option (List ℕ) → Option (List Parameter)
admitted parameters role None = None
admitted parameters role (Some name) =
    if is_taken parameters name then None else Some (parameters ++ record { name = name; role = role } ∷ [])

-- an operand of a prototype behind these parameters: a keyword and its default where it has an equals sign, else the next
-- positional parameter. A default is taken as it is written
abbrev pub admitted_parted : List Parameter → List ℕ → Option Parted → Option (List Parameter)
admitted_parted parameters text None = admitted parameters (Positional (positional_count parameters)) (variable_name text)
admitted_parted parameters text (Some p) = admitted parameters (Keyword p.behind) (variable_name p.before)

abbrev pub admitted_operand : List Parameter → List ℕ → Option (List Parameter)
admitted_operand parameters text = admitted_parted parameters text (parted text)

-- these operands behind these parameters, in order
abbrev pub admitted_operands : List Parameter → List (List ℕ) → Option (List Parameter)
admitted_operands parameters [] = Some parameters
admitted_operands parameters (text ∷ texts) = option_and_then (λ more. admitted_operands more texts) (admitted_operand parameters text)

-- the parameter of the name entry, where there is a name entry
abbrev pub name_entry_parameter : List ℕ → Option (List Parameter)
name_entry_parameter [] = Some []
name_entry_parameter (c ∷ rest) = admitted [] NameEntry (variable_name (c ∷ rest))

abbrev pub is_lone_comma : List ℕ → Bool
is_lone_comma [] = false
is_lone_comma (c ∷ rest) = (c == 44) && (length rest == 0)

-- the operands of a prototype; a lone comma, behind which remarks may stand, is none
abbrev pub prototype_operands : List ℕ → List (List ℕ)
prototype_operands field = if is_lone_comma field then [] else operands_of field

-- the parameters of a prototype with these fields
abbrev pub parameters : (label operands : List ℕ) → Option (List Parameter)
parameters label operands = option_and_then (λ first. admitted_operands first (prototype_operands operands)) (name_entry_parameter label)

-- whether a macro may have the name of an operation: none of conditional assembly, and no ordinary assembler operation
abbrev pub may_be_defined : Operation → Bool
may_be_defined Conditional = false
may_be_defined Ordinary = false
may_be_defined Both = false
may_be_defined other = true

abbrev pub if_definable : List ℕ → Option (List ℕ)
if_definable name = if may_be_defined (operation_of name) then Some name else None

-- the name of a macro

abbrev pub macro_name : List ℕ → Option (List ℕ)
macro_name op = option_and_then if_definable (name_of op)

-- a prototype with these fields, where it can be read
abbrev pub with_parameters : (name : List ℕ) → Option (List Parameter) → Option Prototype
with_parameters name None = None
with_parameters name (Some list) = Some (record { operation = name; parameters = list })

abbrev pub prototype_of : (label op operands : List ℕ) → Option Prototype
prototype_of label op operands = option_and_then (λ name. with_parameters name (parameters label operands)) (macro_name op)
