-- What the operands of a macro call mean to a prototype (HLASM Language Reference SC26-4940, "Macro call operands",
-- "Positional parameters", "Keyword parameters", "Combining positional and keyword parameters", "&SYSLIST system variable
-- symbol").
use Rattle.std.specs.Prelude.{ℕ, ◌==◌, Bool, true, false, List, [], ◌∷◌, ◌++◌, length, map, slice_index_or, Option, Some, None, if◌then◌else◌}
use Rattle.std.specs.Str.{bytes_eq}
use Rattle.hl_base.specs.declared.note.Note.{Note}
use Rattle.note_rows.specs.Table.{noted}
use Rattle.note_rows.specs.declared.row.Row.TheVariants.{KeywordTwice}
use Rattle.macro_binding.specs.declared.role.Role.{Role}
use Rattle.macro_binding.specs.declared.role.Role.TheVariants.{NameEntry, Positional, Keyword}
use Rattle.macro_binding.specs.Prototypes.{Parameter, Parted, role_of, parted, name_of}

-- an operand of a call: it gives a keyword parameter a value, or stands among the positional ones
pub data Given : Type 0 where
  keyword : (name value : List ℕ) → Given
  positional : (text : List ℕ) → Given

abbrev pub is_keyword : Role → Bool
is_keyword (Keyword default) = true
is_keyword other = false

-- whether a name is that of a keyword parameter, by what a parameter of that name stands for
abbrev pub is_keyword_role : Option Role → Bool
is_keyword_role None = false
is_keyword_role (Some role) = is_keyword role

-- an operand with a name before its first equals sign is a keyword's where a keyword parameter has that name
abbrev pub given_named : List Parameter → List ℕ → (value : List ℕ) → Option (List ℕ) → Given
given_named parameters text value None = positional text
given_named parameters text value (Some name) =
    if is_keyword_role (role_of parameters name) then keyword name value else positional text

abbrev pub given_parted : List Parameter → List ℕ → Option Parted → Given
given_parted parameters text None = positional text
given_parted parameters text (Some p) = given_named parameters text p.behind (name_of p.before)

-- what an operand is
abbrev pub given : List Parameter → List ℕ → Given
given parameters text = given_parted parameters text (parted text)

-- the positional operands, in order
abbrev pub positionals : List Given → List (List ℕ)
positionals [] = []
positionals (keyword name value ∷ rest) = positionals rest
positionals (positional text ∷ rest) = text ∷ positionals rest

-- the values given to a keyword, in order
abbrev pub values_for : List ℕ → List Given → List (List ℕ)
values_for name [] = []
values_for name (keyword own value ∷ rest) = if bytes_eq name own then value ∷ values_for name rest else values_for name rest
values_for name (positional text ∷ rest) = values_for name rest

-- the last of some values, or this where there is none
abbrev pub last_or : List ℕ → List (List ℕ) → List ℕ
last_or default [] = default
last_or default (value ∷ rest) = last_or value rest

-- what a parameter of this name is worth by what it stands for: a positional operand that is not given is empty
abbrev pub value_as : (name_entry : List ℕ) → List Given → (name : List ℕ) → Role → List ℕ
value_as name_entry operands name NameEntry = name_entry
value_as name_entry operands name (Positional place) = slice_index_or (positionals operands) place []
value_as name_entry operands name (Keyword default) = last_or default (values_for name operands)

-- a parameter and its value
pub record Bound : Type 0 where
  pub name : List ℕ
  pub value : List ℕ

abbrev pub bound : (name_entry : List ℕ) → List Given → Parameter → Bound
bound name_entry operands parameter = record { name = parameter.name; value = value_as name_entry operands parameter.name parameter.role }

-- what a call means: its name entry, its positional operands, and the parameters with their values
pub record Binding : Type 0 where
  pub name_entry : List ℕ
  pub positionals : List (List ℕ)
  pub parameters : List Bound

abbrev pub bound_by : List Parameter → (name_entry : List ℕ) → List Given → Binding
bound_by parameters name_entry operands = record {
  name_entry = name_entry;
  positionals = positionals operands;
  parameters = map (bound name_entry operands) parameters;
}

-- the operands of a call, as what they are
abbrev pub givens : List Parameter → List (List ℕ) → List Given
givens parameters operands = map (given parameters) operands

abbrev pub binding_of : List Parameter → (name_entry : List ℕ) → (operands : List (List ℕ)) → Binding
binding_of parameters name_entry operands = bound_by parameters name_entry (givens parameters operands)

-- the keyword that an operand gives its second value, where these operands stand before it
abbrev pub repeated_by : (before : List Given) → Given → List (List ℕ)
repeated_by before (positional text) = []
repeated_by before (keyword name value) = if length (values_for name before) == 1 then name ∷ [] else []

-- the keywords that are given more than once, in the order of their second values
abbrev pub repeated_behind : (before operands : List Given) → List (List ℕ)
repeated_behind before [] = []
repeated_behind before (one ∷ rest) = repeated_by before one ++ repeated_behind (before ++ one ∷ []) rest

abbrev pub repeated : List Given → List (List ℕ)
repeated operands = repeated_behind [] operands

-- the note that a keyword is given twice
abbrev pub given_twice : List ℕ → Note
given_twice name = noted (KeywordTwice name) []

-- the notes of a call
abbrev pub binding_notes : List Parameter → (operands : List (List ℕ)) → List Note
binding_notes parameters operands = map given_twice (repeated (givens parameters operands))
