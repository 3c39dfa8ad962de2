-- The type of a constant at the front of a text. HLASM Language Reference SC26-4940, "Type" and "Type extension".
use Rattle.std.specs.Prelude.{ℕ, List, [], ◌∷◌, Option, Some, None, option_map}
use Rattle.constant_table.specs.declared.constant_type.ConstantType.{ConstantType}
use Rattle.constant_table.specs.Types.{type_of, extended_by}
use Rattle.constant_grammar.specs.declared.letters.Spelled.{Spelled}

-- a type with a second letter, if it becomes another with it
abbrev pub with_extension : ConstantType → Option ConstantType → Spelled
with_extension kind (Some longer) = record { kind = longer; count = 2 }
with_extension kind None = record { kind = kind; count = 1 }

-- a type, or the longer one that it becomes with the letter behind it
abbrev pub lengthened : ConstantType → List ℕ → Spelled
lengthened kind [] = record { kind = kind; count = 1 }
lengthened kind (c ∷ cs) = with_extension kind (extended_by c kind)

-- the longest type that a text begins with
abbrev pub spelled : List ℕ → Option Spelled
spelled [] = None
spelled (c ∷ cs) = option_map (λ kind. lengthened kind cs) (type_of c)
