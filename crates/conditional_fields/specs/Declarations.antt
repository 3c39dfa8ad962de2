-- Declarations of SET symbols (HLASM Language Reference SC26-4940, "GBLA, GBLB, and GBLC instructions", "LCLA, LCLB, and
-- LCLC instructions"): variable symbols, each with a number in parentheses where it is an array.
use Rattle.std.specs.Prelude.{ℕ, ◌+◌, ◌==◌, ◌&&◌, Bool, true, false, List, [], ◌∷◌, length, take, drop, take_while, Option, Some, None, Result, Ok, Err, nat_lt, encode_utf8_all, if◌then◌else◌}
use Rattle.std.specs.Char.{is_ascii_digit}
use Rattle.hl_base.specs.Symbols.{symbol_of}
use Rattle.hl_base.specs.declared.set.SetKind.{SetKind}
use Rattle.hl_base.specs.declared.set.Declaration.{Declaration}
use Rattle.operand_grammar.specs.Split.{operands_of}
use Rattle.conditional_fields.specs.Answers.{each, some}
use Rattle.conditional_fields.specs.Sequences.{letter_count, symbol_reach}

-- how many digits a text begins with
abbrev pub digit_count : List ℕ → ℕ
digit_count text = length (take_while is_ascii_digit text)

-- an array ends with its parenthesis
abbrev pub ended : ℕ → List ℕ → Result Bool ℕ
ended digits [] = Ok true
ended digits (c ∷ rest) = Err (digits + 2)

-- behind so many digits of an array comes its parenthesis, and there is a digit at least
abbrev pub closing : ℕ → List ℕ → Result Bool ℕ
closing digits [] = Err (digits + 1)
closing digits (c ∷ rest) = if nat_lt 0 digits && (c == 41) then ended digits rest else Err (digits + 1)

-- whether a variable symbol with this behind it is an array: none with nothing behind it, one with digits in parentheses
abbrev pub dimension : List ℕ → Result Bool ℕ
dimension [] = Ok false
dimension (c ∷ rest) = if c == 40 then closing (digit_count rest) (drop (digit_count rest) rest) else Err 0

-- a declaration of this name, where what is behind the name is right
abbrev pub declared : SetKind → Bool → List ℕ → ℕ → Result Bool ℕ → Result Declaration ℕ
declared kind global name letters (Ok array) = Ok (record { kind = kind; name = name; global = global; array = array })
declared kind global name letters (Err at) = Err (at + letters + 1)

-- a declaration, by the name behind an ampersand
abbrev pub named : SetKind → Bool → List ℕ → Option (List ℕ) → Result Declaration ℕ
named kind global rest None = Err (symbol_reach rest + 1)
named kind global rest (Some name) = declared kind global name (letter_count rest) (dimension (drop (letter_count rest) rest))

abbrev pub named_behind : SetKind → Bool → List ℕ → Result Declaration ℕ
named_behind kind global rest = named kind global rest (symbol_of (encode_utf8_all (take (letter_count rest) rest)))

-- what an operand declares
abbrev pub declaration : SetKind → Bool → List ℕ → Result Declaration ℕ
declaration kind global [] = Err 0
declaration kind global (c ∷ rest) = if c == 38 then named_behind kind global rest else Err 0

-- what the operands of a field declare, one at least
abbrev pub declarations : SetKind → Bool → List ℕ → Result (List Declaration) ℕ
declarations kind global field = some (each (declaration kind global) (operands_of field))
