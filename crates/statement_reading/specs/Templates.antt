-- How a field with variable symbols is read (HLASM Language Reference SC26-4940, "Variable symbols", "Concatenating symbols
-- and characters"): from left to right, as many plain characters as there are, or a variable symbol, behind which one period
-- vanishes. The law `laws::templates` says that a field is read as it is written.
use Rattle.std.specs.Prelude.{ℕ, zero, suc, ◌+◌, ◌-◌, ◌==◌, Bool, false, List, [], ◌∷◌, length, take, drop, Option, Some, None, Result, Ok, Err}
use Rattle.std.specs.List.{list_any}
use Rattle.expression_grammar.specs.Trees.{Tree}
use Rattle.conditional_fields.specs.Templates.{behind_symbol, plain_length}
use Rattle.statement_reading.specs.Symbols.{Found, symbol, reach}

-- plain characters, or a variable symbol with its subscripts
pub data Part : Type 0 where
  plain : (characters : List ℕ) → Part
  variable : (tree : Tree) → Part

-- a part, and then others
abbrev pub and_more : Part → Result (List Part) ℕ → Result (List Part) ℕ
and_more part (Ok parts) = Ok (part ∷ parts)
and_more part (Err at) = Err at

-- the part that the rest of a field begins with, which has so many plain characters, and then what is read of all behind it
abbrev pub next : (plain_characters : ℕ) → Option Found → (field rest : List ℕ) → (List ℕ → Result (List Part) ℕ) → Result (List Part) ℕ
next zero None field rest others = Err (length field - length rest + reach rest)
next zero (Some found) field rest others = and_more (variable found.tree) (others (behind_symbol (drop found.count rest)))
next (suc n) found field rest others = and_more (plain (take (suc n) rest)) (others (drop (suc n) rest))

-- the parts of the rest of a field, in so many steps at most
abbrev pub parts_in : (steps : ℕ) (field rest : List ℕ) → Result (List Part) ℕ
parts_in zero field rest = Ok []
parts_in (suc steps) field [] = Ok []
parts_in (suc steps) field (c ∷ rest) = next (plain_length false (c ∷ rest)) (symbol (c ∷ rest)) field (c ∷ rest) (λ others. parts_in steps field others)

-- the parts of a field, each of which has a character; or where a variable symbol of it cannot be read
abbrev pub template : List ℕ → Result (List Part) ℕ
template field = parts_in (length field) field field

-- whether a text has an ampersand: without one it has no variable symbol
abbrev pub has_ampersand : List ℕ → Bool
has_ampersand text = list_any (λ c. c == 38) text

-- the parts of a text without a variable symbol
abbrev pub plain_parts : List ℕ → List Part
plain_parts [] = []
plain_parts (c ∷ rest) = plain (c ∷ rest) ∷ []
