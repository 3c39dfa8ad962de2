-- What attribute references tell of ordinary symbols, under the answers given (HLASM Language Reference SC26-4940,
-- "Data attributes"). A symbol means what the latest statement says that defined it, or else what lookahead finds.
use Rattle.std.specs.Prelude.{ℕ, ◌==◌, List, [], ◌∷◌, Option, Some, None, ℤ, pos, if◌then◌else◌, chars, encode_utf8_all}
use Rattle.std.specs.Option.{option_map_or}
use Rattle.hl_base.specs.Symbols.{symbol_of}
use Rattle.hl_base.specs.declared.set.Attr.{Attr}
use Rattle.hl_base.specs.declared.set.Answer.{Answer}
use Rattle.hl_base.specs.declared.set.Answer.TheVariants.{Meaning}
use Rattle.hl_base.specs.declared.set.Key.TheVariants.{Sym, Look}
use Rattle.cond_expr.specs.Arithmetic.{fitting}
use Rattle.cond_expr.specs.Told.{Told}
use Rattle.cond_expr.specs.Outcome.{Outcome, Gives, Asks, gives, and_then}
use Rattle.cond_expr.specs.Troubles.{overflow, no_length}

-- a number that was computed, where it fits; else 0 with a note
abbrev pub checked : Option ℤ → Outcome ℤ
checked (Some number) = gives number
checked None = Gives (pos 0) (overflow ∷ [])

-- a count as a number
abbrev pub counted : ℕ → Outcome ℤ
counted count = checked (fitting (pos count))

-- the meaning that an answer tells
abbrev pub meaning_in : Answer → Option Attr
meaning_in (Meaning attr) = Some attr
meaning_in other = None

-- what lookahead tells of a symbol
abbrev pub found_ahead : Told → List ℕ → Option Answer → Outcome (Option Attr)
found_ahead told name None = Asks (Look name)
found_ahead told name (Some answer) = gives (meaning_in answer)

-- what the statements so far tell of a symbol, or else lookahead
abbrev pub meaning_or_ahead : Told → List ℕ → Option Attr → Outcome (Option Attr)
meaning_or_ahead told name (Some attr) = gives (Some attr)
meaning_or_ahead told name None = found_ahead told name (told.answer (Look name))

-- what the statements so far tell of a symbol
abbrev pub defined_so_far : List ℕ → Option Answer → Outcome (Option Attr)
defined_so_far name None = Asks (Sym name)
defined_so_far name (Some answer) = gives (meaning_in answer)

-- the meaning of a symbol
abbrev pub meaning : Told → List ℕ → Outcome (Option Attr)
meaning told name = and_then (defined_so_far name (told.answer (Sym name))) (meaning_or_ahead told name)

-- the length that a meaning has; 1 with a note where there is none
abbrev pub length_in : List ℕ → Option Attr → Outcome ℤ
length_in name (Some attr) = counted attr.length
length_in name None = Gives (pos 1) (no_length (chars name) ∷ [])

-- L' of a symbol
abbrev pub length_of : Told → List ℕ → Outcome ℤ
length_of told name = and_then (meaning told name) (length_in name)

-- whether a meaning is that of a definition; the letter M is that of a label whose statement is still to come
abbrev pub is_definition : Option Attr → ℤ
is_definition None = pos 0
is_definition (Some attr) = if attr.letter == 77 then pos 0 else pos 1

-- D' of a symbol, which never looks ahead
abbrev pub defined_of : Told → List ℕ → Outcome ℤ
defined_of told name = and_then (defined_so_far name (told.answer (Sym name))) (λ found. gives (is_definition found))

-- the letter of a meaning, and U where there is none
abbrev pub letter_in : Option Attr → List ℕ
letter_in None = 85 ∷ []
letter_in (Some attr) = attr.letter ∷ []

-- T' of a symbol
abbrev pub type_of : Told → List ℕ → Outcome (List ℕ)
type_of told name = and_then (meaning told name) (λ found. gives (letter_in found))

-- L' of a text that should name a symbol
abbrev pub length_of_text : Told → List ℕ → Outcome ℤ
length_of_text told text =
    option_map_or (length_of told) (symbol_of (encode_utf8_all text)) (Gives (pos 1) (no_length text ∷ []))

-- D' of a text that may name a symbol
abbrev pub defined_of_text : Told → List ℕ → Outcome ℤ
defined_of_text told text = option_map_or (defined_of told) (symbol_of (encode_utf8_all text)) (gives (pos 0))
