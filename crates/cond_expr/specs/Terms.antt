-- Which texts are self-defining terms, and their numbers (HLASM Language Reference SC26-4940, "Self-defining terms").
use Rattle.std.specs.Prelude.{ℕ, ◌-◌, ◌==◌, ◌&&◌, ◌||◌, Bool, List, [], ◌∷◌, ◌++◌, length, take, drop, ℤ, Option, Some, None, nat_lt, nat_le, nat_eq, option_map, if◌then◌else◌}
use Rattle.std.specs.List.{list_all}
use Rattle.std.specs.Cmp.Lexicographic.{pointwise}
use Rattle.std.specs.Char.{to_ascii_uppercase}
use Rattle.std.specs.Int.{cast_signed, w32}
use Rattle.expression_grammar.specs.declared.tree.Form.{Form}
use Rattle.expression_grammar.specs.declared.tree.Form.TheVariants.{Decimal, Hexadecimal, Binary, Character}
use Rattle.expression_grammar.specs.Trees.{Tree, Number}
use Rattle.expression_grammar.specs.Spelling.{is_figure, figures, most_of, greatest_of, bytes_of, doubled}

-- whether a text is some digits of a form, no more than a term has
abbrev pub are_figures : Form → List ℕ → Bool
are_figures form text = list_all (is_figure form) text && (nat_lt 0 (length text) && nat_le (length text) (most_of form))

-- the number that digits write, where it is not too great
abbrev pub number_of_figures : Form → List ℕ → Option ℕ
number_of_figures form text =
    if are_figures form text && nat_le (figures form 0 text) (greatest_of form) then Some (figures form 0 text) else None

-- a text with one apostrophe for two, and one ampersand for two
abbrev pub halved : List ℕ → List ℕ
halved [] = []
halved (c ∷ []) = c ∷ []
halved (c ∷ d ∷ rest) = if ((c == 39) || (c == 38)) && (c == d) then (c ∷ halved rest) else (c ∷ halved (d ∷ rest))

-- whether a text is one to four characters, apostrophes and ampersands twice
abbrev pub are_characters : List ℕ → Bool
are_characters text =
    pointwise nat_eq text (doubled (halved text)) && (nat_lt 0 (length (halved text)) && nat_le (length (halved text)) 4)

-- the number that the bytes of characters make, where it is not too great
abbrev pub number_of_characters : List ℕ → Option ℕ
number_of_characters text =
    if are_characters text && nat_le (bytes_of 0 (halved text)) (greatest_of Character) then Some (bytes_of 0 (halved text)) else None

-- what stands between the first and the last character of a text
abbrev pub inside : List ℕ → List ℕ
inside text = drop 1 (take (length text - 1) text)

-- the number of what stands in apostrophes behind this letter
abbrev pub number_behind : ℕ → List ℕ → Option ℕ
number_behind letter text =
    if letter == 88 then number_of_figures Hexadecimal text
    else (if letter == 66 then number_of_figures Binary text
    else (if letter == 67 then number_of_characters text
    else None))

-- the number of a term with apostrophes, behind its letter
abbrev pub number_quoted : ℕ → List ℕ → Option ℕ
number_quoted letter text =
    if pointwise nat_eq text (39 ∷ (inside text ++ 39 ∷ [])) then number_behind letter (inside text) else None

-- the 32 bits of a self-defining term; none of a text that is no such term
abbrev pub bits_of : List ℕ → Option ℕ
bits_of [] = None
bits_of (c ∷ rest) =
    if is_figure Decimal c then number_of_figures Decimal (c ∷ rest) else number_quoted (to_ascii_uppercase c) rest

-- the number of a self-defining term
abbrev pub term : List ℕ → Option ℤ
term text = option_map (cast_signed w32) (bits_of text)

-- the number of an expression that is a self-defining term
abbrev pub number_in : Tree → Option ℤ
number_in (Number form bits) = Some (cast_signed w32 bits)
number_in other = None
