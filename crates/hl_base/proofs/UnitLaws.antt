-- The width of texts in UTF-16 units.
use Rattle.std.proofs.Common.{◌≡◌, ◌∙◌, ℕ, ◌+◌, ◌<◌, ◌≤◌, List, [], ◌∷◌, length, drop, get_or, length-append, sym, ap, subst, arith}
use Rattle.std.specs.Prelude.{encode_utf8, encode_utf8_all, chars, IsUtf8}
use Rattle.std.specs.Char.{len_utf8}
use Rattle.std.proofs.lemmas.List.Sums.{sum_by-cons}
use Rattle.std.proofs.lemmas.List.{at_drop_more, at_drop_all}
use Rattle.std.proofs.lemmas.Bool.Decides.{nat_tests}
use Rattle.std.proofs.lemmas.Str.{length-encode, encodes-chars}
use Rattle.hl_base.specs.Texts.{unit_width, units}

pub units-cons : (c : ℕ) (cs : List ℕ) → units (c ∷ cs) ≡ unit_width c + units cs
units-cons c cs = sum_by-cons unit_width c cs

-- a character takes no more units than bytes
width_le : (c : ℕ) → unit_width c ≤ len_utf8 c
width_le c = grind (arith, nat_tests)

units_le_bytes : (cs : List ℕ) → units cs ≤ length (encode_utf8_all cs)
units_le_bytes [] = omega arith
units_le_bytes (c ∷ cs) =
    let whole : length (encode_utf8_all (c ∷ cs)) ≡ length (encode_utf8 c) + length (encode_utf8_all cs) = length-append (encode_utf8 c) (encode_utf8_all cs) in
    omega (arith, units-cons c cs, whole, length-encode c, width_le c, units_le_bytes cs)

-- a text takes no more units than bytes
pub units-le : (bs : List ℕ) → IsUtf8 bs → units (chars bs) ≤ length bs
units-le bs u = let Q : List ℕ → Type 0 = λ bytes. units (chars bs) ≤ length bytes in subst Q (encodes-chars bs u) (units_le_bytes (chars bs))

-- the next character of what is left
pub units-drop : (cs : List ℕ) (n c : ℕ) → (n < length cs) × (c ≡ get_or cs n c) → units (drop n cs) ≡ unit_width c + units (drop (n + 1) cs)
units-drop cs n c h = at_drop_more units cs n c h.0 ∙ units-cons (get_or cs n c) (drop (n + 1) cs) ∙ ap (λ x. unit_width x + units (drop (n + 1) cs)) (sym h.1)

pub units-drop_all : (cs : List ℕ) (n : ℕ) → length cs ≤ n → units (drop n cs) ≡ 0
units-drop_all cs n h = at_drop_all units cs n h
