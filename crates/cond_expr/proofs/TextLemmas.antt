-- The characters of what is written out.
use Rattle.std.proofs.Common.{◌≡◌, ◌<◌, ◌^◌, ℕ, ℤ, List, [], ◌∷◌, refl, sym, ap, ◌∙◌, arith, encode_utf8}
use Rattle.std.specs.Str.{chars}
use Rattle.std.proofs.lemmas.List.{append-nil}
use Rattle.std.proofs.lemmas.Str.{chars-encodes, chars_from_encodes, IsUtf8-from_ascii, encodes-IsAscii}
use Rattle.std.proofs.lemmas.Fmt.{IsAscii-signed}
use Rattle.std.specs.Fmt.{signed_decimal}
use lib.Signed.{mag}
use Rattle.cond_expr.specs.Told.{Told}
use Rattle.cond_expr.specs.Terms.{term}
use Rattle.cond_expr.specs.Variables.{type_of_text, type_unless_term}

-- one character below 256
pub chars-encode_utf8 : (c : ℕ) → c < 256 → chars (encode_utf8 c) ≡ c ∷ []
chars-encode_utf8 c small = ap chars (sym (append-nil (encode_utf8 c))) ∙ chars-encodes (c ∷ []) (grind arith)

-- a number in decimal is ASCII, so its bytes are its characters
pub chars-signed_decimal : (n : ℤ) → mag n < 2 ^ 63 → signed_decimal n ≡ chars (signed_decimal n)
chars-signed_decimal n small =
    let ascii = IsAscii-signed n small in
    chars_from_encodes (signed_decimal n) (signed_decimal n) (IsUtf8-from_ascii (signed_decimal n) ascii) (encodes-IsAscii (signed_decimal n) ascii)

-- the type of a text that is not empty
pub type_of_text-some : (told : Told) (text : List ℕ) → (text ≡ [] → ⊥) → type_of_text told text ≡ type_unless_term told text (term text)
type_of_text-some told [] some = absurd (some refl)
type_of_text-some told (c ∷ rest) some = refl
