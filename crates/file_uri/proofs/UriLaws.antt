-- The escapes of a path: the set of bytes that are escaped, and those that stand for themselves.
use Rattle.std.proofs.Common.{◌≡◌, ◌<◌, ℕ, arith, zero, suc, Bool, true, false, not, cond, ◌&&◌, List, [], ◌∷◌, ◌++◌, All, refl, sym, ap, ◌∙◌}
use Rattle.std.specs.List.{flat_map}
use Rattle.std.proofs.lemmas.Bool.Decides.{Decides-below_and}
use Rattle.std.proofs.lemmas.Slice.Eq.{bytes_eq-Decides}
use Rattle.std.specs.Str.{bytes_eq}
use Rattle.percent_encoding.specs.AsciiSet.{should_percent_encode}
use Rattle.percent_encoding.specs.Percent.{encode_byte, percent_encode, percent_encode_byte}
use Rattle.file_uri.specs.declared.TheConstants.{ESCAPED}
use Rattle.file_uri.specs.Paths.{escaped}

-- each byte below a number is escaped as the definition says
abbrev same_below : ℕ → Bool
same_below zero = true
same_below (suc n) = bytes_eq (encode_byte ESCAPED n) (escaped n) && same_below n

same_checked : same_below 256 ≡ true
unfolding percent_encode_byte should_percent_encode
same_checked = refl

same_escape : (b : ℕ) → b < 256 → encode_byte ESCAPED b ≡ escaped b
same_escape =
    (Decides-below_and (λ b. bytes_eq (encode_byte ESCAPED b) (escaped b)) (λ b. encode_byte ESCAPED b ≡ escaped b) same_below (λ b. bytes_eq-Decides _ _) refl (λ _. refl) 256).0 same_checked

-- so is a path
pub same_escapes : (bytes : List ℕ) → All (λ b. b < 256) bytes → percent_encode ESCAPED bytes ≡ flat_map escaped bytes
unfolding percent_encode
same_escapes [] small = refl
same_escapes (b ∷ bytes) small =
    let here : b < 256 = small 0 0 (omega arith) in
    let behind : All (λ b. b < 256) bytes = λ k d within. small (suc k) d (omega (arith, within)) in
    ap (λ z. z ++ flat_map (encode_byte ESCAPED) bytes) (same_escape b here) ∙ ap (λ z. escaped b ++ z) (same_escapes bytes behind)
