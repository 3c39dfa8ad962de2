-- Words and blanks at the front of a text, of which each byte is a character.
use Rattle.std.proofs.Common.{◌≡◌, ◌∙◌, ℕ, ◌<◌, ◌≤◌, Bool, true, List, [], ◌∷◌, length, take, drop, zero, suc, sym, ap, subst, inl, inr, arith}
use Rattle.std.specs.Prelude.{chars, IsUtf8, min}
use Rattle.std.specs.Str.{IsAscii}
use Rattle.std.specs.List.{prefix_len}
use Rattle.std.proofs.lemmas.Bool.{cases_Bool}
use Rattle.std.proofs.lemmas.List.Sums.{prefix_len-le-length}
use Rattle.hlasm_statements.specs.Columns.{is_blank}
use Rattle.hlasm_statements.specs.Reading.{is_ascii_ink}
use Rattle.hlasm_statements.proofs.ListLaws.{prefix_len-pass, prefix_len-stop}
use Rattle.hlasm_statements.proofs.CharLaws.{ascii-front, ascii-back}
use Rattle.hlasm_statements.proofs.ByteLaws.{blank_small, ascii_parts}

pub ascii-cons : (b : ℕ) (bs : List ℕ) → b < 128 → IsAscii bs → IsAscii (b ∷ bs)
ascii-cons b bs small all zero = small
ascii-cons b bs small all (suc i) = all i

pub ascii-nil : IsAscii []
ascii-nil i = omega arith

-- what passes a test that only ASCII bytes pass
ascii-while : (p : ℕ → Bool) → ((b : ℕ) → p b ≡ true → b < 128) → (bs : List ℕ) → IsAscii (take (prefix_len p bs) bs)
ascii-while p small [] = ascii-nil
ascii-while p small (b ∷ bs) =
    let P : ℕ → Type 0 = λ n. IsAscii (take n (b ∷ bs)) in
    elim (cases_Bool (p b)) [
      | inl passes ↦ subst P (sym (prefix_len-pass p b bs passes)) (ascii-cons b (take (prefix_len p bs) bs) (small b passes) (ascii-while p small bs))
      | inr stops ↦ subst P (sym (prefix_len-stop p b bs stops)) ascii-nil
    ]

-- so many bytes are as many characters
pub record IsCut (bs : List ℕ) (count size : ℕ) : Type 0 where
  pub fits : count ≤ length bs
  pub ascii : IsAscii (take count bs)
  pub same : count ≡ size

pub blanks-cut : (bs : List ℕ) (count size : ℕ) → count ≡ prefix_len is_blank bs → count ≡ size → IsCut bs count size
blanks-cut bs count size counts same =
    let P : ℕ → Type 0 = λ n. IsAscii (take n bs) in
    record {
      fits = omega (arith, counts, prefix_len-le-length is_blank bs);
      ascii = subst P (sym counts) (ascii-while is_blank blank_small bs);
      same = same;
    }

pub word-cut : (bs : List ℕ) (count size : ℕ) → count ≡ prefix_len is_ascii_ink bs → count ≡ size → IsCut bs count size
word-cut bs count size counts same =
    let P : ℕ → Type 0 = λ n. IsAscii (take n bs) in
    record {
      fits = omega (arith, counts, prefix_len-le-length is_ascii_ink bs);
      ascii = subst P (sym counts) (ascii-while is_ascii_ink (λ b ink. (ascii_parts b ink).0) bs);
      same = same;
    }

whole-count : (bs : List ℕ) (count : ℕ) → count ≤ length bs → count ≡ min count (length bs)
whole-count bs count fits = omega (arith, fits)

pub front-cut : (bs : List ℕ) (count size : ℕ) → IsUtf8 bs → IsCut bs count size → chars (take count bs) ≡ take size (chars bs)
front-cut bs count size u is = ascii-front bs count count u (whole-count bs count is.fits) is.ascii ∙ ap (λ n. take n (chars bs)) is.same

pub back-cut : (bs : List ℕ) (count size : ℕ) → IsUtf8 bs → IsCut bs count size → chars (drop count bs) ≡ drop size (chars bs)
back-cut bs count size u is = ascii-back bs count count u (whole-count bs count is.fits) is.ascii ∙ ap (λ n. drop n (chars bs)) is.same
