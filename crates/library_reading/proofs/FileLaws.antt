-- What the bytes of a file are.
use Rattle.std.proofs.Common.{◌≡◌, ℕ, ◌<◌, ◌≤◌, Bool, true, false, cond, ◌&&◌, List, length, nat_le, chars, refl, ap, ◌∙◌}
use Rattle.std.specs.Str.{IsUtf8, is_utf8}
use Rattle.std.proofs.lemmas.Bool.{le-leb, lt-leb}
use Rattle.std.proofs.lemmas.Str.{IsUtf8-from_is_utf8, is_utf8-from_IsUtf8}
use Rattle.text_pool.specs.declared.pool.TheConstants.{LONGEST_TEXT}
use Rattle.document_store.specs.Store.{File, Readable, Unreadable}
use Rattle.library_reading.specs.Taking.{file_of_bytes}

abbrev file_if : List ℕ → (utf8 short : Bool) → File
file_if bytes utf8 short = cond (utf8 && short) (Readable (chars bytes)) Unreadable

-- bytes in UTF-8 that are not too many are a text
pub file_of_text : (bytes : List ℕ) → IsUtf8 bytes → length bytes ≤ LONGEST_TEXT → file_of_bytes bytes ≡ Readable (chars bytes)
file_of_text bytes utf8 short =
    ap (λ b. file_if bytes b (nat_le (length bytes) LONGEST_TEXT)) (is_utf8-from_IsUtf8 bytes utf8) ∙ ap (file_if bytes true) (le-leb (length bytes) LONGEST_TEXT short)

not_true : (b : Bool) → (b ≡ true → ⊥) → b ≡ false
not_true true other = absurd (other refl)
not_true false other = refl

-- a refusal is no text
pub no_text : false ≡ true → ⊥
no_text same = cc

-- other bytes cannot be read
pub file_of_others : (bytes : List ℕ) → (IsUtf8 bytes → ⊥) → file_of_bytes bytes ≡ Unreadable
file_of_others bytes other = ap (λ b. file_if bytes b (nat_le (length bytes) LONGEST_TEXT)) (not_true (is_utf8 bytes) (λ e. other (IsUtf8-from_is_utf8 bytes e)))

-- too many bytes cannot be read
pub file_of_many : (bytes : List ℕ) → LONGEST_TEXT < length bytes → file_of_bytes bytes ≡ Unreadable
file_of_many bytes long = ap (file_if bytes (is_utf8 bytes)) (lt-leb (length bytes) LONGEST_TEXT long) ∙ by (is_utf8 bytes) where
  by : (b : Bool) → file_if bytes b false ≡ Unreadable
  by true = refl
  by false = refl
