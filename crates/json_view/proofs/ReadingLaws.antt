-- The value of bytes, by what a reader of JSON tells of them.
use Rattle.std.proofs.Common.{◌≡◌, ℕ, List, Bool, true, false, None, if◌then◌else◌, refl, ap}
use Rattle.std.specs.Prelude.{IsUtf8}
use Rattle.std.specs.Str.{is_utf8}
use Rattle.std.proofs.lemmas.Str.{IsUtf8-from_is_utf8, is_utf8-from_IsUtf8}
use Rattle.serde_json.specs.Read.{read}
use Rattle.json_view.specs.Texts.{reading}

-- bytes that are UTF-8 have the value of their text
pub reading-utf8 : (bytes : List ℕ) → IsUtf8 bytes → reading bytes ≡ read bytes
unfolding reading
reading-utf8 bytes utf8 = ap (λ b. if b then read bytes else None) (is_utf8-from_IsUtf8 bytes utf8)

-- bytes whose text, if they are one, has no value have none
pub reading-unread : (bytes : List ℕ) → (IsUtf8 bytes → read bytes ≡ None) → reading bytes ≡ None
unfolding reading
reading-unread bytes unread = by_test (is_utf8 bytes) refl where
  by_test : (b : Bool) → is_utf8 bytes ≡ b → (if b then read bytes else None) ≡ None
  by_test true is = unread (IsUtf8-from_is_utf8 bytes is)
  by_test false is = refl
