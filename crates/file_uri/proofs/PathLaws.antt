-- The text that bytes are, by whether they are UTF-8, and the path of a URI, by what its parser answers.
use Rattle.std.proofs.Common.{◌≡◌, ◌⊎◌, inl, inr, ℕ, Bool, true, false, List, Some, None, Err, if◌then◌else◌, refl, subst, sym}
use Rattle.std.specs.Str.{chars, is_utf8, IsUtf8}
use Rattle.std.proofs.lemmas.Str.{IsUtf8-from_is_utf8, is_utf8-from_IsUtf8, encodes-chars}
use Rattle.url.specs.Parser.{Parsed, parse_url, IsOutOfRoom}
use Rattle.url.specs.Parts.{Parts}
use Rattle.url.specs.declared.error.ParseError.{ParseError}
use Rattle.file_uri.specs.Paths.{text_of, local_path, path_of}

-- bytes that are UTF-8 are a text
text_of-utf8 : (bytes : List ℕ) → IsUtf8 bytes → text_of bytes ≡ Some (chars bytes)
unfolding text_of
text_of-utf8 bytes u = rw (is_utf8-from_IsUtf8 bytes u) refl

-- other bytes are none
text_of-other : (bytes : List ℕ) → ¬ (IsUtf8 bytes) → text_of bytes ≡ None
unfolding text_of
text_of-other bytes n = other (is_utf8 bytes) refl
  where
    other : (b : Bool) → is_utf8 bytes ≡ b → (if b then Some (chars bytes) else None) ≡ None
    other true e = absurd (n (IsUtf8-from_is_utf8 bytes e))
    other false e = refl

-- what was read of bytes that are UTF-8
pub text_of-read : (source bytes text read : List ℕ) → bytes ≡ source → IsUtf8 bytes → text ≡ bytes → read ≡ chars text → text_of source ≡ Some read
text_of-read source bytes text read e u same copied = rw (copied, same, e) (text_of-utf8 source (subst IsUtf8 e u))

-- nothing is read of bytes that are not
pub text_of-refused : (source bytes : List ℕ) → bytes ≡ source → ¬ (IsUtf8 bytes) → text_of source ≡ None
text_of-refused source bytes e n = text_of-other source (λ u. n (subst IsUtf8 (sym e) u))

-- the path of a URI whose bytes were parsed
pub path_of-parsed : (uri : List ℕ) (parsed : Parsed Parts) → IsUtf8 uri → parse_url None uri ≡ parsed → path_of (chars uri) ≡ local_path parsed
unfolding path_of
path_of-parsed uri parsed u e = rw (encodes-chars uri u, e) refl

-- there is no path of a URI that the parser refused for another reason than want of room
pub path_of-refused : (uri : List ℕ) (fault : ParseError) → IsUtf8 uri → (parse_url None uri ≡ Err fault) ⊎ IsOutOfRoom fault → ¬ (IsOutOfRoom fault) → path_of (chars uri) ≡ None
path_of-refused uri fault u (inl e) n = path_of-parsed uri (Err fault) u e
path_of-refused uri fault u (inr room) n = absurd (n room)
