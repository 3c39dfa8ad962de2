-- The characters of numbers that are written out.
use Rattle.std.proofs.Common.{◌≡◌, ◌<◌, ◌^◌, ℤ}
use Rattle.std.specs.Str.{chars}
use Rattle.std.proofs.lemmas.Str.{chars_from_encodes, IsUtf8-from_ascii, encodes-IsAscii}
use Rattle.std.proofs.lemmas.Fmt.{IsAscii-signed}
use Rattle.std.specs.Fmt.{signed_decimal}
use lib.Signed.{mag}

-- a number in decimal is ASCII, so its bytes are its characters
pub chars-signed_decimal : (n : ℤ) → mag n < 2 ^ 63 → signed_decimal n ≡ chars (signed_decimal n)
chars-signed_decimal n small =
    let ascii = IsAscii-signed n small in
    chars_from_encodes (signed_decimal n) (signed_decimal n) (IsUtf8-from_ascii (signed_decimal n) ascii) (encodes-IsAscii (signed_decimal n) ascii)
