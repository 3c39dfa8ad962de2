-- The value that bytes are: JSON (RFC 8259) in UTF-8.
use Rattle.std.specs.Prelude.{ℕ, List, if◌then◌else◌, Option, None}
use Rattle.std.specs.Str.{is_utf8}
use Rattle.serde_json.specs.Data.{Data}
use Rattle.serde_json.specs.Read.{read}

-- the value that bytes are, where they are UTF-8 and their text is one JSON value of at most 127 levels of lists and
-- objects; no other bytes have a value, nor has a text with an escaped lone surrogate or a number too large for a float
unfoldable pub reading : List ℕ → Option Data
reading bytes = if is_utf8 bytes then read bytes else None
