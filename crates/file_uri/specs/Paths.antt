-- The path that the URI of a file names (RFC 3986 and RFC 8089, as the URL Standard reads them), on characters.
use Rattle.std.specs.Prelude.{ℕ, ◌==◌, Bool, ◌&&◌, ◌||◌, not, List, [], ◌∷◌, ◌++◌, codes, bytes_eq, encode_utf8_all, if◌then◌else◌, Option, Some, None, Ok, Err}
use Rattle.std.specs.Char.{is_ascii_alphanumeric}
use Rattle.std.specs.List.{flat_map}
use Rattle.std.specs.Str.{chars, is_utf8}
use Rattle.percent_encoding.specs.Percent.{percent_decode, percent_encode_byte}
use Rattle.url.specs.Parser.{Parsed, parse_url}
use Rattle.url.specs.Parts.{Parts, has_host}

-- the text that bytes are, where they are UTF-8
unfoldable pub text_of : List ℕ → Option (List ℕ)
text_of bytes = if is_utf8 bytes then Some (chars bytes) else None

-- a URL names a file of this host: its scheme is `file`, and its host is empty (`localhost` is read as empty)
abbrev pub is_local_file : Parts → Bool
is_local_file url = bytes_eq url.scheme (codes "file") && not (has_host url)

-- the decoded path of a URL that names a file of this host; its query and fragment do not count
abbrev pub local_path : Parsed Parts → Option (List ℕ)
local_path (Ok url) = if is_local_file url then text_of (percent_decode url.path) else None
local_path (Err _) = None

-- the path that a URI names, if any
unfoldable pub path_of : List ℕ → Option (List ℕ)
path_of uri = local_path (parse_url None (encode_utf8_all uri))

-- ---- the URI of a path

-- letters, digits and `-`, `.`, `_`, `~` and `/` stand for themselves
abbrev pub is_plain : (byte : ℕ) → Bool
is_plain byte = is_ascii_alphanumeric byte || (byte == 45 || (byte == 46 || (byte == 95 || (byte == 126 || byte == 47))))

-- any other byte is escaped
abbrev pub escaped : (byte : ℕ) → List ℕ
escaped byte = if is_plain byte then byte ∷ [] else percent_encode_byte byte

-- the URI of the file of a path
unfoldable pub uri_of : List ℕ → List ℕ
uri_of path = chars (codes "file://" ++ flat_map escaped (encode_utf8_all path))
