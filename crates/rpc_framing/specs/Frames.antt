-- Frames of the base protocol (LSP 3.17, "Base Protocol"): header lines, an empty line, and then the body.
use Rattle.std.specs.Prelude.{◌≡◌, ℕ, ◌-◌, ◌<◌, ◌≤◌, Bool, ◌==◌, ◌||◌, List, [], ◌∷◌, ◌++◌, length, take, map, codes}
use Rattle.std.specs.Char.{is_ascii_alphanumeric, to_ascii_lowercase}
use Rattle.std.specs.Fmt.{decimal}
use Rattle.std.specs.Int.{is_in_range}
use Rattle.std.specs.List.{All, AllPass, flat_map}
use Rattle.std.specs.Str.Parse.{IsNumeral, digits_value}

-- ---- header lines

-- what a name is made of: letters, digits and `-`
unfoldable pub is_name_byte : ℕ → Bool
is_name_byte byte = is_ascii_alphanumeric byte || (byte == 45)

-- a space or a tab
unfoldable pub is_blank : ℕ → Bool
is_blank byte = (byte == 32) || (byte == 9)

-- what a value is made of: the printable characters of ASCII, spaces among them
unfoldable pub is_printed : ℕ → Bool
is_printed byte = is_in_range 32 126 byte

-- the name of the line that says the length, in lower case
unfoldable pub length_name : List ℕ
length_name = codes "content-length"

-- A name: one or more of its bytes.
pub record IsName (name : List ℕ) : Type 0 where
  pub some : 0 < length name
  pub all : AllPass is_name_byte name

-- `Content-Length`, in any case of letters.
pub record IsLengthName (name : List ℕ) : Type 0 where
  pub same : map to_ascii_lowercase name ≡ length_name

-- A line of this name: the name, a colon, any blanks, and this value.
pub record IsField (line name value : List ℕ) : Type 0 where
  pub blanks : List ℕ
  pub named : IsName name
  pub blank : AllPass is_blank blanks
  pub is : line ≡ name ++ 58 ∷ (blanks ++ value)

-- The line that says the length n: one to ten digits, leading zeros among them, of a number up to 16 MiB.
pub record SaysLength (line : List ℕ) (n : ℕ) : Type 0 where
  pub name : List ℕ
  pub digits : List ℕ
  pub field : IsField line name digits
  pub named : IsLengthName name
  pub numeral : IsNumeral 10 digits
  pub few : length digits ≤ 10
  pub value : digits_value 10 digits ≡ n
  pub bound : n ≤ 16777216

-- A line of another name, which is read over.
pub record IsOtherLine (line : List ℕ) : Type 0 where
  pub name : List ℕ
  pub value : List ℕ
  pub field : IsField line name value
  pub other : IsLengthName name → ⊥
  pub printed : AllPass is_printed value

-- Of these lines exactly one says the length, and that is n.
pub record SayOneLength (lines : List (List ℕ)) (n : ℕ) : Type 0 where
  pub before : List (List ℕ)
  pub line : List ℕ
  pub behind : List (List ℕ)
  pub others_before : All IsOtherLine before
  pub says : SaysLength line n
  pub others_behind : All IsOtherLine behind
  pub is : lines ≡ before ++ line ∷ behind

-- ---- frames

-- what ends a line: CR and LF
abbrev pub line_end : List ℕ
line_end = 13 ∷ 10 ∷ []

-- lines one behind the other, each with its end
abbrev pub ended : List (List ℕ) → List ℕ
ended lines = flat_map (λ line. line ++ line_end) lines

-- A header that says n: its lines, and then an empty one, in at most 4,096 bytes.
pub record IsHead (head : List ℕ) (n : ℕ) : Type 0 where
  pub lines : List (List ℕ)
  pub says : SayOneLength lines n
  pub is : head ≡ ended lines ++ line_end
  pub fits : length head ≤ 4096

-- A frame of a body: a header that says its length, and the body.
pub record IsFrame (bytes body : List ℕ) : Type 0 where
  pub head : List ℕ
  pub says : IsHead head (length body)
  pub is : bytes ≡ head ++ body

-- One frame of each body, one behind the other, and nothing else.
abbrev pub IsFrames : List ℕ → List (List ℕ) → Type 0
IsFrames bytes [] = bytes ≡ []
IsFrames bytes (body ∷ bodies) = (frame : List ℕ) × (rest : List ℕ) × IsFrame frame body × IsFrames rest bodies × (bytes ≡ frame ++ rest)

-- What goes on to a sequence of frames.
pub record BeginsFrames (bytes : List ℕ) : Type 0 where
  pub more : List ℕ
  pub bodies : List (List ℕ)
  pub frames : IsFrames (bytes ++ more) bodies

-- Less than a whole frame: nothing yet, or what a byte or more makes a frame.
pub record IsPartial (bytes : List ℕ) : Type 0 where
  pub more : List ℕ
  pub body : List ℕ
  pub some : 0 < length more
  pub frame : IsFrame (bytes ++ more) body

-- A stream is the frames of these bodies, and then less than a whole frame.
pub record Splits (stream : List ℕ) (bodies : List (List ℕ)) (rest : List ℕ) : Type 0 where
  pub front : List ℕ
  pub frames : IsFrames front bodies
  pub partial : IsPartial rest
  pub is : stream ≡ front ++ rest

-- The first `at` bytes begin no frame, and without the last of them they are less than a whole one.
pub record IsBadStart (bytes : List ℕ) (at : ℕ) : Type 0 where
  pub some : 0 < at
  pub within : at ≤ length bytes
  pub bad : BeginsFrames (take at bytes) → ⊥
  pub partial : IsPartial (take (at - 1) bytes)

-- ---- what is written

-- what a written header begins with
unfoldable pub label : List ℕ
label = codes "Content-Length: "

-- The frame that is written of a body: one line with its length in decimal without leading zeros, an empty line, and the
-- body.
abbrev pub frame : List ℕ → List ℕ
frame body = label ++ (decimal (length body) ++ (line_end ++ line_end)) ++ body
