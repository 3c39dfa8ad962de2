-- A place in a header and the next, byte by byte (this project). No public contract speaks of it.
use Rattle.std.specs.Prelude.{ℕ, ◌+◌, ◌-◌, ◌*◌, Option, Some, None, ◌==◌, ◌&&◌, nat_lt, nat_le, if◌then◌else◌, slice_index}
use Rattle.std.specs.Char.{is_ascii_digit, to_ascii_lowercase}
use Rattle.rpc_framing.specs.Frames.{is_name_byte, is_blank, is_printed, length_name}
use Rattle.rpc_framing.specs.declared.place.Place.{Place}
use Rattle.rpc_framing.specs.declared.place.Place.TheVariants.{Line, Name, OtherName, Digits, Gap, Value, Return, LastReturn, Whole}
use Rattle.rpc_framing.specs.declared.place.Departure.{Departure}
use Rattle.rpc_framing.specs.declared.place.Departure.TheVariants.{BadHeader, TooLong}

-- a byte of a name, behind so many that agree with the length's
abbrev pub in_name : ℕ → Option ℕ → ℕ → Option Place
in_name seen known byte =
    if is_name_byte byte then (if nat_lt seen 14 && (slice_index length_name seen == to_ascii_lowercase byte) then Some (Name (seen + 1) known) else Some (OtherName known)) else None

-- the first byte of a line, or of the empty one where the length is known
abbrev pub after_line : Option ℕ → ℕ → Option Place
after_line None byte = in_name 0 None byte
after_line (Some n) byte = if byte == 13 then Some (LastReturn n) else in_name 0 (Some n) byte

-- one line says the length
abbrev pub first_length : Option ℕ → Option Place
first_length None = Some (Digits 0 0)
first_length (Some n) = None

-- the colon behind a name
abbrev pub after_colon : ℕ → Option ℕ → Option Place
after_colon seen known = if seen == 14 then first_length known else Some (Gap known)

abbrev pub after_name : ℕ → Option ℕ → ℕ → Option Place
after_name seen known byte = if byte == 58 then after_colon seen known else in_name seen known byte

abbrev pub after_other_name : Option ℕ → ℕ → Option Place
after_other_name known byte = if byte == 58 then Some (Gap known) else (if is_name_byte byte then Some (OtherName known) else None)

-- one digit more, while there are at most ten and the number is not too large
abbrev pub after_digit : ℕ → ℕ → ℕ → Option Place
after_digit count value digit =
    if nat_lt count 10 && nat_le (value * 10 + digit) 16777216 then Some (Digits (count + 1) (value * 10 + digit)) else None

-- what is no digit: a blank before the first, or the end of the line behind one
abbrev pub beside_digits : ℕ → ℕ → ℕ → Option Place
beside_digits count value byte =
    if count == 0 then (if is_blank byte then Some (Digits count value) else None) else (if byte == 13 then Some (Return (Some value)) else None)

abbrev pub after_digits : ℕ → ℕ → ℕ → Option Place
after_digits count value byte = if is_ascii_digit byte then after_digit count value (byte - 48) else beside_digits count value byte

abbrev pub after_value : Option ℕ → ℕ → Option Place
after_value known byte = if byte == 13 then Some (Return known) else (if is_printed byte then Some (Value known) else None)

abbrev pub after_gap : Option ℕ → ℕ → Option Place
after_gap known byte = if is_blank byte then Some (Gap known) else after_value known byte

-- the LF behind a CR
abbrev pub after_return : Place → ℕ → Option Place
after_return next byte = if byte == 10 then Some next else None

-- the place with one byte more, if the header goes on so
unfoldable pub place_after : Place → ℕ → Option Place
place_after (Line known) byte = after_line known byte
place_after (Name seen known) byte = after_name seen known byte
place_after (OtherName known) byte = after_other_name known byte
place_after (Digits count value) byte = after_digits count value byte
place_after (Gap known) byte = after_gap known byte
place_after (Value known) byte = after_value known byte
place_after (Return known) byte = after_return (Line known) byte
place_after (LastReturn n) byte = after_return (Whole n) byte
place_after (Whole n) byte = None

-- the length that a whole header says
abbrev pub length_at : Place → Option ℕ
length_at (Line known) = None
length_at (Name seen known) = None
length_at (OtherName known) = None
length_at (Digits count value) = None
length_at (Gap known) = None
length_at (Value known) = None
length_at (Return known) = None
length_at (LastReturn n) = None
length_at (Whole n) = Some n

-- the shortest line of the length, while it is to come
abbrev pub owed : Option ℕ → ℕ
owed None = 18
owed (Some n) = 0

-- what a name needs: the rest of the length's, a colon and a digit, or to be another one and its colon; and the two ends
abbrev pub name_needs : ℕ → Option ℕ → ℕ
name_needs seen None = 20 - seen
name_needs seen (Some n) = if seen == 14 then 6 else 5

-- the fewest bytes that make the header whole
abbrev pub need : Place → ℕ
need (Line known) = owed known + 2
need (Name seen known) = name_needs seen known
need (OtherName known) = owed known + 5
need (Digits count value) = if count == 0 then 5 else 4
need (Gap known) = owed known + 4
need (Value known) = owed known + 4
need (Return known) = owed known + 3
need (LastReturn n) = 1
need (Whole n) = 0

-- a length that passes the greatest with this byte
abbrev pub departs_with : ℕ → ℕ → Departure
departs_with value byte = if is_ascii_digit byte && nat_lt 16777216 (value * 10 + (byte - 48)) then TooLong else BadHeader

-- what is wrong with a byte that does not go on from a place
abbrev pub departure_at : Place → ℕ → Departure
departure_at (Digits count value) byte = departs_with value byte
departure_at (Line known) byte = BadHeader
departure_at (Name seen known) byte = BadHeader
departure_at (OtherName known) byte = BadHeader
departure_at (Gap known) byte = BadHeader
departure_at (Value known) byte = BadHeader
departure_at (Return known) byte = BadHeader
departure_at (LastReturn n) byte = BadHeader
departure_at (Whole n) byte = BadHeader
