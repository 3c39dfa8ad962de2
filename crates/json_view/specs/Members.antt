-- A member of a JSON value (RFC 8259, "Objects"), read as one kind. This project.
-- A kind is what it makes of a value: what the value says, or nothing where the value is of another kind.
use Rattle.std.specs.Prelude.{ℕ, ◌^◌, ◌&&◌, ℤ, pos, neg_ℤ, int_le, int_lt, nat_lt, List, [], ◌∷◌, Bool, if◌then◌else◌, Option, Some, None, option_map, option_and_then, ok_or, Result, Ok, Err}
use Rattle.serde_json.specs.Data.{Data, Items, no_items, item}
use Rattle.serde_json.specs.Find.{get, as_number, as_u64, as_i64, as_object}
use Rattle.json_view.specs.declared.members.MemberFault.{MemberFault}
use Rattle.json_view.specs.declared.members.MemberFault.TheVariants.{Missing, WrongKind}

-- ---- members

-- what a kind makes of what was found
abbrev pub read_as : {A : Type 0} → (Data → Option A) → Option Data → Result A MemberFault
read_as kind None = Err Missing
read_as kind (Some found) = ok_or (kind found) WrongKind

-- the member under a name, read as a kind; a value that is no object has no member
abbrev pub member_of : {A : Type 0} → (Data → Option A) → List ℕ → Data → Result A MemberFault
member_of kind name value = read_as kind (get name value)

-- the same where a member that is missing is no fault
abbrev pub unless_missing : {A : Type 0} → Result A MemberFault → Result (Option A) MemberFault
unless_missing (Ok value) = Ok (Some value)
unless_missing (Err Missing) = Ok None
unless_missing (Err WrongKind) = Err WrongKind

-- an answer, with its value as f shows it
abbrev pub shown : {A B E : Type 0} → (A → B) → Result A E → Result B E
shown f (Ok value) = Ok (f value)
shown f (Err fault) = Err fault

-- ---- kinds, beside `as_str`, `as_array` and `as_bool`

-- a value, kept where it passes a test
abbrev pub kept_if : {A : Type 0} → (A → Bool) → A → Option A
kept_if test x = if test x then Some x else None

-- an object, as the value that it is
abbrev pub as_object_value : Data → Option Data
as_object_value value = option_map (λ _. value) (as_object value)

-- a whole number of 32 bits without a sign; a number with a point or an exponent is none, nor is -0
abbrev pub as_u32 : Data → Option ℕ
as_u32 value = option_and_then (kept_if (λ n. nat_lt n (2 ^ 32))) (option_and_then as_u64 (as_number value))

-- whether a whole number has 32 bits with its sign
abbrev pub is_i32 : ℤ → Bool
is_i32 z = int_le (neg_ℤ (pos (2 ^ 31))) z && int_lt z (pos (2 ^ 31))

-- a whole number of 32 bits with its sign; a number with a point or an exponent is none, nor is -0
abbrev pub as_i32 : Data → Option ℤ
as_i32 value = option_and_then (kept_if is_i32) (option_and_then as_i64 (as_number value))

-- ---- for definitions of what the items of a list are

-- the items as a list
abbrev pub list_of : Items → List Data
list_of no_items = []
list_of (item first rest) = first ∷ list_of rest
