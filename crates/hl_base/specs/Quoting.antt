-- Quoted texts and parentheses in a field. HLASM Language Reference SC26-4940, "Attributes" and "Character expressions":
-- apostrophes stand around a text, but one behind the letter of an attribute reference opens none.
-- What stands before a character is the list of the characters before it, the nearest first.
use Rattle.std.specs.Prelude.{◌≡◌, ℕ, ◌+◌, ◌-◌, Bool, true, false, not, ◌||◌, ◌&&◌, ◌==◌, List, [], ◌∷◌, slice_index, if◌then◌else◌}
use Rattle.std.specs.Char.{to_ascii_uppercase}
use Rattle.hl_base.specs.Symbols.{is_letter, is_symbol_character}
use Rattle.hl_base.specs.declared.quoting.Mark.{Mark}
use Rattle.hl_base.specs.declared.quoting.Mark.TheVariants.{Free, Joined, Letter, Apostrophe, Quoted}
use Rattle.hl_base.specs.declared.quoting.Nesting.{Nesting}

-- one of the upper-case letters D, I, K, L, N, O, S and T
abbrev pub names_attribute : ℕ → Bool
names_attribute u = (u == 68) || ((u == 73) || ((u == 75) || ((u == 76) || ((u == 78) || ((u == 79) || ((u == 83) || (u == 84)))))))

-- a letter of an attribute reference, in either case
abbrev pub is_attribute_letter : ℕ → Bool
is_attribute_letter c = is_letter c && names_attribute (to_ascii_uppercase c)

-- behind such a character a letter goes on with a symbol and begins none: a symbol character, or an ampersand
abbrev pub is_joining : ℕ → Bool
is_joining c = is_symbol_character c || c == 38

-- what an attribute's apostrophe stands before: a letter, an ampersand or an equals sign
abbrev pub is_attributed : ℕ → Bool
is_attributed c = is_letter c || (c == 38 || c == 61)

-- whether an apostrophe outside quotes with these characters before it, and this one behind it, is an attribute's
abbrev pub is_of_attribute : (behind : ℕ) (before : List ℕ) → Bool
is_of_attribute behind before =
    is_attributed behind && (is_attribute_letter (slice_index before 0) && not (is_joining (slice_index before 1)))

-- whether a character stands within quotes, where these stand before it: an apostrophe outside quotes opens them unless
-- it is an attribute's, and the next apostrophe closes them
abbrev pub is_quoted : (c : ℕ) (before : List ℕ) → Bool
is_quoted c [] = false
is_quoted c (last ∷ before) =
    if is_quoted last before then not (last == 39) else ((last == 39) && not (is_of_attribute c before))

-- how many are open behind a character outside quotes, with so many open before it
abbrev pub depth_outside : ℕ → ℕ → ℕ
depth_outside open_before c = if c == 40 then open_before + 1 else (if c == 41 then open_before - 1 else open_before)

-- how many parentheses are open behind these characters, counted from the left outside quotes; a closing one that
-- closes none counts for nothing
abbrev pub depth : (before : List ℕ) → ℕ
depth [] = 0
depth (last ∷ before) =
    if is_quoted last before then depth before else depth_outside (depth before) last

-- ---- what the reader of characters keeps

-- what a character outside quotes that is no apostrophe leaves, where it may begin a symbol or not
abbrev pub mark_outside : Bool → ℕ → Mark
mark_outside begins c = if begins && is_attribute_letter c then Letter else (if is_joining c then Joined else Free)

-- what a character leaves
abbrev pub mark_behind : Mark → ℕ → Mark
mark_behind Free c = if c == 39 then Quoted else mark_outside true c
mark_behind Joined c = if c == 39 then Quoted else mark_outside false c
mark_behind Letter c = if c == 39 then Apostrophe else mark_outside false c
mark_behind Apostrophe c = if is_attributed c then mark_outside true c else (if c == 39 then Free else Quoted)
mark_behind Quoted c = if c == 39 then Free else Quoted

-- whether a character behind this mark stands within quotes
abbrev pub is_within : Mark → ℕ → Bool
is_within Free c = false
is_within Joined c = false
is_within Letter c = false
is_within Apostrophe c = not (is_attributed c)
is_within Quoted c = true

-- whether an apostrophe may be an attribute's behind these characters
abbrev pub ends_in_letter : List ℕ → Bool
ends_in_letter before = is_attribute_letter (slice_index before 0) && not (is_joining (slice_index before 1))

-- what the mark says of the last characters
abbrev pub Ends : Mark → List ℕ → Type 0
Ends Free before = is_joining (slice_index before 0) ≡ false
Ends Joined before = (is_joining (slice_index before 0) ≡ true) × (ends_in_letter before ≡ false)
Ends Letter before = (is_joining (slice_index before 0) ≡ true) × (ends_in_letter before ≡ true)
Ends Apostrophe before = is_joining (slice_index before 0) ≡ false
Ends Quoted before = Unit {0}

-- the mark says of these characters what follows for the next one
pub record Marks (mark : Mark) (before : List ℕ) : Type 0 where
  pub ends : Ends mark before
  pub within : (c : ℕ) → is_quoted c before ≡ is_within mark c

-- the nesting is that behind these characters
pub record IsBehind (nesting : Nesting) (before : List ℕ) : Type 0 where
  pub mark : Marks nesting.mark before
  pub depth : nesting.depth ≡ depth before
