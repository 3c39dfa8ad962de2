-- Names in a text. HLASM Language Reference SC26-4940, "Symbols", "Variable symbols", "Sequence symbols", "Attributes".
-- What stands before a character is the list of the characters before it, the nearest first.
use Rattle.std.specs.Prelude.{ℕ, ◌+◌, ◌==◌, ◌&&◌, Bool, false, not, List, [], ◌∷◌, ◌++◌, length, take, slice_index, Option, Some, None, encode_utf8_all, if◌then◌else◌}
use Rattle.std.specs.List.{prefix_len}
use Rattle.std.specs.Option.{option_or}
use Rattle.hl_base.specs.Quoting.{is_quoted}
use Rattle.hl_base.specs.Symbols.{is_symbol_character, symbol_of}
use Rattle.hlasm_statements.specs.declared.statement.Field.{Field}
use Rattle.statement_names.specs.declared.name.NameKind.{NameKind}
use Rattle.statement_names.specs.declared.name.NameKind.TheVariants.{Variable, Symbol, SequenceReference}
use Rattle.statement_names.specs.declared.name.Named.{Named}
use Rattle.statement_names.specs.declared.name.WrittenName.{WrittenName}
use Rattle.statement_names.specs.declared.scan.Sought.{Sought}
use Rattle.statement_names.specs.declared.scan.Sought.TheVariants as sought

-- how many letters and digits a text begins with
abbrev pub word_length : List ℕ → ℕ
word_length text = prefix_len is_symbol_character text

-- the letters and digits that it begins with
abbrev pub word : List ℕ → List ℕ
word text = take (word_length text) text

-- the name that a text is
abbrev pub name_of : List ℕ → Option (List ℕ)
name_of text = symbol_of (encode_utf8_all text)

-- a name of a kind, written with so many characters
abbrev pub named : NameKind → (count : ℕ) → Option (List ℕ) → Option Named
named kind count None = None
named kind count (Some name) = Some (record { kind = kind; count = count; name = name })

-- whether a character with these before it and an ampersand itself would be the second of two: of ampersands in a row each
-- two are one character
abbrev pub is_second : (before : List ℕ) → Bool
is_second [] = false
is_second (c ∷ before) = (c == 38) && not (is_second before)

-- a variable symbol begins with an ampersand that is not the second of two, and has the letters and digits behind it
abbrev pub variable_with : (second : Bool) (c : ℕ) (behind : List ℕ) → Option Named
variable_with second c behind = if (c == 38) && not second then named Variable (word_length behind + 1) (name_of (word behind)) else None

-- an ordinary symbol is all of some letters and digits side by side, outside quotes, and no apostrophe stands behind it:
-- before one stand types of self-defining terms and letters of attributes
abbrev pub symbol_with : (joined quoted : Bool) → List ℕ → Option Named
symbol_with joined quoted text =
    if not joined && (not quoted && not (slice_index text (word_length text) == 39))
    then named Symbol (word_length text) (name_of (word text)) else None

-- a sequence symbol that is branched to begins with a period (46) and is all that is left of its operand
abbrev pub reference_with : (c : ℕ) (behind : List ℕ) → Option Named
reference_with c behind = if c == 46 then named SequenceReference (length behind + 1) (name_of behind) else None

-- the name of those that are sought that begins with a character, where these stand before it and these behind
unfoldable pub name_at : Sought → (before : List ℕ) (c : ℕ) (behind : List ℕ) → Option Named
name_at sought.Variables before c behind = variable_with (is_second before) c behind
name_at sought.Symbols before c behind = symbol_with (is_symbol_character (slice_index before 0)) (is_quoted c before) (c ∷ behind)
name_at sought.Branch before c behind = option_or (variable_with (is_second before) c behind) (reference_with c behind)

-- a name where it stands in a field, if there is one
abbrev pub stands : Field → (at : ℕ) → Option Named → List WrittenName
stands field at None = []
stands field at (Some one) = record { kind = one.kind; field = field; at = at; count = one.count; name = one.name } ∷ []

-- the names of those that are sought in a text that stands behind these characters, of which the farthest stands behind so
-- many of a field
abbrev pub names_from : Sought → Field → (at : ℕ) (before text : List ℕ) → List WrittenName
names_from sought field at before [] = []
names_from sought field at before (c ∷ behind) =
    stands field (at + length before) (name_at sought before c behind) ++ names_from sought field at (c ∷ before) behind

-- the names of those that are sought in a text that stands behind so many characters of a field
unfoldable pub names : Sought → Field → (at : ℕ) → List ℕ → List WrittenName
names sought field at text = names_from sought field at [] text
