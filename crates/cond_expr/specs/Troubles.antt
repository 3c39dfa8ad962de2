-- The notes of an evaluation, with their texts. Their stack is empty: whoever knows the statement fills it in. This
-- project.
use Rattle.std.specs.Prelude.{ℕ, List, [], ◌++◌, ◌==◌, codes, chars, if◌then◌else◌}
use Rattle.hl_base.specs.declared.note.Note.{Note}
use Rattle.hl_base.specs.declared.note.Severity.{Severity}
use Rattle.hl_base.specs.declared.note.Severity.TheVariants.{Error, Warning}

-- a note of this code, severity and text
abbrev pub note : ℕ → Severity → List ℕ → Note
note code severity text = record { code = code; severity = severity; text = text; stack = [] }

-- a variable symbol that is neither a parameter, nor declared, nor set, nor a system variable of this place
abbrev pub no_value : List ℕ → Note
no_value name = note 20 Error ((codes "&" ++ chars name) ++ codes " has no value here")

-- a subscript out of range, or one where none may stand, or none where one must
abbrev pub bad_subscript : List ℕ → Note
bad_subscript name = note 22 Error ((codes "subscript of &" ++ chars name) ++ codes " is out of range")

-- why a variable symbol stands for nothing, by its code
abbrev pub fault : ℕ → List ℕ → Note
fault code name = if code == 22 then bad_subscript name else no_value name

-- a number outside 32 bits with sign
abbrev pub overflow : Note
overflow = note 23 Error ((codes "arithmetic result does not fit 32 bits" ++ []) ++ codes "")

-- a symbol that is neither defined nor found ahead
abbrev pub no_length : List ℕ → Note
no_length symbol = note 24 Warning ((codes "symbol " ++ symbol) ++ codes " has no length attribute")

-- a variable symbol whose text is no self-defining term, where a number is wanted
abbrev pub no_number : List ℕ → Note
no_number name = note 26 Error ((codes "value of &" ++ chars name) ++ codes " is not a number")

-- a substring that begins outside its text
abbrev pub outside : Note
outside = note 27 Error ((codes "substring begins outside the text" ++ []) ++ codes "")

-- a text of more than 1,024 characters
abbrev pub too_long : Note
too_long = note 28 Error ((codes "text is longer than 1024 characters" ++ []) ++ codes "")
