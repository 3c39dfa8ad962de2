-- What is said of a name once (this project): that a symbol of a statement has no length attribute is one note for its name,
-- however often the statement uses it. All other notes come as often as there is cause.
use Rattle.std.specs.Prelude.{Bool, ◌==◌, ◌&&◌, not, List, [], ◌∷◌, encode_utf8_all}
use Rattle.std.specs.List.{filter}
use Rattle.std.specs.Str.{bytes_eq}
use Rattle.hl_base.specs.declared.note.Note.{Note}

-- a note that an earlier one makes idle: both say in the same words that a symbol has no length attribute
abbrev pub repeats : (earlier note : Note) → Bool
repeats earlier note = earlier.code == 24 && (note.code == 24 && bytes_eq (encode_utf8_all earlier.text) (encode_utf8_all note.text))

-- the notes without those that repeat an earlier one
abbrev pub once : List Note → List Note
once [] = []
once (note ∷ notes) = note ∷ filter (λ later. not (repeats note later)) (once notes)
