-- A row as the code keeps it, its text in parts. No public clause cites this file. This project.
use Rattle.std.specs.Prelude.{ℕ, List, [], ◌++◌, chars}
use Rattle.std.specs.Fmt.{decimal}
use Rattle.note_rows.specs.Table.{Line}
use Rattle.note_rows.specs.declared.wording.Inserted.{Inserted}
use Rattle.note_rows.specs.declared.wording.Inserted.TheVariants.{Nothing, Word, Number}
use Rattle.note_rows.specs.declared.wording.Wording.{Wording}

-- the characters of what is inserted
abbrev pub inserted_text : Inserted → List ℕ
inserted_text Nothing = []
inserted_text (Word word) = chars word.now
inserted_text (Number number) = chars (decimal number)

-- the text of a row
abbrev pub text_of : Wording → List ℕ
text_of wording = chars wording.before.now ++ inserted_text wording.inserted ++ chars wording.behind.now

-- the row
abbrev pub line_of : Wording → Line
line_of wording = record { code = wording.code; severity = wording.severity; text = text_of wording }
