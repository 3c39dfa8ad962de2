use Rattle.std.proofs.Common.{◌≡◌, drop, length}
use Rattle.std.specs.Str.{chars}
use Rattle.macro_library.specs.Contents.{text_number}
use Rattle.macro_library.proofs.content.text_number.Given as goal

-- the characters that are left bring the number of what was read to that of the whole
abbrev pub invariant-loop-character : goal.invariant-loop-character
invariant-loop-character l = text_number l.number (drop (length l.yielded) (chars l.text)) ≡ text_number l.start (chars l.text)
