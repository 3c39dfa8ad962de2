-- The notes of statements, with their texts. Their stack is empty: whoever knows the statement fills it in. This project.
use Rattle.std.specs.Prelude.{ℕ, List, ◌++◌, codes, chars}
use Rattle.std.specs.Fmt.{decimal}
use Rattle.hl_base.specs.declared.note.Note.{Note}
use Rattle.hl_base.specs.declared.note.Severity.{Severity}
use Rattle.hl_base.specs.declared.note.Severity.TheVariants.{Error, Warning}
use Rattle.cond_expr.specs.Troubles.{note}

-- a label alone, or an operation that is substituted by nothing
abbrev pub no_operation : Note
no_operation = note 4 Error (codes "the statement has no operation")

-- an operand field that ends within quotes
abbrev pub open_apostrophe : Note
open_apostrophe = note 6 Error (codes "an apostrophe is not closed")

-- an operand that reads no further than a place, counted from 0
abbrev pub unreadable : ℕ → Note
unreadable at = note 10 Error (codes "the operand cannot be read at character " ++ chars (decimal at) ++ codes "")

-- an operation that nothing defines
abbrev pub undefined : List ℕ → Note
undefined op = note 40 Error (codes "operation " ++ op ++ codes " is not defined")

-- an operation that is left out
abbrev pub left_out : List ℕ → Note
left_out op = note 41 Warning (codes "operation " ++ op ++ codes " is left out of this profile")

-- what the author of a statement says with MNOTE
abbrev pub author : Severity → (words : List ℕ) → Note
author severity words = note 0 severity words
