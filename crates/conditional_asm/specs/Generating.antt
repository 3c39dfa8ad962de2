-- The line of a generated statement (HLASM Language Reference SC26-4940, "Model statements"): name entry and operands with the
-- values of their variable symbols.
use Rattle.std.specs.Prelude.{ℕ, Bool, List, [], ◌∷◌, if◌then◌else◌}
use Rattle.hl_base.specs.declared.note.Note.{Note}
use Rattle.hl_base.specs.declared.set.Line.{Line}
use Rattle.hlasm_statements.specs.Fields.{ends_quoted}
use Rattle.cond_expr.specs.Told.{Told}
use Rattle.cond_expr.specs.Outcome.{Outcome, Gives, gives, noting, and_then}
use Rattle.conditional_fields.specs.Endings.{field_of}
use Rattle.statement_reading.specs.Fields.{Entry, written, varying, Fields}
use Rattle.conditional_asm.specs.Substitution.{substituted}
use Rattle.conditional_asm.specs.Troubles.{open_apostrophe}

-- what is said of an operand field by whether it ends within quotes
abbrev pub open_quote : (open_end : Bool) → List Note
open_quote open_end = if open_end then open_apostrophe ∷ [] else []

-- an entry with the values of its variable symbols
abbrev pub entry_text : Entry → Told → Outcome (List ℕ)
entry_text (written text) told = gives text
entry_text (varying parts) told = substituted parts told

-- operands: once variable symbols have their values, the field ends at its first blank outside quotes, or within quotes
abbrev pub operand_text : Entry → Told → Outcome (List ℕ)
operand_text (written text) told = gives text
operand_text (varying parts) told =
    and_then (substituted parts told) (λ text. Gives (field_of text) (open_quote (ends_quoted (field_of text))))

-- the line with this operation: operands as they are written were judged when they were read
abbrev pub line_of : (op : List ℕ) → Fields → Told → Outcome Line
line_of op fields told =
    noting (open_quote fields.open_end)
    (and_then (entry_text fields.label told) (λ label.
    and_then (operand_text fields.operands told) (λ operands.
    gives (record { label = label; op = op; operands = operands }))))
