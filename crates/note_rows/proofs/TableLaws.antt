-- A row that is worded in parts says what the table says of it (this project).
use Rattle.std.proofs.Common.{◌≡◌, ◌∙◌, ℕ, List, [], ◌++◌, ap, sym, subst}
use Rattle.std.specs.Str.{chars}
use Rattle.std.proofs.lemmas.List.{append-nil}
use Rattle.hl_base.specs.declared.note.Severity.{Severity}
use Rattle.note_rows.specs.declared.row.Row.{Row}
use Rattle.note_rows.specs.Table.{Line, line}

-- what is told is what the table says of a row, which is this one
pub line-row : (row said : Row) (told : Line) → row ≡ said → told ≡ line said → told ≡ line row
line-row row said told same worded = subst (λ (r : Row). told ≡ line r) (sym same) worded

-- nothing is inserted into a text, and nothing stands behind
pub text-alone : (code : ℕ) (severity : Severity) (text : List ℕ) →
    let said : Line = record { code = code; severity = severity; text = text ++ [] ++ chars [] } in
    let meant : Line = record { code = code; severity = severity; text = text } in
    said ≡ meant
unfolding chars
text-alone code severity text =
    ap (λ t. record { code = code; severity = severity; text = t }) (append-nil (text ++ []) ∙ append-nil text)

-- nothing stands before a text, and nothing behind
pub text-within : (code : ℕ) (severity : Severity) (text : List ℕ) →
    let said : Line = record { code = code; severity = severity; text = chars [] ++ text ++ chars [] } in
    let meant : Line = record { code = code; severity = severity; text = text } in
    said ≡ meant
unfolding chars
text-within code severity text =
    ap (λ t. record { code = code; severity = severity; text = t }) (append-nil text)
