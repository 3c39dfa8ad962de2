-- What is said of constants, one after the other.
use Rattle.std.proofs.Common.{◌≡◌, ◌∙◌, ℕ, ◌+◌, ◌<◌, List, [], ◌∷◌, ◌++◌, length, take, get_or, map, sym, ap, append-nil}
use Rattle.std.proofs.lemmas.Grind.{flat_map-append}
use Rattle.std.proofs.lemmas.List.{map_more}
use Rattle.constant_operands.specs.declared.operand.ConstantOperand.{ConstantOperand}
use Rattle.constant_operands.specs.Operands.{Operand}
use Rattle.constant_operands.specs.Views.{operand_of}
use Rattle.expression_notes.proofs.Turns.{in_turn}
use Rattle.expression_notes.specs.Repeating.{once_behind}
use Rattle.note_rows.specs.declared.row.Row.{Row}
use Rattle.operand_checks.specs.Literals.{said_of_addresses}
use Rattle.operand_checks.specs.Settings.{Setting}
use Rattle.statement_checks.specs.Statements.{said_of_constants}

said_of_constants-push : (setting : Setting) (xs : List Operand) (x : Operand) →
    said_of_constants setting (xs ++ x ∷ []) ≡ said_of_constants setting xs ++ said_of_addresses setting x
said_of_constants-push setting xs x =
    flat_map-append (said_of_addresses setting) xs (x ∷ [])
    ∙ ap (λ rows. said_of_constants setting xs ++ rows) (append-nil (said_of_addresses setting x))

-- of one more
pub constants_more : (setting : Setting) (before middle after : List Row) (operands : List ConstantOperand) (i : ℕ) (one : ConstantOperand) →
    middle ≡ before ++ once_behind before (said_of_constants setting (map operand_of (take i operands))) →
    after ≡ middle ++ once_behind middle (said_of_addresses setting (operand_of one)) →
    i < length operands → one ≡ get_or operands i one →
    after ≡ before ++ once_behind before (said_of_constants setting (map operand_of (take (i + 1) operands)))
constants_more setting before middle after operands i one first second h at =
    let front = map operand_of (take i operands) in
    in_turn before middle after (said_of_constants setting front) (said_of_addresses setting (operand_of one)) first second
    ∙ ap (λ rows. before ++ once_behind before rows)
    (sym (said_of_constants-push setting front (operand_of one))
    ∙ ap (λ x. said_of_constants setting (front ++ operand_of x ∷ [])) at
    ∙ ap (said_of_constants setting) (sym (map_more operand_of operands i one h)))
