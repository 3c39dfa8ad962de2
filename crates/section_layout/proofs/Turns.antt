-- Rows that are said one after the other.
use Rattle.std.proofs.Common.{Option, ◌+◌, ◌<◌, length, take, get_or, map, append-nil, ◌≡◌, ◌∙◌, ℕ, List, [], ◌∷◌, ◌++◌, refl, sym, ap}
use Rattle.std.proofs.lemmas.Grind.{flat_map-append}
use Rattle.std.proofs.lemmas.List.{map_more}
use Rattle.constant_operands.specs.declared.operand.ConstantOperand.{ConstantOperand}
use Rattle.constant_operands.specs.Views.{operand_of}
use Rattle.expression_notes.proofs.Turns.{in_turn, undefined-append}
use Rattle.expression_notes.specs.Expressions.{undefined}
use Rattle.expression_notes.specs.Repeating.{once_behind}
use Rattle.note_rows.specs.declared.row.Row.{Row}
use Rattle.constant_operands.specs.Operands.{Operand}
use Rattle.ordinary_symbols.specs.Known.{Knowledge}
use Rattle.trace_values.specs.declared.section.Reloc.{Reloc}
use Rattle.section_layout.specs.Rows.{said_of_one, said_of_operands}

-- what was said, and then what is left to say
pub said_next : (old new xs ys : List Row) → new ≡ old ++ once_behind old xs → new ++ once_behind new ys ≡ old ++ once_behind old (xs ++ ys)
said_next old new xs ys is = in_turn old new (new ++ once_behind new ys) xs ys is refl

-- one more operand
said_of_operands-push : (known : Knowledge) (here : Option Reloc) (xs : List Operand) (x : Operand) →
    said_of_operands known here (xs ++ x ∷ []) ≡ said_of_operands known here xs ++ said_of_one known here x
said_of_operands-push known here xs x =
    flat_map-append (said_of_one known here) xs (x ∷ [])
    ∙ ap (λ rows. said_of_operands known here xs ++ rows) (append-nil (said_of_one known here x))

pub operands_more : (known : Knowledge) (here : Option Reloc) (before middle after : List Row) (operands : List ConstantOperand) (i : ℕ)
    (one : ConstantOperand) →
    middle ≡ before ++ once_behind before (said_of_operands known here (map operand_of (take i operands))) →
    after ≡ middle ++ once_behind middle (said_of_one known here (operand_of one)) →
    i < length operands → one ≡ get_or operands i one →
    after ≡ before ++ once_behind before (said_of_operands known here (map operand_of (take (i + 1) operands)))
operands_more known here before middle after operands i one first second h at =
    let front = map operand_of (take i operands) in
    in_turn before middle after (said_of_operands known here front) (said_of_one known here (operand_of one)) first second
    ∙ ap (λ rows. before ++ once_behind before rows)
    (sym (said_of_operands-push known here front (operand_of one))
    ∙ ap (λ x. said_of_operands known here (front ++ operand_of x ∷ [])) at
    ∙ ap (said_of_operands known here) (sym (map_more operand_of operands i one h)))

-- the same of names
pub undefined_next : (known : Knowledge) (old new : List Row) (name : List ℕ) (names : List (List ℕ)) →
    new ≡ old ++ once_behind old (undefined known (name ∷ [])) →
    new ++ once_behind new (undefined known names) ≡ old ++ once_behind old (undefined known (name ∷ names))
undefined_next known old new name names is =
    said_next old new (undefined known (name ∷ [])) (undefined known names) is
    ∙ ap (λ rows. old ++ once_behind old rows) (sym (undefined-append known (name ∷ []) names))
