-- What is said of an expression that has a value, and of one that has none.
use Rattle.std.proofs.Common.{◌≡◌, ◌∙◌, List, ◌++◌, sym, ap}
use Rattle.std.specs.Prelude.{Option, Result, Ok, Err, OnOk}
use Rattle.expression_grammar.specs.Trees.{Tree}
use Rattle.expression_notes.specs.Expressions.{listed}
use Rattle.expression_notes.specs.Repeating.{once_behind}
use Rattle.note_rows.specs.declared.row.Row.{Row}
use Rattle.ordinary_symbols.specs.declared.fault.EvalFault.{EvalFault}
use Rattle.ordinary_symbols.specs.Values.{value}
use Rattle.trace_values.specs.declared.section.Reloc.{Reloc}
use Rattle.operand_checks.specs.Expressions.{judged, judged_by, said_of_fault}
use Rattle.operand_checks.specs.Settings.{Setting}
use Rattle.operand_checks.proofs.Rows.{Stays}

-- a row that stays
pub said_row : {T E : Type 0} (r : Result T E) (before after : List Row) (said wanted : Option Row) → said ≡ wanted → Stays wanted →
    OnOk r (after ≡ before ++ listed said) → OnOk r (after ≡ before ++ once_behind before (listed wanted))
said_row (Ok x) before after said wanted is stays first =
    first ∙ ap (λ one. before ++ listed one) is ∙ ap (λ rows. before ++ rows) (sym (stays before))
said_row (Err e) before after said wanted is stays first = first

-- of an expression with a value
pub judged_ok : {T E : Type 0} (r : Result T E) (before after : List Row) (setting : Setting) (tree : Tree) (say : Reloc → Option Row)
    (place : Reloc) (said : Option Row) → Ok place ≡ value setting.known setting.here tree → said ≡ say place → Stays (say place) →
    OnOk r (after ≡ before ++ listed said) → OnOk r (after ≡ before ++ once_behind before (judged setting tree say))
judged_ok (Ok x) before after setting tree say place said found is stays first =
    first
    ∙ ap (λ one. before ++ listed one) is
    ∙ ap (λ rows. before ++ rows) (sym (stays before))
    ∙ ap (λ result. before ++ once_behind before (judged_by setting tree say result)) found
judged_ok (Err e) before after setting tree say place said found is stays first = first

-- of one without
pub judged_err : {T E : Type 0} (r : Result T E) (before after : List Row) (setting : Setting) (tree : Tree) (say : Reloc → Option Row)
    (fault : EvalFault) → Err fault ≡ value setting.known setting.here tree →
    OnOk r (after ≡ before ++ once_behind before (said_of_fault setting tree)) →
    OnOk r (after ≡ before ++ once_behind before (judged setting tree say))
judged_err (Ok x) before after setting tree say fault found first =
    first ∙ ap (λ result. before ++ once_behind before (judged_by setting tree say result)) found
judged_err (Err e) before after setting tree say fault found first = first
