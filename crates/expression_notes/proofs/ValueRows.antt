-- What is said of values is never left out: it names no symbol.
use Rattle.std.proofs.Common.{◌≡◌, ◌∙◌, List, ◌++◌, refl, sym, ap}
use Rattle.std.specs.Prelude.{Option, Some, None, Result, Ok, Err, OnOk}
use Rattle.trace_values.specs.declared.section.Reloc.{Reloc}
use Rattle.trace_values.specs.declared.section.SectionId.{SectionId}
use Rattle.note_rows.specs.declared.row.Row.{Row}
use Rattle.ordinary_symbols.specs.declared.fault.EvalFault.{EvalFault}
use Rattle.ordinary_symbols.specs.declared.fault.EvalFault.TheVariants as fault
use Rattle.expression_notes.specs.declared.values.Wanted.{Wanted}
use Rattle.expression_notes.specs.declared.values.Wanted.TheVariants as wanted
use Rattle.expression_notes.specs.Expressions.{listed, said_of_section, said_of_value}
use Rattle.expression_notes.specs.Repeating.{once_behind}
use Rattle.expression_notes.proofs.Turns.{said_after}

once_behind-section : (given : List Row) (purpose : Wanted) (section : Option SectionId) →
    once_behind given (listed (said_of_section purpose section)) ≡ listed (said_of_section purpose section)
once_behind-section given wanted.Value section = refl
once_behind-section given wanted.Number (Some section) = refl
once_behind-section given wanted.Number None = refl

pub once_behind-value : (given : List Row) (purpose : Wanted) (found : Result Reloc EvalFault) →
    once_behind given (listed (said_of_value purpose found)) ≡ listed (said_of_value purpose found)
once_behind-value given purpose (Ok found) = once_behind-section given purpose found.section
once_behind-value given purpose (Err (fault.Undefined name)) = refl
once_behind-value given purpose (Err fault.NotSimple) = refl
once_behind-value given purpose (Err fault.Overflow) = refl

-- what is said of a value, and then others
pub said_behind_value : {T E : Type 0} (r : Result T E) (before middle after ys : List Row) (purpose : Wanted) (found : Result Reloc EvalFault) →
    middle ≡ before ++ listed (said_of_value purpose found) → OnOk r (after ≡ middle ++ once_behind middle ys) →
    OnOk r (after ≡ before ++ once_behind before (listed (said_of_value purpose found) ++ ys))
said_behind_value r before middle after ys purpose found first second =
    said_after r before middle after (listed (said_of_value purpose found)) ys
    (first ∙ ap (λ rows. before ++ rows) (sym (once_behind-value before purpose found))) second
