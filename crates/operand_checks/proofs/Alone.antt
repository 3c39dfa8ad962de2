-- What is said of an operand that is an expression alone.
use Rattle.std.proofs.Common.{◌≡◌, ◌∙◌, ℕ, Bool, false, List, [], ◌++◌, Some, None, refl, sym, ap, append-nil}
use Rattle.std.specs.Prelude.{Option, Result, Ok, Err, OnOk}
use Rattle.expression_grammar.specs.Trees.{Tree}
use Rattle.expression_notes.specs.Repeating.{once_behind}
use Rattle.instruction_table.specs.declared.encodings.Kind.{Kind}
use Rattle.machine_operands.specs.declared.form.OperandForm.{OperandForm}
use Rattle.machine_operands.specs.declared.form.OperandForm.TheVariants as form
use Rattle.machine_operands.specs.Forms.{form_of}
use Rattle.machine_operands.specs.Operands.{IsAlone, written_alone}
use Rattle.note_rows.specs.declared.row.Row.{Row}
use Rattle.trace_values.specs.declared.section.Reloc.{Reloc}
use Rattle.operand_checks.specs.Addresses.{said_of_address, said_of_displacement}
use Rattle.operand_checks.specs.Expressions.{said_of_alone}
use Rattle.operand_checks.specs.Literals.{said_within}
use Rattle.operand_checks.specs.Machine.{said_of_written, said_of_operand, said_of_text}
use Rattle.operand_checks.specs.Settings.{Setting}

-- what is said of an expression alone, by the form of its operand
abbrev pub said_by_form : OperandForm → Setting → Kind → Tree → List Row
said_by_form form.Value setting kind tree = said_of_alone setting kind tree
said_by_form form.Target setting kind tree = said_of_alone setting kind tree
said_by_form (form.Address other) setting kind tree = said_of_displacement setting kind false tree

nothing_within : (setting : Setting) (place : Option Reloc) → said_within setting place None ≡ []
nothing_within setting None = refl
nothing_within setting (Some place) = refl

written_by_form : (form : OperandForm) (setting : Setting) (kind : Kind) (place : Option Reloc) (tree : Tree) →
    said_of_written setting kind place (written_alone form tree) ≡ said_by_form form setting kind tree
unfolding said_of_address
written_by_form form.Value setting kind place tree = refl
written_by_form form.Target setting kind place tree = refl
written_by_form (form.Address other) setting kind place tree =
    append-nil (said_of_displacement setting kind false tree ++ []) ∙ append-nil (said_of_displacement setting kind false tree)

operand_by_form : (form : OperandForm) (setting : Setting) (kind : Kind) (place : Option Reloc) (tree : Tree) →
    said_of_operand setting kind place (record { literal = None; written = written_alone form tree }) ≡ said_by_form form setting kind tree
operand_by_form form setting kind place tree =
    ap (λ rows. said_of_written setting kind place (written_alone form tree) ++ rows) (nothing_within setting place)
    ∙ append-nil (said_of_written setting kind place (written_alone form tree))
    ∙ written_by_form form setting kind place tree

pub text_alone : (setting : Setting) (targets : Bool) (kind : Kind) (place : Option Reloc) (text : List ℕ) (tree : Tree) → IsAlone kind text tree →
    said_of_text setting targets kind place text ≡ said_by_form (form_of kind) setting kind tree
unfolding said_of_text
text_alone setting targets kind place text tree is =
    ap (said_of_operand setting kind place) (is.alone targets) ∙ operand_by_form (form_of kind) setting kind place tree

-- whatever place its literal would have
pub said_alone : {T E : Type 0} (r : Result T E) (before after : List Row) (setting : Setting) (targets : Bool) (kind : Kind) (text : List ℕ) (tree : Tree) (form : OperandForm) →
    IsAlone kind text tree → form ≡ form_of kind →
    OnOk r (after ≡ before ++ once_behind before (said_by_form form setting kind tree)) →
    OnOk r ((place : Option Reloc) → after ≡ before ++ once_behind before (said_of_text setting targets kind place text))
said_alone (Ok x) before after setting targets kind text tree form is same said = λ place.
    said
    ∙ ap (λ f. before ++ once_behind before (said_by_form f setting kind tree)) same
    ∙ ap (λ rows. before ++ once_behind before rows) (sym (text_alone setting targets kind place text tree is))
said_alone (Err e) before after setting targets kind text tree form is same said = said
