-- Operands without literal.
use Rattle.std.proofs.Common.{◌≡◌, ℕ, ◌&&◌, Bool, true, false, cond, List, [], ◌∷◌, Some, None, refl, sym, ap}
use Rattle.literal_operands.specs.Literals as literals
use Rattle.machine_operands.specs.declared.form.OperandForm.{OperandForm}
use Rattle.machine_operands.specs.Operands.{takes_literal, begins_literal, literal_if, operand_by, operand_of_form}

no_literal_in : (text : List ℕ) → begins_literal text ≡ false → literals.literal_in text ≡ None
no_literal_in [] is = refl
no_literal_in (c ∷ body) is = ap (λ b. cond b (Some (literals.literal body)) None) is

no_literal : (takes : Bool) (text : List ℕ) → (takes && begins_literal text) ≡ false → literal_if takes text ≡ None
no_literal true text is = no_literal_in text is
no_literal false text is = refl

-- an operand that begins with no literal, or where none may stand
pub without_literal : (form : OperandForm) (targets : Bool) (text : List ℕ) → (takes_literal form targets && begins_literal text) ≡ false →
    operand_by form text None ≡ operand_of_form form targets text
without_literal form targets text is = sym (ap (operand_by form text) (no_literal (takes_literal form targets) text is))
