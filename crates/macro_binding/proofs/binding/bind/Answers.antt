use Rattle.std.proofs.Common.{◌≡◌, ◌∙◌, ap, sym}
use Rattle.std.specs.Str.{chars}
use Rattle.macro_binding.specs.Bindings.{binding_notes, binding_of}
use Rattle.macro_binding.specs.Prototypes.{Prototype}
use Rattle.macro_binding.proofs.BindingLaws.{whole_binding, whole_notes}
use Rattle.macro_binding.proofs.binding.bind.Goals as goal

pub returns-clause-binding : goal.returns-clause-binding
returns-clause-binding c =
    let lent : c.parameters-parameters.result.now ≡ c.args.prototype.now.value.parameters =
    c.parameters-parameters.ensures ∙ ap (λ (p : Prototype). p.parameters) c.deref.ensures in
    whole_binding c.parameters-parameters.result.now c.as_slice-operand-items.result.now c.args.operands.now c.loop-operand.operand-index c.loop-operand.sorting
    c.loop-operand.invariant c.loop-operand-test.false c.as_slice-operand-items.ensures _ _ _
    (ap (λ (p : Prototype). p.parameters) c.in_ok-clone.ensures.cases ∙ sym lent) c.in_ok-of.ensures
    ∙ ap (λ ps. binding_of ps (chars c.args.name_entry.now) c.args.operands.now) lent

pub returns-clause-notes : goal.returns-clause-notes
returns-clause-notes c =
    let lent : c.parameters-parameters.result.now ≡ c.args.prototype.now.value.parameters =
    c.parameters-parameters.ensures ∙ ap (λ (p : Prototype). p.parameters) c.deref.ensures in
    whole_notes c.parameters-parameters.result.now c.as_slice-operand-items.result.now c.args.operands.now c.loop-operand.operand-index c.loop-operand.sorting
    c.loop-operand.invariant c.loop-operand-test.false c.as_slice-operand-items.ensures
    ∙ ap (λ ps. binding_notes ps c.args.operands.now) lent
