use Rattle.std.proofs.Common.{◌∙◌, ◌++◌, ◌∷◌, [], ap, sym}
use Rattle.std.proofs.lemmas.Result.{IfOk-weaker}
use Rattle.macro_binding.specs.Bindings.{given, positional}
use Rattle.macro_binding.proofs.SortingLaws.{sorts-positional}
use Rattle.macro_binding.proofs.binding.Sorting.take.Goals as goal

pub returns-in_ok-copy-in-None : goal.returns-in_ok-copy-in-None
returns-in_ok-copy-in-None c =
    let seen = c.as_str.ensures.characters in
    IfOk-weaker c.push.result _ _
    (λ _ is operands sorts.
    sorts-positional c.args.self.now c.push.new.self operands _ c.args.operand.now
    (ap (given c.args.parameters.now) (sym seen) ∙ sym c.in-None.ensures ∙ ap positional seen)
    (is ∙ ap (λ text. c.args.self.now.positionals ++ text ∷ []) c.in_ok-copy-in-None.ensures) sorts)
    c.push.ensures.ok
