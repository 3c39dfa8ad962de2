use Rattle.std.proofs.Common.{◌≡◌, ◌∙◌, ◌<◌, length, sym, ap, arith}
use Rattle.std.proofs.lemmas.Bool.Decides.{nat_tests}
use Rattle.expression_grammar.proofs.ClosedLaws.{open_no_variable}
use Rattle.expression_grammar.proofs.front.is_whole_variable.Goals as goal

pub returns-else-is_empty : goal.returns-else-is_empty
returns-else-is_empty c =
    let some : 0 < length c.args.progress.now.stack.items = grind (arith, nat_tests) in
    c.if-is_empty.false ∙ sym (open_no_variable c.args.progress.now.point c.args.progress.now.stack.items (λ e. let none : length c.args.progress.now.stack.items ≡ 0 = ap length e in absurd (omega arith)))
