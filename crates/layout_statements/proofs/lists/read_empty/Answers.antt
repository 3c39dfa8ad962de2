use Rattle.std.proofs.Common.{◌≡◌, ◌∙◌, [], ap}
use Rattle.std.specs.Str.{chars}
use Rattle.std.proofs.lemmas.Result.{IfOk-weaker}
use Rattle.std.proofs.lemmas.Str.{chars-nil}
use Rattle.constant_operands.specs.Operands.{operand}
use Rattle.constant_operands.specs.Views.{operand_of}
use Rattle.layout_statements.proofs.lists.read_empty.Goals as goal

pub returns : goal.returns
returns c =
    IfOk-weaker c.read.result
    (λ one. operand_of one ≡ operand c.args.used (chars []))
    (λ one. operand_of one ≡ operand c.args.used [])
    (λ one is. is ∙ ap (operand c.args.used) chars-nil)
    c.read.ensures
