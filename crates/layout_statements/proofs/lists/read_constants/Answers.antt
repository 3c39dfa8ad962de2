use Rattle.std.proofs.Common.{◌≡◌, ◌∙◌, [], ◌∷◌, map, sym}
use Rattle.std.proofs.lemmas.Result.{IfOk-weaker}
use Rattle.constant_operands.specs.Operands.{operand}
use Rattle.constant_operands.specs.Views.{operand_of}
use Rattle.layout_statements.specs.Lists.{constants}
use Rattle.layout_statements.proofs.Maps.{constants-none, constants-some}
use Rattle.layout_statements.proofs.lists.read_constants.Goals as goal

pub returns-then-is_empty : goal.returns-then-is_empty
returns-then-is_empty c =
    IfOk-weaker c.read_missing.result
    (λ found. map operand_of found.items ≡ operand c.args.used [] ∷ [])
    (λ found. map operand_of found.items ≡ constants c.args.used c.args.operands.now)
    (λ found is. is ∙ constants-none c.args.used c.args.operands.now (sym c.is_empty.ensures ∙ c.if-is_empty.true))
    c.read_missing.ensures

pub returns : goal.returns
returns c =
    IfOk-weaker c.read_each.result
    (λ found. map operand_of found.items ≡ map (operand c.args.used) c.args.operands.now)
    (λ found. map operand_of found.items ≡ constants c.args.used c.args.operands.now)
    (λ found is. is ∙ constants-some c.args.used c.args.operands.now (sym c.is_empty.ensures ∙ c.if-is_empty.false))
    c.read_each.ensures
