use Rattle.std.specs.Str.{chars}
use Rattle.statement_names.specs.Constants.{symbols}
use Rattle.statement_names.proofs.ConstantLaws.{push-then}
use Rattle.statement_names.proofs.constant.push_apart.Goals as goal

pub returns : goal.returns
returns c =
    push-then symbols c.push_symbols-2.result c.args.found.now c.push_symbols.new.found c.push_symbols-2.new.found c.args.count c.args.at c.in_ok-next.next
    (chars c.args.text.now) _ _ c.in_ok-next.ensures c.before-2.ensures c.behind.ensures c.in_ok-push_symbols.ensures c.push_symbols-2.ensures
