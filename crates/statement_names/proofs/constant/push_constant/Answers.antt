use Rattle.std.proofs.Common.{◌++◌, ap}
use Rattle.std.specs.Str.{chars}
use Rattle.statement_names.specs.Constants.{behind_factor, behind_amount, constant_symbols}
use Rattle.statement_names.proofs.ListLaws.{pushed-same}
use Rattle.statement_names.proofs.ConstantLaws.{push-then}
use Rattle.statement_names.proofs.constant.push_constant.Goals as goal

pub returns : goal.returns
unfolding constant_symbols
returns c =
    let all = chars c.args.text.now in
    pushed-same c.push_behind_factor.result c.args.found.now c.push_behind_factor.new.found (behind_amount c.in_ok-count.count c.args.at all) _
    (ap (λ n. behind_amount n c.args.at all) c.in_ok-count.ensures)
    (push-then behind_factor c.push_behind_factor.result c.args.found.now c.push_symbols.new.found c.push_behind_factor.new.found c.in_ok-count.count c.args.at c.in_ok-next.next
    all _ _ c.in_ok-next.ensures c.before-2.ensures c.behind.ensures c.in_ok-push_symbols.ensures c.push_behind_factor.ensures)
