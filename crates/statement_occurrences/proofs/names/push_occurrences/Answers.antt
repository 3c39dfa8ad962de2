use Rattle.std.proofs.Common.{arith}
use Rattle.statement_occurrences.specs.Views.{circumstances_of}
use Rattle.statement_occurrences.proofs.NameLaws.{names_next}
use Rattle.statement_occurrences.proofs.names.push_occurrences.Goals as goal

pub loop-at-preserved : goal.loop-at-preserved
loop-at-preserved c =
    names_next (circumstances_of c.args.s.now) c.args.path c.args.statement.now c.args.names.now c.loop-at.at c.index-names-at.result
    c.args.kept.now c.loop-at.kept c.push_occurrence.new.kept (omega (arith, c.loop-at-test.true)) c.index-names-at.is
    c.loop-at.invariant c.in_ok-push_occurrence.ensures
