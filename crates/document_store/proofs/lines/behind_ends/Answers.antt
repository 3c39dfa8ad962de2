use Rattle.std.proofs.Common.{rules}
use Rattle.std.specs.Prelude.{chars}
use Rattle.document_store.proofs.FromLemmas.{IsFrom-next, drop-past_last}
use Rattle.document_store.proofs.lines.behind_ends.Goals as goal

pub returns-in_err-rest : goal.returns-in_err-rest
returns-in_err-rest c =
    rw c.from_residual.ensures
    (drop-past_last (chars c.args.text.now) (chars c.loop.rest.now) c.loop.counter c.args.ends c.loop.invariant.0 c.in_err-rest.ensures c.loop-test.true)

pub loop-preserved : goal.loop-preserved
loop-preserved c =
    (IsFrom-next (chars c.args.text.now) (chars c.loop.rest.now) (chars c.in_ok-rest.rest.now) c.loop.counter c.loop.invariant.0 c.in_ok-rest.ensures, search rules)
