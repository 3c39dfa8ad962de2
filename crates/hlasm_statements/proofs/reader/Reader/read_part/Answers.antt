use Rattle.std.proofs.Common.{rules}
use Rattle.std.specs.Prelude.{chars}
use Rattle.hlasm_statements.proofs.ResultLaws.{OnOk-map}
use Rattle.hlasm_statements.proofs.ReadingLaws.{has-read-more, has-read-all}
use Rattle.hlasm_statements.proofs.reader.Reader.read_part.Goals as goal

pub loop-self-preserved : goal.loop-self-preserved
loop-self-preserved c = (
  has-read-more c.args.self.now c.loop-self.self c.read_run.new.self c.args.line c.args.column c.loop-self.at c.in_ok-at.at c.in_ok-front.front.count (chars c.args.part.now) (chars c.loop-self.rest.now) (chars c.in_ok-front.front.behind.now)
      c.loop-self.invariant.0 c.in_ok-front.ensures.read c.in_ok-front.ensures.behind c.in_ok-front.ensures.fits c.in_ok-at.ensures,
  search rules,
)

pub returns : goal.returns
returns c =
    OnOk-map c.read_operands.result
    (λ more. has-read-all c.args.self.now c.loop-self.self c.read_operands.new.self c.args.alternate c.args.line c.args.column c.loop-self.at (chars c.args.part.now) (chars c.loop-self.rest.now) c.loop-self.invariant.0 more)
    c.read_operands.ensures
