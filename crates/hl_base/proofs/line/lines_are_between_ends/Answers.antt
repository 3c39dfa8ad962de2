use Rattle.hl_base.proofs.LineLaws.{length-lines, join-lines}
use Rattle.hl_base.proofs.line.lines_are_between_ends.Goals as goal

pub returns : goal.returns
returns c = record {
  count = length-lines;
  joined = join-lines;
}
