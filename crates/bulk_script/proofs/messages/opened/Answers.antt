use Rattle.std.proofs.Common.{lit≤}
use Rattle.std.proofs.lemmas.Result.{IfOk-weaker}
use Rattle.bulk_script.proofs.ReadingLaws.{reads_as}
use Rattle.bulk_script.proofs.messages.opened.Goals as goal

pub returns : goal.returns
returns c = IfOk-weaker c.compact.result _ _ (λ body reads. reads_as body.items _ _ c.in_ok-value.ensures (lit≤ tt) reads) c.compact.ensures.reads_back
