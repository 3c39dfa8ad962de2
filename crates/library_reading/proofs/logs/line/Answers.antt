use Rattle.library_reading.proofs.TextLaws.{three, colon_is}
use Rattle.library_reading.proofs.logs.line.Goals as goal

pub returns : goal.returns
returns c = three _ _ _ _ _ _ _ c.in_ok-line.ensures c.in_ok-push_str.ensures.ok c.in_ok-push_str-2.ensures.ok colon_is
