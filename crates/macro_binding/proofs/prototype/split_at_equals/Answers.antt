use Rattle.macro_binding.proofs.PrototypeLaws.{parted-is}
use Rattle.macro_binding.proofs.prototype.split_at_equals.Goals as goal

pub returns-in-Some : goal.returns-in-Some
returns-in-Some c =
    parted-is _ _ _ _ c.in-Some.at c.split_columns.ensures.front c.split_columns.ensures.back c.split_columns-in-Some.ensures.back c.in-Some.ensures
