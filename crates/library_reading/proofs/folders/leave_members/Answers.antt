use Rattle.std.proofs.Common.{string_bytes, rules}
use Rattle.std.proofs.lemmas.Fn.{filter_same}
use Rattle.library_reading.specs.Reading.{is_member}
use Rattle.library_reading.proofs.OrderLaws.{kept-in_order}
use Rattle.library_reading.proofs.folders.leave_members.Goals as goal

pub returns : goal.returns
returns c =
    kept-in_order string_bytes is_member _ _ _ c.sort_unstable.ensures.permutation c.sort_unstable.ensures.sorted
    (filter_same _ (λ name. is_member (string_bytes name)) _ (λ x b f' k. search rules) _ _ c.retain.ensures.filtered)
