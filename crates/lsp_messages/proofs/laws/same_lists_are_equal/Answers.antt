use Rattle.lsp_messages.proofs.SameLaws.{is_same_list-Decides}
use Rattle.lsp_messages.proofs.laws.same_lists_are_equal.Goals as goal

pub returns : goal.returns
returns c = is_same_list-Decides
