use Rattle.std.proofs.Common.{◌∙◌}
use Rattle.called_definitions.proofs.ToldLaws.{file_told}
use Rattle.called_definitions.proofs.member.file_of.Goals as goal

pub returns : goal.returns
returns c = file_told c.in_ok-file.file c.args.path _ c.in_ok-file.ensures.path (c.in_ok-file.ensures.text ∙ c.in_ok-text.ensures.characters)
