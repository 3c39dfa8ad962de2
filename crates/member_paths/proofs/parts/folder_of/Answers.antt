use Rattle.std.proofs.Common.{sym, ◌∙◌}
use Rattle.std.proofs.lemmas.Str.{chars-nil}
use Rattle.member_paths.proofs.PathLaws.{folder_of-cut, folder_of-uncut}
use Rattle.member_paths.proofs.parts.folder_of.Goals as goal

pub returns-in-Some : goal.returns-in-Some
returns-in-Some c = sym (folder_of-cut c.args.path.now c.utf8.path _ _ c.in-Some.ensures.cases)

pub returns-in-None : goal.returns-in-None
returns-in-None c = chars-nil ∙ sym (folder_of-uncut c.args.path.now c.utf8.path c.in-None.ensures.cases)
