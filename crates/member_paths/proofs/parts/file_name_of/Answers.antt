use Rattle.std.proofs.Common.{sym}
use Rattle.member_paths.proofs.PathLaws.{file_name_of-cut, file_name_of-uncut}
use Rattle.member_paths.proofs.parts.file_name_of.Goals as goal

pub returns-in-Some : goal.returns-in-Some
returns-in-Some c = sym (file_name_of-cut c.args.path.now c.utf8.path _ _ c.in-Some.ensures.cases)

pub returns-in-None : goal.returns-in-None
returns-in-None c = sym (file_name_of-uncut c.args.path.now c.utf8.path c.in-None.ensures.cases)
