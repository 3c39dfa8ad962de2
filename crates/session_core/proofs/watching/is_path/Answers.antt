use Rattle.std.proofs.Common.{sym, ap, ◌∙◌}
use Rattle.std.specs.Str.{bytes_eq, chars}
use Rattle.library_folders.proofs.FolderLaws.{bytes_eq-chars}
use Rattle.session_core.proofs.watching.is_path.Goals as goal

pub returns : goal.returns
returns c = c.eq.ensures ∙ sym (bytes_eq-chars _ _ c.utf8.path c.as_str.utf8) ∙ ap (bytes_eq (chars c.args.path.now)) c.as_str.ensures.characters
