use Rattle.std.proofs.Common.{ap, sym, ◌∙◌}
use Rattle.std.specs.Prelude.{chars}
use Rattle.std.specs.Str.{bytes_eq}
use Rattle.library_folders.proofs.FolderLaws.{bytes_eq-chars, bytes_eq-turned}
use Rattle.library_folders.proofs.folders.is_at.Goals as goal

pub returns : goal.returns
returns c =
    c.eq.ensures
    ∙ sym (bytes_eq-chars c.as_str.result.now c.args.path.now c.as_str.utf8 c.utf8.path)
    ∙ ap (λ t. bytes_eq t (chars c.args.path.now)) c.as_str.ensures.characters
    ∙ bytes_eq-turned c.args.folder.now.path (chars c.args.path.now)
