use Rattle.std.proofs.Common.{ap, ◌++◌, ◌∷◌, [], ◌∙◌, append_assoc, refl}
use Rattle.std.specs.Str.{chars}
use Rattle.member_paths.specs.Paths.{slash}
use Rattle.member_paths.proofs.PathLaws.{chars-slash}
use Rattle.member_paths.proofs.folder.below.Goals as goal

pub returns : goal.returns
returns c =
    c.in_ok-push_str-2.ensures.ok
    ∙ ap (λ front. front ++ chars c.args.path.now) (c.in_ok-push_str.ensures.ok ∙ rw (c.in_ok-whole.ensures, chars-slash) refl)
    ∙ append_assoc (chars c.args.folder.now) (slash ∷ []) (chars c.args.path.now)
