use Rattle.std.proofs.Common.{ap, sym, ◌∙◌}
use Rattle.std.specs.Prelude.{chars}
use Rattle.std.specs.Str.{bytes_eq}
use Rattle.document_store.proofs.DocumentLemmas.{bytes_eq-chars}
use Rattle.debug_sessions.proofs.breakpoints.is_of.Goals as goal

pub returns : goal.returns
returns c =
    c.eq.ensures
    ∙ sym (bytes_eq-chars c.as_str.result.now c.args.path.now c.as_str.utf8 c.utf8.path)
    ∙ ap (λ t. bytes_eq t (chars c.args.path.now)) c.as_str.ensures.characters
