use Rattle.std.proofs.Common.{ap, sym, ◌∙◌}
use Rattle.std.specs.Prelude.{chars}
use Rattle.std.specs.Str.{bytes_eq}
use Rattle.document_store.proofs.DocumentLemmas.{bytes_eq-chars, bytes_eq-swap}
use Rattle.document_store.proofs.kept.is_same.Goals as goal

pub returns-clause-before : goal.returns-clause-before
returns-clause-before c =
    c.eq.ensures
    ∙ sym (bytes_eq-chars c.as_str.result.now c.args.other.now c.as_str.utf8 c.utf8.other)
    ∙ ap (λ t. bytes_eq t (chars c.args.other.now)) c.as_str.ensures.characters

pub returns-clause-behind : goal.returns-clause-behind
returns-clause-behind c =
    c.eq.ensures
    ∙ sym (bytes_eq-chars c.as_str.result.now c.args.other.now c.as_str.utf8 c.utf8.other)
    ∙ ap (λ t. bytes_eq t (chars c.args.other.now)) c.as_str.ensures.characters
    ∙ bytes_eq-swap c.args.text.now (chars c.args.other.now)
