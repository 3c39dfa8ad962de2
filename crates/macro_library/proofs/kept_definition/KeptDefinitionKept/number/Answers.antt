use Rattle.std.proofs.Common.{sym, ap, ◌∙◌}
use Rattle.macro_library.specs.Definitions.{Definition}
use Rattle.macro_library.specs.Contents.{content_of, content_number}
use Rattle.macro_library.proofs.TreeLaws.{number_back}
use Rattle.macro_library.proofs.kept_definition.KeptDefinitionKept.number.Goals as goal

pub returns : goal.returns
returns c =
    c.number.ensures
    ∙ ap (λ (d : Definition). content_number (content_of d)) c.deref.ensures
    ∙ sym (number_back (content_of c.args.self.now.definition.value))
