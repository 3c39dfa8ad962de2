use Rattle.std.proofs.Common.{ap, sym, ◌∙◌}
use Rattle.std.specs.Map.{lookup}
use Rattle.variable_meanings.specs.Meanings.{meaning_of}
use Rattle.variable_meanings.proofs.KnownLaws.{spells, meaning-lookup}
use Rattle.variable_meanings.proofs.known.KnownVariables.meaning.Goals as goal

pub returns : goal.returns
returns c =
    c.copied.ensures
    ∙ c.get.ensures.value
    ∙ ap (λ bytes. lookup (spells bytes) c.self.inside.meanings.entries) c.text.ensures
    ∙ sym (meaning-lookup c.args.name.now c.self.inside.meanings.entries)
    ∙ ap (λ list. meaning_of list c.args.name.now) c.self.view_is
