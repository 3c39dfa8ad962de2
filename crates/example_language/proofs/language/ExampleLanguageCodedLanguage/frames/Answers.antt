use Rattle.std.proofs.Common.{ℕ, ◌∷◌, ap, ◌∙◌}
use Rattle.plain_expansion.specs.Language.{Level as LevelOf}
use Rattle.plain_expansion.specs.Example.{example_words}
use Rattle.expansion_step.specs.Meaning.{level_by}
use Rattle.example_language.specs.Values.{means}
use Rattle.example_language.proofs.LineLaws.{map-reverse}
use Rattle.example_language.proofs.language.ExampleLanguageCodedLanguage.frames.Goals as goal

pub returns : goal.returns
returns g c =
    let position : LevelOf example_words → ℕ = λ l. l.position in
    c.in_ok-insert.ensures.items
    ∙ ap (λ l. c.args.here.now.position ∷ l) (c.in_ok-frames.ensures ∙ map-reverse
    (level_by (means g.P.Program.lists g.P.Program.branches)) position c.args.below.now)
