use Rattle.std.specs.Str.{chars}
use Rattle.expression_grammar.specs.declared.character.Grammar.TheVariants.{Arithmetic}
use Rattle.expression_grammar.specs.Fronts.{IsVariableClosed}
use Rattle.expression_grammar.specs.Readings.{read_variable}
use Rattle.expression_grammar.specs.Spelling.{Spells}
use Rattle.expression_grammar.proofs.FrontLaws.{front_told, read_variable-finds}
use Rattle.expression_grammar.proofs.front.parse_variable.Goals as goal

pub returns-clause-front : goal.returns-clause-front
returns-clause-front c =
    let text = chars c.args.text.now in
    front_told (Spells Arithmetic) (IsVariableClosed text) text (read_variable text) (read_variable-finds text) c.find_variable.result c.find_variable.ensures
