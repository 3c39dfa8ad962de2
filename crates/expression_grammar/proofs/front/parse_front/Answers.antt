use Rattle.std.specs.Str.{chars}
use Rattle.expression_grammar.specs.Fronts.{IsClosed}
use Rattle.expression_grammar.specs.Readings.{read_front}
use Rattle.expression_grammar.specs.Spelling.{Spells}
use Rattle.expression_grammar.proofs.FrontLaws.{front_told, read_front-finds}
use Rattle.expression_grammar.proofs.front.parse_front.Goals as goal

pub returns-clause-front : goal.returns-clause-front
returns-clause-front c =
    let text = chars c.args.text.now in
    front_told (Spells c.args.grammar) (IsClosed (Spells c.args.grammar) text) text (read_front c.args.grammar text) (read_front-finds c.args.grammar text) c.find_front.result c.find_front.ensures
