use Rattle.std.specs.Str.{chars}
use Rattle.expression_grammar.specs.Fronts.{IsClosed}
use Rattle.expression_grammar.proofs.FrontLaws.{front_told}
use Rattle.logical_grammar.specs.LogicReadings.{read_logic_front}
use Rattle.logical_grammar.specs.Logics.{SpellsLogic}
use Rattle.logical_grammar.proofs.LogicFinds.{read_logic_front-finds}
use Rattle.logical_grammar.proofs.parse_truth.parse_logic_front.Goals as goal

pub returns-clause-front : goal.returns-clause-front
returns-clause-front c =
    let text = chars c.args.text.now in
    front_told SpellsLogic (IsClosed SpellsLogic text) text (read_logic_front text) (read_logic_front-finds text) c.find_front.result c.find_front.ensures
