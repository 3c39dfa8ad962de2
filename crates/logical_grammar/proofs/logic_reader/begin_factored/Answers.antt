use Rattle.expression_grammar.specs.Spelling.{Placed}
use Rattle.expression_grammar.specs.Views.{tree_of}
use Rattle.logical_grammar.proofs.LogicMoveLaws.{factor_moves}
use Rattle.logical_grammar.proofs.logic_reader.begin_factored.Goals as goal

pub returns : goal.returns
returns c = λ at layers.
    let p : Placed = record { at = at; code = c.args.c } in
    factor_moves (tree_of c.args.inner) c.quotation-text.result c.is_symbol_character.result p layers c.logic_moved.result c.requires c.quotation-text.ensures c.is_symbol_character.ensures c.logic_moved.ensures
