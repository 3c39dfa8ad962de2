use Rattle.std.proofs.Common.{◌≡◌, ◌∙◌, ◌+◌, List, [], ap, sym}
use Rattle.std.specs.Prelude.{option_map}
use Rattle.expression_grammar.specs.Characters.{kind_of}
use Rattle.expression_grammar.specs.Trees.{Tree, size}
use Rattle.expression_grammar.specs.Views.{tree_of}
use Rattle.logical_grammar.specs.LogicReading.{Open, behind_one, text_side, open_size, text_relation_size}
use Rattle.logical_grammar.specs.LogicViews.{relation_of, open_of, operand_of, operand_weight}
use Rattle.logical_grammar.proofs.LogicMoveLaws.{LogicMoves-same, text_side-weight}
use Rattle.logical_grammar.proofs.logic_reader.end_text.Goals as goal

pub returns : goal.returns
returns c =
    let side = option_map relation_of c.args.relation in
    let tree : Tree = tree_of c.args.tree in
    let old : List Open = open_of c.args.layers.now.items [] in
    let operand = operand_of c.in_ok-operand.operand in
    let same : operand ≡ text_side side tree = c.in_ok-operand.ensures in
    LogicMoves-same (behind_one (text_side side tree) c.args.touch (kind_of c.args.c) c.args.c old) (behind_one operand c.args.touch c.kind_of.result c.args.c old)
    (open_size old + (text_relation_size side + size tree)) (open_size old + operand_weight operand) c.in_ok-moved.moved (open_of c.behind.new.stack.items [])
    (ap (λ o. behind_one o c.args.touch (kind_of c.args.c) c.args.c old) (sym same) ∙ ap (λ k. behind_one operand c.args.touch k c.args.c old) (sym c.kind_of.ensures))
    (ap (λ n. open_size old + n) (sym (ap operand_weight same ∙ text_side-weight side tree)))
    c.in_ok-moved.ensures
