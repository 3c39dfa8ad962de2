use Rattle.std.proofs.Common.{◌≡◌, ◌∙◌, ◌+◌, ◌<◌, List, [], length, ap, sym, arith}
use Rattle.std.specs.Prelude.{None, false, option_map}
use Rattle.std.proofs.lemmas.Bool.Decides.{nat_tests}
use Rattle.expression_grammar.specs.declared.character.Grammar.TheVariants.{Arithmetic}
use Rattle.expression_grammar.specs.Characters.{kind_of}
use Rattle.expression_grammar.specs.Reading.{Layer, Have, fold, step, layers_size}
use Rattle.expression_grammar.specs.Spelling.{Placed}
use Rattle.expression_grammar.specs.Stacks.{stack_of}
use Rattle.expression_grammar.specs.Trees.{Tree, size}
use Rattle.expression_grammar.specs.Views.{tree_of}
use Rattle.logical_grammar.specs.LogicReading as logic
use Rattle.logical_grammar.specs.LogicReading.{Open, behind_one, on_number, number_side, open_size, relation_size}
use Rattle.logical_grammar.specs.LogicViews.{relation_of, open_of, operand_of, operand_weight}
use Rattle.character_grammar.proofs.TextMoveLaws.{folded-size, none-left}
use Rattle.logical_grammar.proofs.LogicMoveLaws.{LogicMoves-same, behind_number, inside_number, number_side-weight}
use Rattle.logical_grammar.proofs.logic_reader.end_number.Goals as goal

pub returns-then-is_empty : goal.returns-then-is_empty
returns-then-is_empty c =
    let side = option_map relation_of c.args.relation in
    let ls : List Layer = stack_of c.args.stack.items [] in
    let tree : Tree = tree_of c.args.tree in
    let inner : Tree = tree_of c.in_ok-inner.inner in
    let p : Placed = record { at = c.args.at; code = c.args.c } in
    let old : List Open = open_of c.args.layers.now.items [] in
    let operand = operand_of c.in_ok-operand.operand in
    let none : length c.fold.new.stack.items ≡ 0 = grind (arith, nat_tests) in
    let e : fold 0 tree ls ≡ record { tree = inner; layers = [] } =
    c.in_ok-inner.ensures ∙ ap (λ xs. record { tree = inner; layers = stack_of xs [] }) (none-left c.fold.new.stack.items none) in
    let same : operand ≡ number_side side inner = c.in_ok-operand.ensures in
    LogicMoves-same (logic.point_step (logic.Number side (Have tree ls) c.args.touch) p old) (behind_one operand c.args.touch c.kind_of.result c.args.c old)
    (open_size old + (relation_size side + (layers_size ls + size tree))) (open_size old + operand_weight operand) c.in_ok-moved.moved (open_of c.behind.new.stack.items [])
    (behind_number side tree inner ls c.args.touch p old c.requires e
    ∙ ap (λ o. behind_one o c.args.touch (kind_of c.args.c) c.args.c old) (sym same)
    ∙ ap (λ k. behind_one operand c.args.touch k c.args.c old) (sym c.kind_of.ensures))
    (let size_of = folded-size tree inner ls [] e in let weighs : operand_weight operand ≡ relation_size side + size inner = ap operand_weight same ∙ number_side-weight side inner in omega (arith, size_of, weighs))
    c.in_ok-moved.ensures

pub returns : goal.returns
returns c =
    let side = option_map relation_of c.args.relation in
    let ls : List Layer = stack_of c.args.stack.items [] in
    let below : List Layer = stack_of c.fold.new.stack.items [] in
    let tree : Tree = tree_of c.args.tree in
    let inner : Tree = tree_of c.in_ok-inner.inner in
    let p : Placed = record { at = c.args.at; code = c.args.c } in
    let old : List Open = open_of c.args.layers.now.items [] in
    let some : 0 < length c.fold.new.stack.items = grind (arith, nat_tests) in
    LogicMoves-same (logic.point_step (logic.Number side (Have tree ls) c.args.touch) p old) (on_number side (step Arithmetic (Have inner below) p) None false p old)
    (open_size old + (relation_size side + (layers_size ls + size tree))) (open_size old + (relation_size side + (layers_size below + size inner))) c.in_ok-found.found old
    (inside_number side tree inner ls c.fold.new.stack.items c.args.touch p old c.requires c.in_ok-inner.ensures
    (λ e. let none : length c.fold.new.stack.items ≡ 0 = ap length e in absurd (omega arith)))
    (ap (λ n. open_size old + (relation_size side + n)) (folded-size tree inner ls below c.in_ok-inner.ensures)) (c.in_ok-found.ensures.moves old)
