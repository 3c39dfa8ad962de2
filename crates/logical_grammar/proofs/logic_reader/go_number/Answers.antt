use Rattle.std.proofs.Common.{◌≡◌, ◌+◌, List, [], true, false, ap, sym, refl, rules}
use Rattle.std.specs.Prelude.{None, option_map}
use Rattle.expression_grammar.specs.declared.character.Grammar.TheVariants.{Arithmetic}
use Rattle.expression_grammar.specs.Characters.{kind_of}
use Rattle.expression_grammar.specs.Reading.{Layer, State, Have, step, weight, layers_size}
use Rattle.expression_grammar.specs.Spelling.{Placed}
use Rattle.expression_grammar.specs.Stacks.{stack_of, stand}
use Rattle.expression_grammar.specs.Trees.{Tree, size}
use Rattle.expression_grammar.specs.Views.{tree_of}
use Rattle.logical_grammar.specs.LogicReading as logic
use Rattle.logical_grammar.specs.LogicReading.{Open, on_number, open_size, relation_size}
use Rattle.logical_grammar.specs.LogicViews.{relation_of, ends_number, open_of}
use Rattle.character_grammar.proofs.TextMoveLaws.{settled-at, at-weight}
use Rattle.logical_grammar.proofs.LogicMoveLaws.{LogicMoves-same, within_number, at_number, open_number, ends-closes}
use Rattle.logical_grammar.proofs.logic_reader.go_number.Goals as goal

pub end_number-requires : goal.end_number-requires
end_number-requires c =
    let yes : ends_number c.args.inner (kind_of c.args.c) ≡ true = search rules in
    ends-closes c.args.inner (kind_of c.args.c) yes

pub returns-then-not-ends_number : goal.returns-then-not-ends_number
returns-then-not-ends_number c =
    let side = option_map relation_of c.args.relation in
    let ls : List Layer = stack_of c.args.stack.items [] in
    let state : State = stand c.args.inner ls in
    let p : Placed = record { at = c.args.at; code = c.args.c } in
    let old : List Open = open_of c.args.layers.now.items [] in
    let no : ends_number c.args.inner (kind_of c.args.c) ≡ false = search rules in
    LogicMoves-same (logic.point_step (logic.Number side state c.args.touch) p old) (on_number side (step Arithmetic state p) None false p old)
    (open_size old + (relation_size side + weight state)) (open_size old + (relation_size side + weight state)) c.in_ok-found.found old
    (within_number side c.args.inner ls c.args.touch p old no) refl (c.in_ok-found.ensures.moves old)

pub returns-in_ok-moved-in-Tree : goal.returns-in_ok-moved-in-Tree
returns-in_ok-moved-in-Tree c =
    let side = option_map relation_of c.args.relation in
    let ls : List Layer = stack_of c.args.stack.items [] in
    let state : State = stand c.args.inner ls in
    let tree : Tree = tree_of c.in-Tree.tree in
    let p : Placed = record { at = c.args.at; code = c.args.c } in
    let old : List Open = open_of c.args.layers.now.items [] in
    let yes : ends_number c.args.inner (kind_of c.args.c) ≡ true = search rules in
    let at = settled-at c.args.inner tree ls (c.in-Tree.ensures []) in
    LogicMoves-same (logic.point_step (logic.Number side state c.args.touch) p old) (logic.point_step (logic.Number side (Have tree ls) c.args.touch) p old)
    (open_size old + (relation_size side + weight state)) (open_size old + (relation_size side + (layers_size ls + size tree))) c.in_ok-moved-in-Tree.moved (open_of c.end_number.new.layers.items [])
    (at_number side c.args.inner tree ls c.args.touch p old yes at) (ap (λ n. open_size old + (relation_size side + n)) (at-weight state tree ls at)) c.in_ok-moved-in-Tree.ensures

pub returns-in_ok-within-in-Open : goal.returns-in_ok-within-in-Open
returns-in_ok-within-in-Open c =
    let side = option_map relation_of c.args.relation in
    let ls : List Layer = stack_of c.args.stack.items [] in
    let state : State = stand c.args.inner ls in
    let other : State = stand c.in-Open.point ls in
    let p : Placed = record { at = c.args.at; code = c.args.c } in
    let old : List Open = open_of c.args.layers.now.items [] in
    let none = c.in-Open.ensures ls in
    LogicMoves-same (logic.point_step (logic.Number side state c.args.touch) p old) (on_number side (step Arithmetic other p) None false p old)
    (open_size old + (relation_size side + weight state)) (open_size old + (relation_size side + weight other)) c.in_ok-within-in-Open.within old
    (open_number side state other c.args.touch p old none.0 none.1) (ap (λ s. open_size old + (relation_size side + weight s)) (sym none.1)) (c.in_ok-within-in-Open.ensures.moves old)
