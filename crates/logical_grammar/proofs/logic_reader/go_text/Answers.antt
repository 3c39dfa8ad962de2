use Rattle.std.proofs.Common.{◌≡◌, ◌+◌, List, [], true, false, ap, sym, refl, subst, rules}
use Rattle.std.specs.Prelude.{Option, Some, None, ◌&&◌, is_some, option_map}
use Rattle.expression_grammar.specs.declared.tree.Expr.{Expr}
use Rattle.expression_grammar.specs.Characters.{kind_of}
use Rattle.expression_grammar.specs.Spelling.{Placed}
use Rattle.expression_grammar.specs.Trees.{Tree, size}
use Rattle.expression_grammar.specs.Views.{tree_of}
use Rattle.character_grammar.specs.TextReading.{TextState, text_step, text_accept, text_weight}
use Rattle.character_grammar.specs.TextViews.{text_state}
use Rattle.logical_grammar.specs.LogicReading as logic
use Rattle.logical_grammar.specs.LogicReading.{Open, on_text, behind_one, text_side, point_step, open_size, text_relation_size}
use Rattle.logical_grammar.specs.LogicViews.{relation_of, may_end_text, open_of}
use Rattle.character_grammar.proofs.TextWeights.{text_accept-size}
use Rattle.logical_grammar.proofs.LogicMoveLaws.{LogicMoves-same, within_text, behind_text}
use Rattle.logical_grammar.proofs.logic_reader.go_text.Goals as goal

pub returns-then-not-ends_text : goal.returns-then-not-ends_text
returns-then-not-ends_text c =
    let side = option_map relation_of c.args.relation in
    let state : TextState = text_state c.args.inner in
    let p : Placed = record { at = c.args.at; code = c.args.c } in
    let old : List Open = open_of c.args.layers.now.items [] in
    let no : (is_some (text_accept state) && may_end_text c.args.inner (kind_of c.args.c)) ≡ false = search rules in
    LogicMoves-same (point_step (logic.Text side state c.args.touch) p old) (on_text side (text_step state p) None false p old)
    (open_size old + (text_relation_size side + text_weight state)) (open_size old + (text_relation_size side + text_weight state)) c.in_ok-found.found old
    (within_text side c.args.inner c.args.touch p old no) refl (c.in_ok-found.ensures old)

pub returns-in_ok-moved-in-Some : goal.returns-in_ok-moved-in-Some
returns-in_ok-moved-in-Some c =
    let side = option_map relation_of c.args.relation in
    let state : TextState = text_state c.args.inner in
    let tree : Tree = tree_of c.in-Some.tree in
    let p : Placed = record { at = c.args.at; code = c.args.c } in
    let old : List Open = open_of c.args.layers.now.items [] in
    let yes : (is_some (text_accept state) && may_end_text c.args.inner (kind_of c.args.c)) ≡ true = search rules in
    let a : Some tree ≡ text_accept state = subst (λ (o : Option Expr). option_map tree_of o ≡ text_accept state) c.in-Some.is c.in_ok-ended.ensures in
    LogicMoves-same (point_step (logic.Text side state c.args.touch) p old) (behind_one (text_side side tree) c.args.touch (kind_of c.args.c) c.args.c old)
    (open_size old + (text_relation_size side + text_weight state)) (open_size old + (text_relation_size side + size tree)) c.in_ok-moved-in-Some.moved (open_of c.end_text.new.layers.items [])
    (behind_text side c.args.inner tree c.args.touch p old yes (sym a)) (ap (λ n. open_size old + (text_relation_size side + n)) (sym (text_accept-size state tree (sym a)))) c.in_ok-moved-in-Some.ensures
