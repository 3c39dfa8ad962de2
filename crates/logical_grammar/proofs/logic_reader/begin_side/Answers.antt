use Rattle.std.proofs.Common.{◌+◌, refl, arith}
use Rattle.std.specs.Prelude.{Some}
use Rattle.expression_grammar.specs.Spelling.{Placed}
use Rattle.expression_grammar.specs.Trees.{size}
use Rattle.logical_grammar.specs.LogicReading.{text_begun, number_begun, open_size}
use Rattle.logical_grammar.specs.LogicViews.{relation_of}
use Rattle.logical_grammar.proofs.LogicMoveLaws.{LogicMoves-same}
use Rattle.logical_grammar.proofs.logic_reader.begin_side.Goals as goal

pub returns-then-is_text : goal.returns-then-is_text
returns-then-is_text c = λ layers.
    let side = relation_of c.args.relation in
    let p : Placed = record { at = c.args.at; code = c.args.c } in
    rw c.if-is_text.true
    (LogicMoves-same (text_begun (Some side) p layers) (text_begun (Some side) p layers) (open_size layers + (size side.left + 2)) (open_size layers + (size side.left + 1 + (0 + 1))) c.in_ok-text.text layers
    refl (omega arith) (c.in_ok-text.ensures layers))

pub returns : goal.returns
returns c = λ layers.
    let side = relation_of c.args.relation in
    let p : Placed = record { at = c.args.at; code = c.args.c } in
    rw c.if-is_text.false
    (LogicMoves-same (number_begun (Some side) p layers) (number_begun (Some side) p layers) (open_size layers + (size side.left + 2)) (open_size layers + (size side.left + 1 + 1)) c.in_ok-number.number layers
    refl (omega arith) (c.in_ok-number.ensures layers))
