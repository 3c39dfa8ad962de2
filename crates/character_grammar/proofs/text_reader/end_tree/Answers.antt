use Rattle.std.proofs.Common.{◌≡◌, ◌∙◌, ◌+◌, ◌<◌, List, [], length, ap, arith}
use Rattle.std.specs.Prelude.{option_map}
use Rattle.std.proofs.lemmas.Bool.Decides.{nat_tests}
use Rattle.expression_grammar.specs.declared.character.Grammar.TheVariants.{Arithmetic}
use Rattle.expression_grammar.specs.Reading.{Layer, Have, fold, step, accept, layers_size}
use Rattle.expression_grammar.specs.Spelling.{Placed}
use Rattle.expression_grammar.specs.Stacks.{stack_of}
use Rattle.character_grammar.specs.TextReading.{Frame, Within, leave, go_within, frame_size}
use Rattle.character_grammar.specs.TextViews.{frame_of}
use Rattle.expression_grammar.specs.Trees.{Tree, size}
use Rattle.expression_grammar.specs.Views.{tree_of}
use Rattle.character_grammar.proofs.TextMoveLaws.{TextMoves-same, leaves, goes_on, folded-size, none-left}
use Rattle.character_grammar.proofs.text_reader.end_tree.Goals as goal

pub returns-then-is_empty : goal.returns-then-is_empty
returns-then-is_empty c =
    let frame : Frame = frame_of c.args.frame in
    let layers : List Layer = stack_of c.args.stack.items [] in
    let tree : Tree = tree_of c.args.tree in
    let inner : Tree = tree_of c.in_ok-inner.inner in
    let p : Placed = record { at = c.args.at; code = c.args.c } in
    let none : length c.fold.new.stack.items ≡ 0 = grind (arith, nat_tests) in
    let e : fold 0 tree layers ≡ record { tree = inner; layers = [] } =
    c.in_ok-inner.ensures ∙ ap (λ xs. record { tree = inner; layers = stack_of xs [] }) (none-left c.fold.new.stack.items none) in
    TextMoves-same (go_within frame (step Arithmetic (Have tree layers) p) (accept Arithmetic (Have tree layers)) c.args.kind) (leave frame inner c.args.kind)
    (frame_size frame + (layers_size layers + size tree)) (frame_size frame + size inner) c.in_ok-left.left
    (leaves frame tree inner layers p c.args.kind c.requires.kind c.requires.ends e) (omega (arith, folded-size tree inner layers [] e)) c.in_ok-left.ensures

pub returns : goal.returns
returns c =
    let frame : Frame = frame_of c.args.frame in
    let layers : List Layer = stack_of c.args.stack.items [] in
    let below : List Layer = stack_of c.fold.new.stack.items [] in
    let tree : Tree = tree_of c.args.tree in
    let inner : Tree = tree_of c.in_ok-inner.inner in
    let p : Placed = record { at = c.args.at; code = c.args.c } in
    let some : 0 < length c.fold.new.stack.items = grind (arith, nat_tests) in
    TextMoves-same (go_within frame (step Arithmetic (Have tree layers) p) (accept Arithmetic (Have tree layers)) c.args.kind) (option_map (Within frame) (step Arithmetic (Have inner below) p))
    (frame_size frame + (layers_size layers + size tree)) (frame_size frame + (layers_size below + size inner)) c.in_ok-found.found
    (goes_on frame tree inner layers c.fold.new.stack.items p c.args.kind c.requires.kind c.requires.ends c.in_ok-inner.ensures
    (λ e. let none : length c.fold.new.stack.items ≡ 0 = ap length e in absurd (omega arith)))
    (ap (λ n. frame_size frame + n) (folded-size tree inner layers below c.in_ok-inner.ensures)) c.in_ok-found.ensures.moves
