use Rattle.std.proofs.Common.{◌≡◌, ◌∙◌, ◌+◌, List, [], true, false, ap, sym, refl, rules}
use Rattle.std.specs.Prelude.{option_map}
use Rattle.expression_grammar.specs.declared.character.Grammar.TheVariants.{Arithmetic}
use Rattle.expression_grammar.specs.Reading.{Layer, State, Have, step, accept, weight, layers_size}
use Rattle.expression_grammar.specs.Spelling.{Placed}
use Rattle.expression_grammar.specs.Stacks.{stack_of, stand}
use Rattle.character_grammar.specs.TextReading.{Frame, Within, go_within, frame_size, is_end}
use Rattle.character_grammar.specs.TextViews.{frame_of}
use Rattle.expression_grammar.specs.Trees.{Tree, size}
use Rattle.expression_grammar.specs.Views.{tree_of}
use Rattle.character_grammar.proofs.TextMoveLaws.{TextMoves-same, not_end, open_end, accept-none, settled-at, at-weight, at_within}
use Rattle.character_grammar.proofs.text_reader.go_within.Goals as goal

pub returns-then-not-is_end : goal.returns-then-not-is_end
returns-then-not-is_end c =
    let frame : Frame = frame_of c.args.frame in
    let state : State = stand c.args.inner (stack_of c.args.stack.items []) in
    let p : Placed = record { at = c.args.at; code = c.args.c } in
    let no : is_end c.args.kind ≡ false = search rules in
    TextMoves-same (go_within frame (step Arithmetic state p) (accept Arithmetic state) c.args.kind) (option_map (Within frame) (step Arithmetic state p))
    (frame_size frame + weight state) (frame_size frame + weight state) c.in_ok-found.found
    (not_end frame (step Arithmetic state p) (accept Arithmetic state) c.args.kind no) refl c.in_ok-found.ensures.moves

pub returns-in_ok-left-in-Tree : goal.returns-in_ok-left-in-Tree
returns-in_ok-left-in-Tree c =
    let frame : Frame = frame_of c.args.frame in
    let layers : List Layer = stack_of c.args.stack.items [] in
    let state : State = stand c.args.inner layers in
    let tree : Tree = tree_of c.in-Tree.tree in
    let p : Placed = record { at = c.args.at; code = c.args.c } in
    let yes : is_end c.args.kind ≡ true = search rules in
    let at = settled-at c.args.inner tree layers (c.in-Tree.ensures []) in
    TextMoves-same (go_within frame (step Arithmetic state p) (accept Arithmetic state) c.args.kind) (go_within frame (step Arithmetic (Have tree layers) p) (accept Arithmetic (Have tree layers)) c.args.kind)
    (frame_size frame + weight state) (frame_size frame + (layers_size layers + size tree)) c.in_ok-left-in-Tree.left
    (at_within frame state tree layers p c.args.kind at c.requires yes) (ap (λ n. frame_size frame + n) (at-weight state tree layers at)) c.in_ok-left-in-Tree.ensures

pub returns-in_ok-within-in-Open : goal.returns-in_ok-within-in-Open
returns-in_ok-within-in-Open c =
    let frame : Frame = frame_of c.args.frame in
    let layers : List Layer = stack_of c.args.stack.items [] in
    let state : State = stand c.args.inner layers in
    let other : State = stand c.in-Open.point layers in
    let p : Placed = record { at = c.args.at; code = c.args.c } in
    let none = c.in-Open.ensures layers in
    TextMoves-same (go_within frame (step Arithmetic state p) (accept Arithmetic state) c.args.kind) (option_map (Within frame) (step Arithmetic other p))
    (frame_size frame + weight state) (frame_size frame + weight other) c.in_ok-within-in-Open.within
    (open_end frame (step Arithmetic state p) (accept Arithmetic state) c.args.kind (accept-none Arithmetic state none.0) ∙ ap (λ s. option_map (Within frame) (step Arithmetic s p)) (sym none.1))
    (ap (λ s. frame_size frame + weight s) (sym none.1)) c.in_ok-within-in-Open.ensures.moves
