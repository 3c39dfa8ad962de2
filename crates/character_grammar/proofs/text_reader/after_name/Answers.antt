use Rattle.std.proofs.Common.{◌≡◌, ◌∙◌, ◌+◌, ap, refl, arith}
use Rattle.expression_grammar.specs.Spelling.{Placed}
use Rattle.expression_grammar.specs.Trees.{Items, Inserted, NoTrees, NoItems, size_items}
use Rattle.character_grammar.specs.TextReading.{after_symbol, opened_size, Opened}
use Rattle.character_grammar.specs.TextViews.{opened_of}
use Rattle.expression_grammar.specs.Views.{items_in, trees_in}
use Rattle.character_grammar.proofs.TextMoveLaws.{stays}
use Rattle.character_grammar.proofs.TextWeights.{symbol-weight}
use Rattle.character_grammar.proofs.text_reader.after_name.Goals as goal

pub returns-in_ok-point-in-InText : goal.returns-in_ok-point-in-InText
returns-in_ok-point-in-InText c =
    let opened : Opened = opened_of c.in-InText.opened in
    let before : Items = items_in NoItems c.in-InText.items.items in
    let p : Placed = record { at = c.args.at; code = c.args.c } in
    let all : items_in NoItems c.in_ok-all-in-InText.all.items ≡ Inserted before c.args.symbol NoTrees =
    c.in_ok-all-in-InText.ensures ∙ ap (λ xs. Inserted before c.args.symbol (trees_in NoTrees xs)) c.new.ensures.items in
    rw c.in-InText.is
    (stays (after_symbol opened (Inserted before c.args.symbol NoTrees) c.args.kind p) (opened_size opened + size_items before + 1) (record { point = c.in_ok-point-in-InText.point; more = 0 }) c.moved.result
    c.moved.ensures refl (c.in_ok-point-in-InText.ensures ∙ ap (λ xs. after_symbol opened xs c.args.kind p) all)
    (symbol-weight opened (Inserted before c.args.symbol NoTrees) c.args.kind p ∙ omega arith))
