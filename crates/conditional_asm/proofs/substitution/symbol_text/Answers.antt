use Rattle.std.proofs.Common.{◌≡◌, ◌∙◌, rules, sym, ap, subst, Ok, Err}
use Rattle.expression_grammar.specs.Views.{tree_of, trees_in}
use Rattle.expression_grammar.specs.Trees.{Tree, NoTrees, Variable}
use Rattle.expression_grammar.specs.declared.tree.Expr.TheViews.{the_lemmas}
use Rattle.expression_grammar.proofs.Rows.{trees_of-row}
use Rattle.cond_expr.specs.Outcome.{Tells}
use Rattle.statement_reading.specs.Templates.{variable}
use Rattle.conditional_asm.specs.Substitution.{part_text}
use Rattle.conditional_asm.proofs.substitution.symbol_text.Goals as goal

pub returns-in-Ok : goal.returns-in-Ok
returns-in-Ok g c =
    let told = g.Q.Lookups.told c.args.q.now in
    let row : tree_of c.args.tree.now ≡ Variable c.in-Variable.field-0 c.in-Variable.symbol (trees_in NoTrees c.in-Variable.subscripts.items) = search (rules, the_lemmas, trees_of-row) in
    let tree : tree_of c.args.tree.now ≡ Variable c.in-Variable.field-0 c.in-Variable.symbol (trees_in NoTrees c.as_slice.result.now) =
    row ∙ ap (λ l. Variable c.in-Variable.field-0 c.in-Variable.symbol (trees_in NoTrees l)) (sym c.as_slice.ensures.value) in
    subst (λ (x : Tree). Tells (part_text (variable x) told) c.args.notes.now c.inserted.new.notes (Ok c.in-Ok.text)) (sym tree) c.in-Ok.ensures

pub returns-in-Err : goal.returns-in-Err
returns-in-Err g c =
    let told = g.Q.Lookups.told c.args.q.now in
    let row : tree_of c.args.tree.now ≡ Variable c.in-Variable.field-0 c.in-Variable.symbol (trees_in NoTrees c.in-Variable.subscripts.items) = search (rules, the_lemmas, trees_of-row) in
    let tree : tree_of c.args.tree.now ≡ Variable c.in-Variable.field-0 c.in-Variable.symbol (trees_in NoTrees c.as_slice.result.now) =
    row ∙ ap (λ l. Variable c.in-Variable.field-0 c.in-Variable.symbol (trees_in NoTrees l)) (sym c.as_slice.ensures.value) in
    subst (λ (x : Tree). Tells (part_text (variable x) told) c.args.notes.now c.inserted.new.notes (Err c.in-Err.stop)) (sym tree) c.in-Err.ensures
