use Rattle.std.proofs.Common.{◌≡◌, ◌∙◌, List, ℤ, Ok, rules, sym, ap, subst}
use Rattle.hl_base.specs.declared.set.SetValue.{SetValue}
use Rattle.expression_grammar.specs.Views.{tree_of, trees_in}
use Rattle.expression_grammar.specs.Trees.{Tree, NoTrees, Variable}
use Rattle.expression_grammar.specs.declared.tree.Expr.TheViews.{the_lemmas}
use Rattle.expression_grammar.proofs.Rows.{trees_of-row}
use Rattle.cond_expr.specs.Outcome.{Tells, gives, and_then}
use Rattle.cond_expr.specs.Values.{numbers}
use Rattle.cond_expr.proofs.OutcomeLemmas.{Tells-and_then, Tells-failed, Tells-gives}
use Rattle.conditional_asm.specs.declared.act.Act.TheVariants.{Set}
use Rattle.conditional_asm.specs.Setting as settings
use Rattle.conditional_asm.proofs.setting.assign.Goals as goal

pub returns-in_ok-value-in-Variable : goal.returns-in_ok-value-in-Variable
returns-in_ok-value-in-Variable g c =
    let told = g.Q.Lookups.told c.args.q.now in
    let name = c.in-Variable.symbol.name in
    let operand = tree_of c.args.setting.now.value in
    let trees = trees_in NoTrees c.as_slice.result.now in
    let row : tree_of c.args.setting.now.target ≡ Variable c.in-Variable.field-0 c.in-Variable.symbol (trees_in NoTrees c.in-Variable.subscripts.items) = search (rules, the_lemmas, trees_of-row) in
    let tree : tree_of c.args.setting.now.target ≡ Variable c.in-Variable.field-0 c.in-Variable.symbol trees =
    row ∙ ap (λ l. Variable c.in-Variable.field-0 c.in-Variable.symbol (trees_in NoTrees l)) (sym c.as_slice.ensures.value) in
    subst (λ (x : Tree). Tells (settings.put c.args.kind x operand told) c.args.notes.now c.value_of.new.notes (Ok (Set c.copy.result c.place.result c.in_ok-value-in-Variable.value))) (sym tree)
    (Tells-and_then (numbers trees told) (λ (at : List ℤ). and_then (settings.value_as c.args.kind operand told) (λ v. gives (Set name (settings.element at) v)))
    c.args.notes.now c.numbers.new.notes c.value_of.new.notes c.in_ok-at-in-Variable.at _ c.in_ok-at-in-Variable.ensures
    (Tells-and_then (settings.value_as c.args.kind operand told) (λ (v : SetValue). gives (Set name (settings.element c.in_ok-at-in-Variable.at) v))
    c.numbers.new.notes c.value_of.new.notes c.value_of.new.notes c.in_ok-value-in-Variable.value _ c.in_ok-value-in-Variable.ensures
    (Tells-gives _ _ c.value_of.new.notes cc)))

pub returns-in_err-at-in-Variable : goal.returns-in_err-at-in-Variable
returns-in_err-at-in-Variable g c =
    let told = g.Q.Lookups.told c.args.q.now in
    let name = c.in-Variable.symbol.name in
    let operand = tree_of c.args.setting.now.value in
    let trees = trees_in NoTrees c.as_slice.result.now in
    let row : tree_of c.args.setting.now.target ≡ Variable c.in-Variable.field-0 c.in-Variable.symbol (trees_in NoTrees c.in-Variable.subscripts.items) = search (rules, the_lemmas, trees_of-row) in
    let tree : tree_of c.args.setting.now.target ≡ Variable c.in-Variable.field-0 c.in-Variable.symbol trees =
    row ∙ ap (λ l. Variable c.in-Variable.field-0 c.in-Variable.symbol (trees_in NoTrees l)) (sym c.as_slice.ensures.value) in
    subst (λ (x : Tree). Tells (settings.put c.args.kind x operand told) c.args.notes.now c.numbers.new.notes c.from_residual.result) (sym tree)
    (Tells-failed (numbers trees told) (λ (at : List ℤ). and_then (settings.value_as c.args.kind operand told) (λ v. gives (Set name (settings.element at) v)))
    c.args.notes.now c.numbers.new.notes c.numbers.new.notes _ c.from_residual.result c.from_residual.ensures.1 c.in_err-at-in-Variable.ensures)

pub returns-in_err-value-in-Variable : goal.returns-in_err-value-in-Variable
returns-in_err-value-in-Variable g c =
    let told = g.Q.Lookups.told c.args.q.now in
    let name = c.in-Variable.symbol.name in
    let operand = tree_of c.args.setting.now.value in
    let trees = trees_in NoTrees c.as_slice.result.now in
    let row : tree_of c.args.setting.now.target ≡ Variable c.in-Variable.field-0 c.in-Variable.symbol (trees_in NoTrees c.in-Variable.subscripts.items) = search (rules, the_lemmas, trees_of-row) in
    let tree : tree_of c.args.setting.now.target ≡ Variable c.in-Variable.field-0 c.in-Variable.symbol trees =
    row ∙ ap (λ l. Variable c.in-Variable.field-0 c.in-Variable.symbol (trees_in NoTrees l)) (sym c.as_slice.ensures.value) in
    let stopped = c.from_residual-in_err-value-in-Variable.result in
    subst (λ (x : Tree). Tells (settings.put c.args.kind x operand told) c.args.notes.now c.value_of.new.notes stopped) (sym tree)
    (Tells-and_then (numbers trees told) (λ (at : List ℤ). and_then (settings.value_as c.args.kind operand told) (λ v. gives (Set name (settings.element at) v)))
    c.args.notes.now c.numbers.new.notes c.value_of.new.notes c.in_ok-at-in-Variable.at stopped c.in_ok-at-in-Variable.ensures
    (Tells-failed (settings.value_as c.args.kind operand told) (λ (v : SetValue). gives (Set name (settings.element c.in_ok-at-in-Variable.at) v))
    c.numbers.new.notes c.value_of.new.notes c.value_of.new.notes _ stopped c.from_residual-in_err-value-in-Variable.ensures.1 c.in_err-value-in-Variable.ensures))
