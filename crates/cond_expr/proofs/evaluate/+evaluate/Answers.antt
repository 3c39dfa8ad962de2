use Rattle.std.proofs.Common.{◌≡◌, ◌∙◌, ◌++◌, ◌∷◌, [], List, ℕ, ℤ, rules, sym, ap, true, false, subst}
use Rattle.expression_grammar.specs.Views.{tree_of, trees_in, items_in}
use Rattle.expression_grammar.specs.Trees.{Tree, NoTrees, NoItems, Ordinary, Variable, Pair, Compared, Quoted, Duplicated, Substring, SubstringToEnd, Joined}
use Rattle.expression_grammar.specs.declared.tree.Expr.TheViews.{the_lemmas}
use Rattle.expression_grammar.proofs.Rows.{trees_of-row, items_of-row}
use Rattle.cond_expr.specs.Outcome.{Outcome, Tells, and_then}
use Rattle.cond_expr.specs.Characters.{limited}
use Rattle.cond_expr.specs.Variables.{text_of_variable, number_of_variable, asked_text_of_variable}
use Rattle.cond_expr.specs.Values as values
use Rattle.cond_expr.specs.Values.{number, text, numbers, pieces, piece, inserted, joined, joined_with, compared_with, compared_text, duplicated_by, substring_from, substring_to_end_of, joined_text}
use Rattle.cond_expr.proofs.OutcomeLemmas.{Tells-and_then, Tells-failed, Tells-true, Tells-false}
use Rattle.cond_expr.proofs.SequenceLemmas.{numbers-kept, numbers-failed, pieces-kept, pieces-failed}
use Rattle.cond_expr.proofs.evaluate.+evaluate.Goals as goal

pub inserted-returns : goal.inserted-returns
inserted-returns g t c =
    let told = g.Q.Lookups.told c.args.q.now in
    let name = c.args.symbol.now.name in
    let same : c.as_slice.result.now ≡ c.in_ok-at.at = cc in
    Tells-and_then (numbers (trees_in NoTrees c.args.subscripts.now) told) (λ (at : List ℤ). text_of_variable told name at)
    c.args.notes.now c.numbers.new.notes c.text_of_variable.new.notes c.in_ok-at.at c.text_of_variable.result c.in_ok-at.ensures
    (subst (λ (at : List ℤ). Tells (text_of_variable told name at) c.numbers.new.notes c.text_of_variable.new.notes c.text_of_variable.result)
    same c.text_of_variable.ensures)

pub joined_text-returns : goal.joined_text-returns
joined_text-returns g t c =
    let told = g.Q.Lookups.told c.args.q.now in
    let whole : c.in_ok-whole.whole ≡ c.args.left ++ c.in_ok-b.b = search rules in
    Tells-and_then (text (tree_of c.args.right.now) told) (λ b. limited (c.args.left ++ b)) c.args.notes.now c.text.new.notes c.limited.new.notes c.in_ok-b.b
    c.limited.result c.in_ok-b.ensures
    (subst (λ (w : List ℕ). Tells (limited w) c.text.new.notes c.limited.new.notes c.limited.result) whole c.limited.ensures)

pub joined_with-returns : goal.joined_with-returns
joined_with-returns g t c =
    let told = g.Q.Lookups.told c.args.q.now in
    Tells-and_then (number (tree_of c.args.right.now) told) (λ n. joined c.args.operator c.args.left n) c.args.notes.now c.number.new.notes c.joined.new.notes
    c.in_ok-n.n c.joined.result c.in_ok-n.ensures (search rules)

pub number-returns-in_err-at-in-Variable : goal.number-returns-in_err-at-in-Variable
number-returns-in_err-at-in-Variable g t c =
    let told = g.Q.Lookups.told c.args.q.now in
    let row : tree_of c.args.e.now ≡ Variable c.in-Variable.asked c.in-Variable.symbol (trees_in NoTrees c.in-Variable.subscripts.items) = search (rules, the_lemmas, trees_of-row) in
    let tree : tree_of c.args.e.now ≡ Variable c.in-Variable.asked c.in-Variable.symbol (trees_in NoTrees c.deref.result.now) =
    row ∙ ap (λ l. Variable c.in-Variable.asked c.in-Variable.symbol (trees_in NoTrees l)) (sym c.deref.ensures.value) in
    subst (λ (x : Tree). Tells (number x told) c.args.notes.now c.numbers.new.notes c.from_residual.result) (sym tree)
    (Tells-failed (numbers (trees_in NoTrees c.deref.result.now) told) (number_of_variable told c.in-Variable.asked c.in-Variable.symbol.name) c.args.notes.now
    c.numbers.new.notes c.numbers.new.notes _ c.from_residual.result c.from_residual.ensures.1 c.in_err-at-in-Variable.ensures)

pub number-returns-then-is_text : goal.number-returns-then-is_text
number-returns-then-is_text g t c =
    let told = g.Q.Lookups.told c.args.q.now in
    let tree : tree_of c.args.e.now ≡ Compared c.in-Compared.comparison (tree_of c.deref-in-Compared.result.now) (tree_of c.deref-then-is_text-2.result.now) = search rules in
    let left = tree_of c.deref-in-Compared.result.now in
    let right = tree_of c.deref-then-is_text-2.result.now in
    let cmp = c.in-Compared.comparison in
    let yes : values.is_text left ≡ true = sym c.is_text.ensures ∙ c.if-is_text.true in
    let same : c.deref-then-is_text.result.now ≡ c.deref-in-Compared.result.now = cc in
    subst (λ (x : Tree). Tells (number x told) c.args.notes.now c.compared_text.new.notes c.compared_text.result) (sym tree)
    (Tells-true (values.is_text left) (and_then (text left told) (λ a. compared_text cmp a right told))
    (and_then (number left told) (λ m. compared_with cmp m right told)) c.args.notes.now c.compared_text.new.notes c.compared_text.result yes
    (Tells-and_then (text left told) (λ (a : List ℕ). compared_text cmp a right told)
    c.args.notes.now c.text.new.notes c.compared_text.new.notes c.in_ok-a-in-Compared.a c.compared_text.result
    (search rules) (search rules)))

pub number-returns-in_ok-at-in-Variable : goal.number-returns-in_ok-at-in-Variable
number-returns-in_ok-at-in-Variable g t c =
    let told = g.Q.Lookups.told c.args.q.now in
    let row : tree_of c.args.e.now ≡ Variable c.in-Variable.asked c.in-Variable.symbol (trees_in NoTrees c.in-Variable.subscripts.items) = search (rules, the_lemmas, trees_of-row) in
    let tree : tree_of c.args.e.now ≡ Variable c.in-Variable.asked c.in-Variable.symbol (trees_in NoTrees c.deref.result.now) =
    row ∙ ap (λ l. Variable c.in-Variable.asked c.in-Variable.symbol (trees_in NoTrees l)) (sym c.deref.ensures.value) in
    let name = c.in-Variable.symbol.name in
    let same : c.as_slice.result.now ≡ c.in_ok-at-in-Variable.at = cc in
    subst (λ (x : Tree). Tells (number x told) c.args.notes.now c.number_of_variable.new.notes c.number_of_variable.result) (sym tree)
    (Tells-and_then (numbers (trees_in NoTrees c.deref.result.now) told) (λ (at : List ℤ). number_of_variable told c.in-Variable.asked name at)
    c.args.notes.now c.numbers.new.notes c.number_of_variable.new.notes c.in_ok-at-in-Variable.at c.number_of_variable.result
    c.in_ok-at-in-Variable.ensures
    (subst (λ (at : List ℤ). Tells (number_of_variable told c.in-Variable.asked name at) c.numbers.new.notes c.number_of_variable.new.notes c.number_of_variable.result)
    same c.number_of_variable.ensures))

pub number-returns-in_ok-m-in-Pair : goal.number-returns-in_ok-m-in-Pair
number-returns-in_ok-m-in-Pair g t c =
    let told = g.Q.Lookups.told c.args.q.now in
    let tree : tree_of c.args.e.now ≡ Pair c.in-Pair.operator (tree_of c.deref-in-Pair.result.now) (tree_of c.deref-in-Pair-2.result.now) = search rules in
    subst (λ (x : Tree). Tells (number x told) c.args.notes.now c.joined_with.new.notes c.joined_with.result) (sym tree)
    (Tells-and_then (number (tree_of c.deref-in-Pair.result.now) told) (λ (v : ℤ). joined_with c.in-Pair.operator v (tree_of c.deref-in-Pair-2.result.now) told)
    c.args.notes.now c.number-in-Pair.new.notes c.joined_with.new.notes c.in_ok-m-in-Pair.m c.joined_with.result c.in_ok-m-in-Pair.ensures (search rules))

pub number-returns-in_ok-m-in-Compared : goal.number-returns-in_ok-m-in-Compared
number-returns-in_ok-m-in-Compared g t c =
    let told = g.Q.Lookups.told c.args.q.now in
    let tree : tree_of c.args.e.now ≡ Compared c.in-Compared.comparison (tree_of c.deref-in-Compared.result.now) (tree_of c.deref-in-Compared-3.result.now) = search rules in
    let left = tree_of c.deref-in-Compared.result.now in
    let right = tree_of c.deref-in-Compared-3.result.now in
    let cmp = c.in-Compared.comparison in
    let no : values.is_text left ≡ false = sym c.is_text.ensures ∙ c.if-is_text.false in
    subst (λ (x : Tree). Tells (number x told) c.args.notes.now c.compared_with.new.notes c.compared_with.result) (sym tree)
    (Tells-false (values.is_text left) (and_then (text left told) (λ a. compared_text cmp a right told))
    (and_then (number left told) (λ m. compared_with cmp m right told)) c.args.notes.now c.compared_with.new.notes c.compared_with.result no
    (Tells-and_then (number left told) (λ (m : ℤ). compared_with cmp m right told)
    c.args.notes.now c.number-in-Compared.new.notes c.compared_with.new.notes c.in_ok-m-in-Compared.m c.compared_with.result
    (search rules) (search rules)))

pub piece-returns-in-Inserted : goal.piece-returns-in-Inserted
piece-returns-in-Inserted g t c =
    let told = g.Q.Lookups.told c.args.q.now in
    let symbol = c.in-Inserted.symbol in
    let row : piece c.args.item.now told ≡ inserted symbol (trees_in NoTrees c.in-Inserted.subscripts.items) told = search (rules, the_lemmas, trees_of-row) in
    let same : piece c.args.item.now told ≡ inserted symbol (trees_in NoTrees c.deref.result.now) told =
    row ∙ ap (λ l. inserted symbol (trees_in NoTrees l) told) (sym c.deref.ensures.value) in
    subst (λ (o : Outcome (List ℕ)). Tells o c.args.notes.now c.inserted.new.notes c.inserted.result) (sym same) (search rules)

pub text-returns-in_err-at-in-Variable : goal.text-returns-in_err-at-in-Variable
text-returns-in_err-at-in-Variable g t c =
    let told = g.Q.Lookups.told c.args.q.now in
    let row : tree_of c.args.e.now ≡ Variable c.in-Variable.asked c.in-Variable.symbol (trees_in NoTrees c.in-Variable.subscripts.items) = search (rules, the_lemmas, trees_of-row) in
    let tree : tree_of c.args.e.now ≡ Variable c.in-Variable.asked c.in-Variable.symbol (trees_in NoTrees c.deref.result.now) =
    row ∙ ap (λ l. Variable c.in-Variable.asked c.in-Variable.symbol (trees_in NoTrees l)) (sym c.deref.ensures.value) in
    subst (λ (x : Tree). Tells (text x told) c.args.notes.now c.numbers.new.notes c.from_residual.result) (sym tree)
    (Tells-failed (numbers (trees_in NoTrees c.deref.result.now) told) (asked_text_of_variable told c.in-Variable.asked c.in-Variable.symbol.name) c.args.notes.now
    c.numbers.new.notes c.numbers.new.notes _ c.from_residual.result c.from_residual.ensures.1 c.in_err-at-in-Variable.ensures)

pub text-returns-in_err-whole-in-Quoted : goal.text-returns-in_err-whole-in-Quoted
text-returns-in_err-whole-in-Quoted g t c =
    let told = g.Q.Lookups.told c.args.q.now in
    let row : tree_of c.args.e.now ≡ Quoted (items_in NoItems c.in-Quoted.items.items) = search (rules, the_lemmas, items_of-row) in
    let tree : tree_of c.args.e.now ≡ Quoted (items_in NoItems c.deref-in-Quoted.result.now) =
    row ∙ ap (λ l. Quoted (items_in NoItems l)) (sym c.deref-in-Quoted.ensures.value) in
    subst (λ (x : Tree). Tells (text x told) c.args.notes.now c.pieces.new.notes c.from_residual-in_err-whole-in-Quoted.result) (sym tree)
    (Tells-failed (pieces (items_in NoItems c.deref-in-Quoted.result.now) told) limited c.args.notes.now c.pieces.new.notes c.pieces.new.notes _
    c.from_residual-in_err-whole-in-Quoted.result c.from_residual-in_err-whole-in-Quoted.ensures.1 c.in_err-whole-in-Quoted.ensures)

pub text-returns-in-Symbol : goal.text-returns-in-Symbol
text-returns-in-Symbol g t c =
    let told = g.Q.Lookups.told c.args.q.now in
    let tree : tree_of c.args.e.now ≡ Ordinary c.in-Symbol.asked c.in-Symbol.symbol = search rules in
    subst (λ (x : Tree). Tells (text x told) c.args.notes.now c.args.notes.now c.asked_text_of_symbol.result) (sym tree)
    (c.asked_text_of_symbol.ensures c.args.notes.now)

pub text-returns-in_ok-at-in-Variable : goal.text-returns-in_ok-at-in-Variable
text-returns-in_ok-at-in-Variable g t c =
    let told = g.Q.Lookups.told c.args.q.now in
    let row : tree_of c.args.e.now ≡ Variable c.in-Variable.asked c.in-Variable.symbol (trees_in NoTrees c.in-Variable.subscripts.items) = search (rules, the_lemmas, trees_of-row) in
    let tree : tree_of c.args.e.now ≡ Variable c.in-Variable.asked c.in-Variable.symbol (trees_in NoTrees c.deref.result.now) =
    row ∙ ap (λ l. Variable c.in-Variable.asked c.in-Variable.symbol (trees_in NoTrees l)) (sym c.deref.ensures.value) in
    let name = c.in-Variable.symbol.name in
    let same : c.as_slice.result.now ≡ c.in_ok-at-in-Variable.at = cc in
    subst (λ (x : Tree). Tells (text x told) c.args.notes.now c.asked_text_of_variable.new.notes c.asked_text_of_variable.result) (sym tree)
    (Tells-and_then (numbers (trees_in NoTrees c.deref.result.now) told) (λ (at : List ℤ). asked_text_of_variable told c.in-Variable.asked name at)
    c.args.notes.now c.numbers.new.notes c.asked_text_of_variable.new.notes c.in_ok-at-in-Variable.at c.asked_text_of_variable.result
    c.in_ok-at-in-Variable.ensures
    (subst (λ (at : List ℤ). Tells (asked_text_of_variable told c.in-Variable.asked name at) c.numbers.new.notes c.asked_text_of_variable.new.notes c.asked_text_of_variable.result)
    same c.asked_text_of_variable.ensures))

pub text-returns-in_ok-whole-in-Quoted : goal.text-returns-in_ok-whole-in-Quoted
text-returns-in_ok-whole-in-Quoted g t c =
    let told = g.Q.Lookups.told c.args.q.now in
    let row : tree_of c.args.e.now ≡ Quoted (items_in NoItems c.in-Quoted.items.items) = search (rules, the_lemmas, items_of-row) in
    let tree : tree_of c.args.e.now ≡ Quoted (items_in NoItems c.deref-in-Quoted.result.now) =
    row ∙ ap (λ l. Quoted (items_in NoItems l)) (sym c.deref-in-Quoted.ensures.value) in
    subst (λ (x : Tree). Tells (text x told) c.args.notes.now c.limited.new.notes c.limited.result) (sym tree)
    (Tells-and_then (pieces (items_in NoItems c.deref-in-Quoted.result.now) told) limited c.args.notes.now c.pieces.new.notes c.limited.new.notes
    c.in_ok-whole-in-Quoted.whole c.limited.result c.in_ok-whole-in-Quoted.ensures c.limited.ensures)

pub text-returns-in_ok-n-in-Duplicated : goal.text-returns-in_ok-n-in-Duplicated
text-returns-in_ok-n-in-Duplicated g t c =
    let told = g.Q.Lookups.told c.args.q.now in
    let tree : tree_of c.args.e.now ≡ Duplicated (tree_of c.deref-in-Duplicated.result.now) (tree_of c.deref-in-Duplicated-2.result.now) = search rules in
    subst (λ (x : Tree). Tells (text x told) c.args.notes.now c.duplicated_by.new.notes c.duplicated_by.result) (sym tree)
    (Tells-and_then (number (tree_of c.deref-in-Duplicated.result.now) told) (λ (v : ℤ). duplicated_by v (tree_of c.deref-in-Duplicated-2.result.now) told)
    c.args.notes.now c.number.new.notes c.duplicated_by.new.notes c.in_ok-n-in-Duplicated.n c.duplicated_by.result c.in_ok-n-in-Duplicated.ensures (search rules))

pub text-returns-in_ok-a-in-Joined : goal.text-returns-in_ok-a-in-Joined
text-returns-in_ok-a-in-Joined g t c =
    let told = g.Q.Lookups.told c.args.q.now in
    let tree : tree_of c.args.e.now ≡ Joined (tree_of c.deref-in-Joined.result.now) (tree_of c.deref-in-Joined-2.result.now) = search rules in
    subst (λ (x : Tree). Tells (text x told) c.args.notes.now c.joined_text.new.notes c.joined_text.result) (sym tree)
    (Tells-and_then (text (tree_of c.deref-in-Joined.result.now) told) (λ (v : List ℕ). joined_text v (tree_of c.deref-in-Joined-2.result.now) told)
    c.args.notes.now c.text-in-Joined.new.notes c.joined_text.new.notes c.in_ok-a-in-Joined.a c.joined_text.result c.in_ok-a-in-Joined.ensures (search rules))

pub text-returns-in_ok-s-in-SubstringToEnd : goal.text-returns-in_ok-s-in-SubstringToEnd
text-returns-in_ok-s-in-SubstringToEnd g t c =
    let told = g.Q.Lookups.told c.args.q.now in
    let tree : tree_of c.args.e.now ≡ SubstringToEnd (tree_of c.deref-in-SubstringToEnd.result.now) (tree_of c.deref-in-SubstringToEnd-2.result.now) = search rules in
    subst (λ (x : Tree). Tells (text x told) c.args.notes.now c.substring_to_end_of.new.notes c.substring_to_end_of.result) (sym tree)
    (Tells-and_then (text (tree_of c.deref-in-SubstringToEnd.result.now) told) (λ (s : List ℕ). substring_to_end_of s (tree_of c.deref-in-SubstringToEnd-2.result.now) told)
    c.args.notes.now c.text-in-SubstringToEnd.new.notes c.substring_to_end_of.new.notes c.in_ok-s-in-SubstringToEnd.s c.substring_to_end_of.result
    c.in_ok-s-in-SubstringToEnd.ensures (search rules))

pub text-returns-in_ok-m-in-Substring : goal.text-returns-in_ok-m-in-Substring
text-returns-in_ok-m-in-Substring g t c =
    let told = g.Q.Lookups.told c.args.q.now in
    let tree : tree_of c.args.e.now ≡ Substring (tree_of c.deref-in-Substring.result.now) (tree_of c.deref-in-Substring-2.result.now) (tree_of c.deref-in-Substring-3.result.now) = search rules in
    let start = tree_of c.deref-in-Substring-2.result.now in
    let count = tree_of c.deref-in-Substring-3.result.now in
    subst (λ (x : Tree). Tells (text x told) c.args.notes.now c.substring_from.new.notes c.substring_from.result) (sym tree)
    (Tells-and_then (text (tree_of c.deref-in-Substring.result.now) told) (λ (s : List ℕ). and_then (number start told) (λ m. substring_from s m count told))
    c.args.notes.now c.text.new.notes c.substring_from.new.notes c.in_ok-s-in-Substring.s c.substring_from.result
    c.in_ok-s-in-Substring.ensures
    (Tells-and_then (number start told) (λ (m : ℤ). substring_from c.in_ok-s-in-Substring.s m count told)
    c.text.new.notes c.number-in-Substring.new.notes c.substring_from.new.notes c.in_ok-m-in-Substring.m c.substring_from.result
    c.in_ok-m-in-Substring.ensures (search rules)))

pub numbers-returns-in_err-n : goal.numbers-returns-in_err-n
numbers-returns-in_err-n g t c =
    let told = g.Q.Lookups.told c.args.q.now in
    numbers-failed told c.args.trees.now c.loop-tree.tree-index c.tree-item.result c.args.notes.now c.loop-tree.notes c.number.new.notes
    c.loop-tree.values c.in_err-n.field-0.0 c.from_residual.result c.loop-tree-test.true c.tree-item.is c.from_residual.ensures.1
    c.loop-tree.invariant c.in_err-n.ensures

pub numbers-loop-tree-preserved : goal.numbers-loop-tree-preserved
numbers-loop-tree-preserved g t c =
    let told = g.Q.Lookups.told c.args.q.now in
    let pushed : c.push.new.self ≡ c.loop-tree.values ++ c.in_ok-n.n ∷ [] = search rules in
    numbers-kept told c.args.trees.now c.loop-tree.tree-index c.tree-item.result c.args.notes.now c.loop-tree.notes c.number.new.notes
    c.loop-tree.values c.push.new.self c.in_ok-n.n c.loop-tree-test.true c.tree-item.is pushed c.loop-tree.invariant c.in_ok-n.ensures

pub pieces-returns-in_err-part : goal.pieces-returns-in_err-part
pieces-returns-in_err-part g t c =
    let told = g.Q.Lookups.told c.args.q.now in
    pieces-failed told c.args.items.now c.loop-item.item-index c.item-item.result c.args.notes.now c.loop-item.notes c.piece.new.notes
    c.loop-item.whole c.in_err-part.field-0.0 c.from_residual.result c.loop-item-test.true c.item-item.is c.from_residual.ensures.1
    c.loop-item.invariant c.in_err-part.ensures

pub pieces-loop-item-preserved : goal.pieces-loop-item-preserved
pieces-loop-item-preserved g t c =
    let told = g.Q.Lookups.told c.args.q.now in
    let pushed : c.push_str.new.self ≡ c.loop-item.whole ++ c.in_ok-part.part = search rules in
    pieces-kept told c.args.items.now c.loop-item.item-index c.item-item.result c.args.notes.now c.loop-item.notes c.piece.new.notes
    c.loop-item.whole c.push_str.new.self c.in_ok-part.part c.loop-item-test.true c.item-item.is pushed c.loop-item.invariant c.in_ok-part.ensures
