use Rattle.std.proofs.Common.{◌≡◌, ◌∙◌, List, ◌++◌, OnOk, ap, sym, subst, rules}
use Rattle.expression_grammar.specs.declared.tree.Expr.TheViews.{the_lemmas}
use Rattle.expression_grammar.specs.Trees.{Pair}
use Rattle.expression_grammar.specs.Views.{tree_of}
use Rattle.note_rows.specs.declared.row.Row.{Row}
use Rattle.ordinary_symbols.specs.Known.{names}
use Rattle.ordinary_symbols.specs.Shown.{table_of}
use Rattle.ordinary_symbols.specs.Table.{known}
use Rattle.expression_notes.specs.Expressions.{undefined}
use Rattle.expression_notes.specs.Repeating.{once_behind}
use Rattle.expression_notes.proofs.Turns.{said_after, undefined-append}
use Rattle.expression_notes.proofs.symbols.+push_undefined.Goals as goal

pub returns-in_ok-push_undefined-in-Pair : goal.returns-in_ok-push_undefined-in-Pair
returns-in_ok-push_undefined-in-Pair t c =
    let known_of = known (table_of c.args.symbols.now) in
    let left = tree_of c.deref-in-Pair.result.now in
    let right = tree_of c.deref-in-Pair-2.result.now in
    let before = c.args.rows.now.items in
    let after = c.push_undefined-in-Pair-2.new.rows.items in
    let tree : tree_of c.args.e.now ≡ Pair c.in-Pair.field-0 left right = search (rules, the_lemmas) in
    subst (λ (rows : List Row). OnOk c.push_undefined-in-Pair-2.result (after ≡ before ++ once_behind before rows))
    (sym (undefined-append known_of (names left) (names right)) ∙ ap (λ part. undefined known_of (names part)) (sym tree))
    (said_after c.push_undefined-in-Pair-2.result before c.push_undefined-in-Pair.new.rows.items after
    (undefined known_of (names left)) (undefined known_of (names right))
    c.in_ok-push_undefined-in-Pair.ensures c.push_undefined-in-Pair-2.ensures)
