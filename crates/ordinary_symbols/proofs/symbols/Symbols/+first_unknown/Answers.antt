use Rattle.std.proofs.Common.{◌≡◌, ap, sym, ◌∙◌, rules}
use Rattle.std.specs.Option.{option_copied, option_or}
use Rattle.expression_grammar.specs.declared.tree.Expr.TheViews.{the_lemmas}
use Rattle.expression_grammar.specs.Trees.{Pair}
use Rattle.expression_grammar.specs.Views.{tree_of}
use Rattle.ordinary_symbols.specs.Known.{first_unknown}
use Rattle.ordinary_symbols.specs.Shown.{table_of}
use Rattle.ordinary_symbols.specs.Table.{known}
use Rattle.ordinary_symbols.proofs.Agreement.{first_unknown_pair}
use Rattle.ordinary_symbols.proofs.symbols.Symbols.+first_unknown.Goals as goal

pub returns-in-Pair : goal.returns-in-Pair
returns-in-Pair t c =
    let known_of = known (table_of c.args.self.now) in
    let left = tree_of c.deref-in-Pair.result.now in
    let right = tree_of c.deref-in-Pair-2.result.now in
    let tree : tree_of c.args.e.now ≡ Pair c.in-Pair.field-0 left right = search (rules, the_lemmas) in
    c.first_of.ensures
    ∙ ap (λ o. option_or o (option_copied c.first_unknown-in-Pair-2.result)) c.first_unknown-in-Pair.ensures
    ∙ ap (λ o. option_or (first_unknown known_of left) o) c.first_unknown-in-Pair-2.ensures
    ∙ sym (first_unknown_pair known_of left right c.in-Pair.field-0)
    ∙ ap (first_unknown known_of) (sym tree)
