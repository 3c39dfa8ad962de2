use Rattle.std.proofs.Common.{◌≡◌, ap, sym, ◌∙◌, find, rules}
use Rattle.expression_grammar.specs.declared.tree.Expr.TheViews.{the_lemmas}
use Rattle.expression_grammar.specs.declared.tree.Operator.TheVariants.{Add, Subtract}
use Rattle.expression_grammar.specs.Trees.{Pair}
use Rattle.expression_grammar.specs.Views.{tree_of}
use Rattle.ordinary_symbols.specs.Shown.{table_of}
use Rattle.ordinary_symbols.specs.Table.{known}
use Rattle.ordinary_symbols.specs.Sections as sections
use Rattle.ordinary_symbols.proofs.Counts.{is_left, in_sum}
use Rattle.ordinary_symbols.proofs.symbols.Symbols.+left_in.Goals as goal

pub returns-in-Pair-Add-default-default : goal.returns-in-Pair-Add-default-default
returns-in-Pair-Add-default-default t c =
    let known_of = known (table_of c.args.self.now) in
    let left = tree_of c.deref-in-Pair-Add-default-default.result.now in
    let right = tree_of c.deref-in-Pair-Add-default-default-2.result.now in
    let tree : tree_of c.args.part.now ≡ Pair Add left right = search (rules, the_lemmas) in
    in_sum known_of c.args.here c.args.but (tree_of c.args.whole.now) c.left_in-in-Pair-Add-default-default.result c.left_in-in-Pair-Add-default-default-2.result c.first_of.result
    (sections.sections known_of c.args.here left) (sections.sections known_of c.args.here right) c.first_of.ensures c.left_in-in-Pair-Add-default-default.ensures c.left_in-in-Pair-Add-default-default-2.ensures
    ∙ ap (λ part. find (is_left known_of c.args.here c.args.but (tree_of c.args.whole.now)) (sections.sections known_of c.args.here part)) (sym tree)

pub returns-in-Pair-Subtract-default-default : goal.returns-in-Pair-Subtract-default-default
returns-in-Pair-Subtract-default-default t c =
    let known_of = known (table_of c.args.self.now) in
    let left = tree_of c.deref-in-Pair-Subtract-default-default.result.now in
    let right = tree_of c.deref-in-Pair-Subtract-default-default-2.result.now in
    let tree : tree_of c.args.part.now ≡ Pair Subtract left right = search (rules, the_lemmas) in
    in_sum known_of c.args.here c.args.but (tree_of c.args.whole.now) c.left_in-in-Pair-Subtract-default-default.result c.left_in-in-Pair-Subtract-default-default-2.result c.first_of-in-Pair-Subtract-default-default.result
    (sections.sections known_of c.args.here left) (sections.sections known_of c.args.here right) c.first_of-in-Pair-Subtract-default-default.ensures c.left_in-in-Pair-Subtract-default-default.ensures c.left_in-in-Pair-Subtract-default-default-2.ensures
    ∙ ap (λ part. find (is_left known_of c.args.here c.args.but (tree_of c.args.whole.now)) (sections.sections known_of c.args.here part)) (sym tree)
