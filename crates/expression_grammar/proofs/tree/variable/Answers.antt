use Rattle.std.proofs.Common.{rules}
use Rattle.expression_grammar.specs.declared.tree.Expr.TheViews.{the_lemmas}
use Rattle.expression_grammar.proofs.Rows.{trees_of-row}
use Rattle.expression_grammar.proofs.tree.variable.Goals as goal

pub returns : goal.returns
returns c = search (rules, the_lemmas, trees_of-row)
