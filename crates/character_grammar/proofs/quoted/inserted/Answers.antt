use Rattle.std.proofs.Common.{rules}
use Rattle.expression_grammar.specs.declared.tree.Expr.TheViews.{the_lemmas}
use Rattle.expression_grammar.proofs.Rows.{trees_of-row}
use Rattle.character_grammar.proofs.quoted.inserted.Goals as goal

pub returns : goal.returns
returns c before = search (rules, the_lemmas, trees_of-row)
