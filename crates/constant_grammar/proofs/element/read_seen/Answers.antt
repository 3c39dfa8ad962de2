use Rattle.std.proofs.Common.{ℕ, sym, subst}
use Rattle.std.specs.Prelude.{Result, IfSome}
use Rattle.std.specs.Str.{chars}
use Rattle.expression_grammar.specs.Readings.{Tells}
use Rattle.expression_grammar.specs.Trees.{Tree}
use Rattle.expression_grammar.specs.Views.{tree_of}
use Rattle.plain_terms.specs.Glances.{IsRead}
use Rattle.constant_grammar.specs.Views.{expression_in}
use Rattle.constant_grammar.proofs.element.read_seen.Goals as goal

pub read_tree-requires : goal.read_tree-requires
read_tree-requires c =
    let text = chars c.args.text.now in
    let is : IsRead text (tree_of c.in-Some.tree) = subst (λ found. IfSome found (λ tree. IsRead text (tree_of tree))) c.in-Some.is c.requires in
    is.small

pub returns-in-Some : goal.returns-in-Some
returns-in-Some c =
    let text = chars c.args.text.now in
    let is : IsRead text (tree_of c.in-Some.tree) = subst (λ found. IfSome found (λ tree. IsRead text (tree_of tree))) c.in-Some.is c.requires in
    subst (λ (found : Result Tree ℕ). Tells found (expression_in c.read_tree.result)) (sym is.whole) c.read_tree.ensures
