use Rattle.std.proofs.Common.{ℕ, sym, subst}
use Rattle.std.specs.Prelude.{Result}
use Rattle.std.specs.Str.{chars}
use Rattle.expression_grammar.specs.Readings.{Tells}
use Rattle.expression_grammar.specs.Trees.{Tree}
use Rattle.expression_grammar.specs.Views.{tree_of}
use Rattle.constant_grammar.specs.Views.{expression_in}
use Rattle.plain_terms.proofs.ExpressionLaws.{reads_ordinary, fails_ordinary}
use Rattle.constant_grammar.proofs.element.read_any.Goals as goal

pub read_tree-requires : goal.read_tree-requires
read_tree-requires c = c.in-Ok.ensures.small

pub returns-in-Ok : goal.returns-in-Ok
returns-in-Ok c =
    let is = reads_ordinary (chars c.args.text.now) (tree_of c.in-Ok.tree) c.in-Ok.ensures in
    subst (λ (found : Result Tree ℕ). Tells found (expression_in c.read_tree.result)) (sym is) c.read_tree.ensures

pub returns-in-Err : goal.returns-in-Err
returns-in-Err c = fails_ordinary (chars c.args.text.now) c.in-Err.fault c.in-Err.ensures
