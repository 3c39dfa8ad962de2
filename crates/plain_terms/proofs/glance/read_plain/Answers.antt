use Rattle.std.specs.Prelude.{IfSome}
use Rattle.std.specs.Str.{chars}
use Rattle.std.proofs.lemmas.Result.{IfOk-weaker}
use Rattle.expression_grammar.specs.Views.{tree_of}
use Rattle.plain_terms.specs.Glances.{IsRead}
use Rattle.plain_terms.specs.Sums.{IsSum}
use Rattle.plain_terms.proofs.Glances.{sum_found}
use Rattle.plain_terms.proofs.glance.read_plain.Goals as goal

pub returns-in-None : goal.returns-in-None
returns-in-None c =
    let text = c.args.text.now in
    IfOk-weaker c.place_sum.result
    (λ found. IfSome found (λ tree. IsSum text (tree_of tree)))
    (λ found. IfSome found (λ tree. IsRead (chars text) (tree_of tree)))
    (λ found is. sum_found text found is)
    c.place_sum.ensures
