use Rattle.std.proofs.Common.{Some, arith}
use Rattle.std.specs.Prelude.{IfSome}
use Rattle.std.proofs.lemmas.Result.{IfOk-weaker}
use Rattle.std.proofs.lemmas.Str.Pattern.{split_parts}
use Rattle.expression_grammar.specs.declared.tree.Operator.TheVariants.{Add, Subtract}
use Rattle.expression_grammar.specs.Views.{tree_of}
use Rattle.plain_terms.specs.Sums.{IsSumOf, IsSum}
use Rattle.plain_terms.proofs.SumLaws.{added_found, taken_found}
use Rattle.plain_terms.proofs.sums.place_sum.Goals as goal

pub returns-in-Some : goal.returns-in-Some
returns-in-Some c =
    let text = c.args.text.now in
    let left = c.in-Some.left in
    let right = c.in-Some.right in
    let parts = split_parts 43 text (Some (left, right)) c.in-Some.ensures.cases (omega arith) in
    IfOk-weaker c.sum_of.result
    (λ found. IfSome found (λ tree. IsSumOf Add left.now right.now (tree_of tree)))
    (λ found. IfSome found (λ tree. IsSum text (tree_of tree)))
    (λ found is. added_found text left.now right.now found parts.0 is)
    c.sum_of.ensures

pub returns-in-Some-split_once : goal.returns-in-Some-split_once
returns-in-Some-split_once c =
    let text = c.args.text.now in
    let left = c.in-Some-split_once.left in
    let right = c.in-Some-split_once.right in
    let parts = split_parts 45 text (Some (left, right)) c.in-Some-split_once.ensures.cases (omega arith) in
    IfOk-weaker c.sum_of-in-Some-split_once.result
    (λ found. IfSome found (λ tree. IsSumOf Subtract left.now right.now (tree_of tree)))
    (λ found. IfSome found (λ tree. IsSum text (tree_of tree)))
    (λ found is. taken_found text left.now right.now found parts.0 is)
    c.sum_of-in-Some-split_once.ensures
