use Rattle.std.proofs.Common.{◌≡◌, true, length, rules}
use Rattle.std.specs.Str.{chars}
use Rattle.expression_grammar.specs.Views.{tree_of}
use Rattle.plain_terms.specs.Terms.{is_delimited}
use Rattle.plain_terms.proofs.Fronts.{begins_with}
use Rattle.plain_terms.proofs.term.term_front.Goals as goal

pub returns-in-Some : goal.returns-in-Some
returns-in-Some c =
    let before = c.split_columns.result.0.now in
    let behind = chars c.split_columns.result.1.now in
    let counted : c.in-Ok.count ≡ length before = search rules in
    let delimited : is_delimited behind ≡ true = search rules in
    begins_with (chars c.args.text.now) c.delimiter.result c.in-Ok.count before behind (tree_of c.in-Some.tree)
    c.split_columns.ensures.front c.split_columns.ensures.back counted c.in-Some.ensures delimited
