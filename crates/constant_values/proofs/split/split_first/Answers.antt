use Rattle.std.proofs.Common.{◌≡◌, ◌∙◌, ◌∷◌, [], sym, ap, drop, take, length}
use Rattle.std.specs.Str.{chars}
use Rattle.std.specs.List.{prefix_len, slice_split}
use Rattle.constant_values.specs.Values.{is_comma, is_no_comma}
use Rattle.constant_values.proofs.Splits.{split_some, split_none, behind_less}
use Rattle.constant_values.proofs.split.split_first.Goals as goal

pub returns-in-Some-clause-parts : goal.returns-in-Some-clause-parts
returns-in-Some-clause-parts c =
    let xs = chars c.args.text.now in
    let rest = chars c.in-Some.pair.1.now in
    let here : drop (prefix_len is_no_comma xs) xs ≡ c.in-Some.pair.0 ∷ rest =
    ap (λ n. drop n xs) (sym c.first_count.ensures) ∙ sym c.split_columns.ensures.back ∙ c.in-Some.ensures in
    split_some is_comma xs c.in-Some.pair.0 rest here
    ∙ ap (λ front. front ∷ slice_split is_comma rest) (ap (λ n. take n xs) (sym c.first_count.ensures) ∙ sym c.split_columns.ensures.front)

pub returns-in-Some-clause-less : goal.returns-in-Some-clause-less
returns-in-Some-clause-less c =
    behind_less c.first_count.result (chars c.args.text.now) c.in-Some.pair.0 (chars c.in-Some.pair.1.now) (sym c.split_columns.ensures.back ∙ c.in-Some.ensures)

pub returns-in-None-clause-parts : goal.returns-in-None-clause-parts
returns-in-None-clause-parts c =
    let xs = chars c.args.text.now in
    split_none is_comma xs (ap (λ n. drop n xs) (sym c.first_count.ensures) ∙ sym c.split_columns.ensures.back ∙ c.in-None.ensures)
