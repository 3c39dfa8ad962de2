use Rattle.std.proofs.Common.{◌∙◌, ap, subst, sym, arith, take, drop}
use Rattle.std.specs.Prelude.{chars}
use Rattle.std.specs.Str.{IsAscii}
use Rattle.std.proofs.lemmas.List.{take_min, drop_min}
use Rattle.std.proofs.lemmas.Str.{chars-IsAscii, IsAscii-take, IsAscii-drop, IsCharBoundary-from_ascii}
use Rattle.plain_fields.proofs.cutting.cut_at.Goals as goal

pub split_at-requires : goal.split_at-requires
split_at-requires c = IsCharBoundary-from_ascii c.args.text.now _ c.requires (omega (arith, c.min-end.ensures))

pub returns-clause-front : goal.returns-clause-front
returns-clause-front c =
    let text = c.args.text.now in
    ap chars c.split_at.ensures.front
    ∙ chars-IsAscii _ (IsAscii-take text _ c.requires)
    ∙ ap (λ n. take n text) c.min-end.ensures
    ∙ take_min c.args.count text
    ∙ ap (take c.args.count) (sym (chars-IsAscii text c.requires))

pub returns-clause-back : goal.returns-clause-back
returns-clause-back c =
    let text = c.args.text.now in
    ap chars c.split_at.ensures.back
    ∙ chars-IsAscii _ (IsAscii-drop text _ c.requires)
    ∙ ap (λ n. drop n text) c.min-end.ensures
    ∙ drop_min c.args.count text
    ∙ ap (drop c.args.count) (sym (chars-IsAscii text c.requires))

pub returns-clause-ascii : goal.returns-clause-ascii
returns-clause-ascii c = subst IsAscii (sym c.split_at.ensures.back) (IsAscii-drop c.args.text.now _ c.requires)
