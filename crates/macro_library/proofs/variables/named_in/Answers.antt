use Rattle.std.proofs.Common.{◌∙◌, ap, rules, sym}
use Rattle.macro_library.specs.Variables.{joined, named_from}
use Rattle.std.specs.Str.{chars}
use Rattle.macro_library.proofs.VariableLaws.{named_from-next, named_from-none}
use Rattle.macro_library.proofs.variables.named_in.Goals as goal

pub loop-c-preserved : goal.loop-c-preserved
loop-c-preserved c = (
  c.loop-c.invariant.0
      ∙ named_from-next c.loop-c.named c.with_next-named.result c.loop-c.after c.in-Some.c (chars c.loop-c.left.now) (chars c.in-Some.rest.now)
      c.in-Some.ensures c.with_next-named.ensures
      ∙ ap (λ after. joined c.with_next-named.result (named_from (chars c.in-Some.rest.now) after)) (sym c.begins-after.ensures),
  search rules,
)

pub returns : goal.returns
returns c =
    sym (c.loop-c.invariant.0 ∙ named_from-none c.loop-c.named c.loop-c.after (chars c.loop-c.left.now) c.in_default.ensures)
