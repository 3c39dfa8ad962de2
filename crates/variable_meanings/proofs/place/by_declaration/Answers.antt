use Rattle.std.proofs.Common.{Some, ◌∙◌, ap, sym}
use Rattle.std.specs.Option.{option_map}
use Rattle.variable_meanings.specs.Meanings.{declares, declared_meaning}
use Rattle.variable_meanings.proofs.FindLaws.{find-on, find-here}
use Rattle.variable_meanings.proofs.place.by_declaration.Goals as goal

pub returns-then-is_same : goal.returns-then-is_same
returns-then-is_same c =
    ap Some c.declared_meaning.ensures
    ∙ ap (option_map (declared_meaning c.args.own))
    (find-here (declares c.args.name.now) c.args.declared.now c.loop-declaration.declaration-index c.declaration-item.result c.loop-declaration-test.true c.declaration-item.is
    (sym c.is_same.ensures ∙ c.if-is_same.true) c.loop-declaration.invariant)

pub loop-declaration-preserved : goal.loop-declaration-preserved
loop-declaration-preserved c =
    find-on (declares c.args.name.now) c.args.declared.now c.loop-declaration.declaration-index c.declaration-item.result c.loop-declaration-test.true c.declaration-item.is
    (sym c.is_same.ensures ∙ c.if-is_same.false) c.loop-declaration.invariant
