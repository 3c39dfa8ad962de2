use Rattle.std.proofs.Common.{length, arith}
use Rattle.std.specs.Prelude.{chars}
use Rattle.std.proofs.lemmas.Iterator.{YieldsList-from_chars}
use Rattle.std.proofs.lemmas.Iterator.Consumers.{YieldsList-turn, YieldsList-end}
use Rattle.std.proofs.lemmas.List.{length_push}
use Rattle.std.proofs.lemmas.Bool.Decides.{nat_tests}
use Rattle.hl_base.proofs.UnitLaws.{units-le, units-drop, units-drop_all}
use Rattle.hl_base.proofs.line.units.Goals as goal

pub overflow_add-width : goal.overflow_add-width
overflow_add-width c =
    let t = YieldsList-turn (YieldsList-from_chars c.args.line.now c.utf8.line cc) c.loop-c.yielded _ c.loop-c.yielded_by _ _ c.in-Some.c c.in-Some.is c.next.ensures.steps in
    let e = units-drop (chars c.args.line.now) (length c.loop-c.yielded) c.in-Some.c t in
    let bound = units-le c.args.line.now c.utf8.line in
    grind (arith, nat_tests)

pub loop-c-preserved : goal.loop-c-preserved
loop-c-preserved c =
    let t = YieldsList-turn (YieldsList-from_chars c.args.line.now c.utf8.line cc) c.loop-c.yielded _ c.loop-c.yielded_by _ _ c.in-Some.c c.in-Some.is c.next.ensures.steps in
    let e = units-drop (chars c.args.line.now) (length c.loop-c.yielded) c.in-Some.c t in
    let n = length_push c.loop-c.yielded c.in-Some.c in
    grind (arith, nat_tests)

pub returns : goal.returns
returns c =
    let t = YieldsList-end (YieldsList-from_chars c.args.line.now c.utf8.line cc) c.loop-c.yielded _ c.loop-c.yielded_by _ _ c.in-None.is c.next.ensures.steps in
    omega (arith, units-drop_all (chars c.args.line.now) (length c.loop-c.yielded) (omega (arith, t)))
