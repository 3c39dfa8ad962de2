use Rattle.std.proofs.Common.{◌≡◌, length, arith}
use Rattle.std.specs.Prelude.{chars}
use Rattle.hl_base.specs.Texts.{unit_width}
use Rattle.hl_base.proofs.UnitLaws.{units-le}
use Rattle.std.proofs.lemmas.Iterator.{YieldsList-from_chars}
use Rattle.std.proofs.lemmas.Iterator.Consumers.{YieldsList-turn, YieldsList-end}
use Rattle.std.proofs.lemmas.List.{length_push}
use Rattle.document_store.proofs.PlaceLemmas.{unit_width_is, units-take_next, units-take_none, units-take_le}
use Rattle.document_store.proofs.place.units_before.Goals as goal

pub overflow_add-width : goal.overflow_add-width
overflow_add-width c =
    let t = YieldsList-turn (YieldsList-from_chars c.args.line.now c.utf8.line cc) c.loop-c.yielded _ c.loop-c.yielded_by _ _ c.in-Some.c c.in-Some.is c.next.ensures.steps in
    let width : c.len_utf16-width.result ≡ unit_width c.in-Some.c = unit_width_is c.in-Some.c c.len_utf16-width.result c.len_utf16-width.ensures.bmp c.len_utf16-width.ensures.surrogate_pair in
    let next = units-take_next (chars c.args.line.now) (length c.loop-c.yielded) c.in-Some.c c.loop-c.left t (omega arith) in
    omega (arith, width, next, c.loop-c.invariant, units-take_le (chars c.args.line.now) c.args.characters, units-le c.args.line.now c.utf8.line)

pub loop-c-preserved : goal.loop-c-preserved
loop-c-preserved c =
    let t = YieldsList-turn (YieldsList-from_chars c.args.line.now c.utf8.line cc) c.loop-c.yielded _ c.loop-c.yielded_by _ _ c.in-Some.c c.in-Some.is c.next.ensures.steps in
    let n = length_push c.loop-c.yielded c.in-Some.c in
    let width : c.len_utf16-width.result ≡ unit_width c.in-Some.c = unit_width_is c.in-Some.c c.len_utf16-width.result c.len_utf16-width.ensures.bmp c.len_utf16-width.ensures.surrogate_pair in
    let next = units-take_next (chars c.args.line.now) (length c.loop-c.yielded) c.in-Some.c c.loop-c.left t (omega arith) in
    rw n (omega (arith, width, next, c.loop-c.invariant))

pub returns-in-None : goal.returns-in-None
returns-in-None c =
    let t = YieldsList-end (YieldsList-from_chars c.args.line.now c.utf8.line cc) c.loop-c.yielded _ c.loop-c.yielded_by _ _ c.in-None.is c.next.ensures.steps in
    let ended = units-take_none (chars c.args.line.now) (length c.loop-c.yielded) c.loop-c.left (omega (arith, t)) in
    omega (arith, ended, c.loop-c.invariant)
