use Rattle.std.proofs.Common.{◌≡◌, ◌∙◌, ◌+◌, [], drop, ap, sym, subst}
use Rattle.macro_library.specs.Definitions.{definition_of}
use Rattle.called_definitions.specs.Readings.{list_in, told_by}
use Rattle.called_definitions.specs.Told.{AreFound}
use Rattle.called_definitions.proofs.AskingLaws.{IsRead, always_ok, definition_said, if_ok, refused_said, said}
use Rattle.called_definitions.proofs.ToldLaws.{found_tells}
use Rattle.called_definitions.proofs.reading.read_list.Goals as goal

pub returns-in-Ok-clause-list : goal.returns-in-Ok-clause-list
returns-in-Ok-clause-list g c =
    let found = g.P.Present.members c.args.present.now in
    let list = c.args.list.now in
    let read = c.in-Ok.ensures in
    if_ok c.share.result (λ made. made ≡ c.list.result.now) (λ made. made ≡ list_in (told_by found) (drop (c.args.before + 1) list))
    (λ made is.
    is
    ∙ c.list.ensures
    ∙ sym (definition_said c.loop.members (told_by found) (found_tells found c.loop.members c.loop.invariant) list c.args.before (subst IsRead (sym read) tt) ∙ ap said read))
    c.share.ensures

pub returns-in_default : goal.returns-in_default
returns-in_default g c =
    let found = g.P.Present.members c.args.present.now in
    let list = c.args.list.now in
    let refused = refused_said (definition_of c.loop.members list c.args.before) c.in-Err.fault c.in-Err.ensures c.in_default.not-Asks c.in_default.not-OutOfMemory in
    record {
      found = always_ok c.nothing.result (AreFound found c.loop.members) c.loop.invariant;
      list =
          if_ok c.nothing.result (λ made. made ≡ []) (λ made. made ≡ list_in (told_by found) (drop (c.args.before + 1) list))
          (λ made is.
          is ∙ sym (definition_said c.loop.members (told_by found) (found_tells found c.loop.members c.loop.invariant) list c.args.before refused.0 ∙ refused.1))
          c.nothing.ensures;
    }
