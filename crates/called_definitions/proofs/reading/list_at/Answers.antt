use Rattle.std.proofs.Common.{◌≡◌, ◌∙◌, ◌+◌, ◌-◌, drop, Some, ap, sym}
use Rattle.text_lists.specs.Lists.{list_of}
use Rattle.called_definitions.specs.Readings.{list_at, list_found, list_in, told_by}
use Rattle.called_definitions.proofs.AskingLaws.{if_ok}
use Rattle.called_definitions.proofs.ToldLaws.{list_before}
use Rattle.called_definitions.proofs.reading.list_at.Goals as goal

pub returns : goal.returns
returns g c =
    let found = g.P.Present.members c.args.present.now in
    let told = told_by found in
    let list = c.in-Some-Some.list.now in
    let number = c.in-Some-Some.number in
    record {
      found = c.read_list.ensures.found;
      list =
          if_ok c.read_list.result (λ made. made ≡ list_in told (drop ((number - 1) + 1) list)) (λ made. made ≡ list_at c.args.texts.now found c.args.origin)
          (λ made is.
          is
          ∙ list_before told list number c.if-number-eq0.false
          ∙ ap (λ o. list_found told o (Some number)) c.in-Some-Some.ensures
          ∙ ap (list_found told (list_of c.args.texts.now c.args.origin.path.0)) c.in-Some-Some.ensures')
          c.read_list.ensures.list;
    }
