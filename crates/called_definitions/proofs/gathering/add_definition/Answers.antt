use Rattle.std.proofs.Common.{◌≡◌, ◌∙◌, ap, sym}
use Rattle.text_lists.specs.Definitions.{with_list}
use Rattle.called_definitions.specs.Called.{with_definition}
use Rattle.called_definitions.specs.Told.{AreFound}
use Rattle.called_definitions.proofs.AskingLaws.{on_ok}
use Rattle.called_definitions.proofs.gathering.add_definition.Goals as goal

pub returns : goal.returns
returns g c =
    let found = g.P.Present.members c.args.present.now in
    let known = c.args.known.now in
    record {
      found =
          on_ok c.add.result (c.add.new.self ≡ with_list known c.in-Some.origin c.in_ok-list.list) (AreFound found c.list_at.new.members) (λ is. c.in_ok-list.ensures.found)
          c.add.ensures;
      known =
          on_ok c.add.result (c.add.new.self ≡ with_list known c.in-Some.origin c.in_ok-list.list) (c.add.new.self ≡ with_definition c.args.texts.now found known c.args.definition)
          (λ is.
          is
          ∙ ap (with_list known c.in-Some.origin) c.in_ok-list.ensures.list
          ∙ ap (with_definition c.args.texts.now found known) (sym c.in-Some.is))
          c.add.ensures;
    }
