use Rattle.std.proofs.Common.{◌≡◌, ◌∙◌, ap, sym, subst}
use Rattle.macro_library.specs.Members.{with_member}
use Rattle.called_definitions.specs.Told.{AreFound}
use Rattle.called_definitions.proofs.AskingLaws.{on_ok}
use Rattle.called_definitions.proofs.ToldLaws.{one_more_told}
use Rattle.called_definitions.proofs.member.tell.Goals as goal

pub returns : goal.returns
returns g c =
    let found = g.P.Present.members c.args.present.now in
    let told = c.args.members.now in
    on_ok c.add.result (c.add.new.self ≡ with_member told c.args.name.now c.in_ok-member.member) (AreFound found c.add.new.self)
    (λ is. subst (AreFound found) (sym is) (one_more_told found told c.args.name.now c.in_ok-member.member c.requires c.in_ok-member.ensures)) c.add.ensures
