use Rattle.std.proofs.Common.{Some, subst}
use Rattle.document_store.specs.Shown.{IsPresent}
use Rattle.document_store.specs.Store.{present_at}
use Rattle.document_store.specs.declared.document.MemberText.{MemberText}
use Rattle.document_store.specs.declared.document.MemberText.TheVariants as member
use Rattle.session_core.specs.Figures.{figures_over}
use Rattle.session_core.proofs.LaunchLaws.{shown_text}
use Rattle.session_core.proofs.ListLaws.{if_ok}
use Rattle.session_core.proofs.TextLaws.{numbered, present_is}
use Rattle.session_core.proofs.lists.Surroundings.figures_of.Goals as goal

pub figures-requires : goal.figures-requires
figures-requires g c =
    let s = c.args.self.now.store.now in
    let is = subst (λ (m : MemberText). IsPresent s.pool (present_at s.store c.args.path.0) (Some m)) c.in-Some-File.field-0-is c.in-Some-File.ensures in
    let has = shown_text s.store s.pool c.args.path c.args.document.now (Some (member.File c.in-Some-File.text)) c.requires.shown is in
    record { given = c.requires.given; index = c.requires.index; live = has.1.live }

pub returns : goal.returns
unfolding figures_over
returns g c =
    let s = c.args.self.now.store.now in
    let is = subst (λ (m : MemberText). IsPresent s.pool (present_at s.store c.args.path.0) (Some m)) c.in-Some-File.field-0-is c.in-Some-File.ensures in
    if_ok c.figures.result (λ figures made. λ document found shows.
    let numbers = numbered s.store c.args.path document c.args.document.now found shows in
    let has = present_is s.store s.pool c.args.path document (Some (member.File c.in-Some-File.text)) is found numbers.path numbers.number in
    made document numbers.path has.is) c.figures.ensures

pub unreachable-requires : goal.unreachable-requires
unreachable-requires g c =
    let s = c.args.self.now.store.now in
    let is = subst (λ (m : MemberText). IsPresent s.pool (present_at s.store c.args.path.0) (Some m)) c.in-Some-Unreadable.field-0-is c.in-Some-Unreadable.ensures in
    (shown_text s.store s.pool c.args.path c.args.document.now (Some member.Unreadable) c.requires.shown is).1

pub unreachable-requires-in-None : goal.unreachable-requires-in-None
unreachable-requires-in-None g c =
    let s = c.args.self.now.store.now in
    (shown_text s.store s.pool c.args.path c.args.document.now _ c.requires.shown c.in-None.ensures).1
