use Rattle.std.proofs.Common.{subst}
use Rattle.text_pool.specs.Members.{Tells}
use Rattle.hl_base.specs.declared.set.Answer.TheVariants.{Nothing}
use Rattle.document_store.specs.Store.{present_at}
use Rattle.group_members.specs.Members.{Available, member_of, member_at, as_member}
use Rattle.group_members.proofs.members.GroupMembersPresent.member.Goals as goal

pub returns-in-Some : goal.returns-in-Some
unfolding member_of
returns-in-Some c =
    let path = c.in-Some.path in
    let Told : Available → Type 0 = λ given. Tells given.holdings.pool (as_member path.0 (present_at given.holdings.store path.0)) c.answer_at.result in
    subst (λ number. Tells c.args.self.now.holdings.pool (member_at c.args.self.now.holdings.store number) c.answer_at.result) c.in-Some.ensures
    (subst Told c.self.view_is c.answer_at.ensures)

pub returns-in-None : goal.returns-in-None
unfolding member_of
returns-in-None c =
    subst (λ number. Tells c.args.self.now.holdings.pool (member_at c.args.self.now.holdings.store number) Nothing) c.in-None.ensures tt
