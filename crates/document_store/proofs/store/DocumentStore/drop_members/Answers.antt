use Rattle.std.proofs.Common.{◌<◌, ◌≤◌, arith, length}
use Rattle.document_store.proofs.MemberLemmas.{emptied_none, emptied_more, emptied_all, emptied_long}
use Rattle.document_store.proofs.store.DocumentStore.drop_members.Goals as goal

pub loop-number-init : goal.loop-number-init
loop-number-init c = emptied_none c.args.self.now.store

pub loop-number-preserved : goal.loop-number-preserved
loop-number-preserved c =
    let long = emptied_long c.args.self.now.store c.loop-number.self.store c.loop-number.number c.loop-number.invariant in
    let within : c.loop-number.number < length c.args.self.now.store.files = omega (arith, c.loop-number-test.true, c.file_count.ensures.count, long) in
    emptied_more c.args.self.now.store c.loop-number.self.store c.drop_member.new.self.store c.loop-number.number c.loop-number.invariant within c.drop_member.ensures

pub loop-number-smaller : goal.loop-number-smaller
loop-number-smaller c =
    let long = emptied_long c.args.self.now.store c.loop-number.self.store c.loop-number.number c.loop-number.invariant in
    omega (arith, c.loop-number-test.true, c.file_count.ensures.count, long)

pub returns : goal.returns
returns c =
    let long = emptied_long c.args.self.now.store c.loop-number.self.store c.loop-number.number c.loop-number.invariant in
    let past : length c.args.self.now.store.files ≤ c.loop-number.number = omega (arith, c.loop-number-test.false, c.file_count.ensures.count, long) in
    emptied_all c.args.self.now.store c.loop-number.self.store c.loop-number.number c.loop-number.invariant past
