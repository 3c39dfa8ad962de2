use Rattle.std.proofs.Common.{◌≡◌, ◌∙◌, ◌+◌, ◌-◌, ◌<◌, ◌≤◌, suc, Some, None, map, sym, ap, subst, arith}
use Rattle.hl_base.specs.declared.set.Key.TheVariants as key
use Rattle.kept_values.specs.Keys.{key_tree}
use Rattle.kept_values.specs.Trees.{look_up}
use Rattle.asking_core.specs.Places.{pairs_of}
use Rattle.plain_expansion.specs.Questions.{Comes}
use Rattle.macro_library.specs.Contents.{content_of, written}
use Rattle.macro_library.specs.Members.{with_member}
use Rattle.call_sites.specs.Values.{known_tree}
use Rattle.asked_definitions.specs.Asked.{member_in, most_members}
use Rattle.asked_definitions.specs.Led.{IsEnded, answer_of}
use Rattle.asked_definitions.proofs.DefiningLaws.{led, read-led, refused-led, told-led, wants-led}
use Rattle.asked_definitions.proofs.definition.asked_definition.Goals as goal

pub loop-asked-init : goal.loop-asked-init
loop-asked-init c =
    let told = look_up (pairs_of key_tree known_tree c.args.answers.now) in
    ap (λ members. led told (map written c.args.list.now) c.args.start 65536 members) (sym c.new-members.ensures)

pub returns-in-Read : goal.returns-in-Read
unfolding most_members
returns-in-Read c =
    let told = look_up (pairs_of key_tree known_tree c.args.answers.now) in
    let list = map written c.args.list.now in
    sym (
    c.loop-asked.invariant
    ∙ read-led told list c.args.start (65536 - c.loop-asked._asked) c.loop-asked.members (content_of c.in-Read.definition)
    (c.in_ok-name.ensures.said ∙ ap answer_of c.in-Read.is))

pub returns-in-Refused : goal.returns-in-Refused
unfolding most_members
returns-in-Refused c =
    let told = look_up (pairs_of key_tree known_tree c.args.answers.now) in
    let list = map written c.args.list.now in
    sym (
    c.loop-asked.invariant
    ∙ refused-led told list c.args.start (65536 - c.loop-asked._asked) c.loop-asked.members c.in-Refused.fault
    (subst IsEnded c.in-Refused.is c.in_ok-name.ensures.ended) (c.in_ok-name.ensures.said ∙ ap answer_of c.in-Refused.is))

pub returns-in_default : goal.returns-in_default
unfolding most_members
returns-in_default c =
    let told = look_up (pairs_of key_tree known_tree c.args.answers.now) in
    let list = map written c.args.list.now in
    let i = c.loop-asked._asked in
    let one : 65536 - i ≡ suc (65536 - (i + 1)) = omega (arith, c.loop-asked-test.true) in
    sym (
    c.loop-asked.invariant
    ∙ ap (λ n. led told list c.args.start n c.loop-asked.members) one
    ∙ wants-led told list c.args.start (65536 - (i + 1)) c.loop-asked.members c.in-Wants.name (c.in_ok-name.ensures.said ∙ ap answer_of c.in-Wants.is)
    (ap (λ name. told (key_tree (key.Member name))) (sym c.copy.ensures) ∙ sym c.in_default.ensures))

pub loop-asked-preserved : goal.loop-asked-preserved
loop-asked-preserved c =
    let told = look_up (pairs_of key_tree known_tree c.args.answers.now) in
    let list = map written c.args.list.now in
    let i = c.loop-asked._asked in
    let left = 65536 - (i + 1) in
    let members = c.loop-asked.members in
    let name = c.in-Wants.name in
    let value = known_tree c.in-Some.known.now in
    let one : 65536 - i ≡ suc (65536 - (i + 1)) = omega (arith, c.loop-asked-test.true) in
    c.loop-asked.invariant
    ∙ ap (λ n. led told list c.args.start n members) one
    ∙ told-led told list c.args.start left members name value (c.in_ok-name.ensures.said ∙ ap answer_of c.in-Wants.is)
    (ap (λ name. told (key_tree (key.Member name))) (sym c.copy.ensures) ∙ sym c.in-Some.ensures)
    ∙ ap (λ member. led told list c.args.start left (with_member members name member)) (sym c.in_ok-member_of.ensures)
    ∙ ap (λ after. led told list c.args.start left after) (sym c.in_ok-add.ensures)

pub returns : goal.returns
unfolding most_members
returns c =
    let told = look_up (pairs_of key_tree known_tree c.args.answers.now) in
    let list = map written c.args.list.now in
    let i = c.loop-asked._asked in
    let none : 65536 - i ≡ 0 = omega (arith, c.loop-asked-test.false) in
    c.last.ensures
    ∙ ap Comes (sym c.in_ok-read.ensures.said)
    ∙ sym (ap (λ n. led told list c.args.start n c.loop-asked.members) none)
    ∙ sym c.loop-asked.invariant
