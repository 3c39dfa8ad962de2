use Rattle.std.proofs.Common.{◌≡◌, ◌∙◌, ◌∷◌, ◌++◌, false, cond, [], is_some, ap, sym}
use Rattle.macro_library.specs.Members.{member_of}
use Rattle.macro_library.proofs.MemberLaws.{copied-some, told_from-added}
use Rattle.macro_library.proofs.member.Members.add.Goals as goal

pub returns : goal.returns
returns c =
    let list = c.args.self.now in
    let name = c.args.name.now in
    let absent : is_some (member_of list name) ≡ false =
    ap is_some (sym c.get.ensures) ∙ sym (copied-some c.get.result) ∙ sym c.is_some.ensures ∙ c.if-is_some.false in
    told_from-added c.self.inside.held _ c.in_ok-key.key c.args.member name list c.self.view_is absent
    (c.in_ok-key.ensures.ok ∙ c.text.ensures) c.in_ok-insert.ensures.entries
    ∙ sym (ap (λ b. cond b list (list ++ record { name = name; member = c.args.member } ∷ [])) absent)
