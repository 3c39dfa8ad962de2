use Rattle.std.proofs.Common.{ap, sym, ◌∙◌}
use Rattle.std.specs.Map.{lookup}
use Rattle.macro_library.specs.Members.{member_of}
use Rattle.macro_library.proofs.MemberLaws.{spells, member_of-lookup}
use Rattle.macro_library.proofs.member.Members.get.Goals as goal

pub returns : goal.returns
returns c =
    c.get.ensures.value
    ∙ ap (λ bytes. lookup (spells bytes) c.self.inside.held.entries) c.text.ensures
    ∙ sym (member_of-lookup c.args.name.now c.self.inside.held.entries)
    ∙ ap (λ list. member_of list c.args.name.now) c.self.view_is
