use Rattle.std.proofs.Common.{◌≡◌, ◌∙◌, ap, sym, subst}
use Rattle.std.specs.Option.{option_map}
use Rattle.hl_base.specs.declared.place.PathId.{PathId}
use Rattle.group_members.specs.Index.{number_in}
use Rattle.group_members.specs.Members.{Available, Indexes, first_number, member_number}
use Rattle.group_members.proofs.MemberLaws.{first_number-first, first_number-later, first_number-past}
use Rattle.group_members.proofs.members.GroupMembers.number.Goals as goal

pub loop-folder-init : goal.loop-folder-init
loop-folder-init c = ap (λ (given : Available). first_number c.args.self.now.holdings.store given.folders c.args.name.now) c.self.view_is

pub returns-then-is_some : goal.returns-then-is_some
returns-then-is_some c =
    let store = c.args.self.now.holdings.store in
    let indexes : Indexes store c.self.inside.index.now = subst (λ (given : Available). Indexes given.holdings.store c.self.inside.index.now) c.self.view_is c.self.invariant in
    let here : option_map (λ (path : PathId). path.0) c.number-found.result ≡ member_number store c.folder-item.result c.args.name.now =
    c.number-found.ensures ∙ ap (λ key. number_in c.self.inside.index.now key c.args.name.now) c.as_str.ensures.bytes ∙ indexes c.folder-item.result c.args.name.now in
    first_number-first store c.self.inside.folders.now c.loop-folder.folder-index c.folder-item.result c.args.name.now c.number-found.result
    c.loop-folder-test.true c.folder-item.is here (sym c.is_some.ensures ∙ c.if-is_some.true)
    ∙ c.loop-folder.invariant

pub loop-folder-preserved : goal.loop-folder-preserved
loop-folder-preserved c =
    let store = c.args.self.now.holdings.store in
    let indexes : Indexes store c.self.inside.index.now = subst (λ (given : Available). Indexes given.holdings.store c.self.inside.index.now) c.self.view_is c.self.invariant in
    let here : option_map (λ (path : PathId). path.0) c.number-found.result ≡ member_number store c.folder-item.result c.args.name.now =
    c.number-found.ensures ∙ ap (λ key. number_in c.self.inside.index.now key c.args.name.now) c.as_str.ensures.bytes ∙ indexes c.folder-item.result c.args.name.now in
    first_number-later store c.self.inside.folders.now c.loop-folder.folder-index c.folder-item.result c.args.name.now c.number-found.result
    c.loop-folder-test.true c.folder-item.is here (sym c.is_some.ensures ∙ c.if-is_some.false)
    ∙ c.loop-folder.invariant

pub returns : goal.returns
returns c =
    sym (first_number-past c.args.self.now.holdings.store c.self.inside.folders.now c.loop-folder.folder-index c.args.name.now c.loop-folder-test.false)
    ∙ c.loop-folder.invariant
