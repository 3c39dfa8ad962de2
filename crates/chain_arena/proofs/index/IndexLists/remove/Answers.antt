use Rattle.std.proofs.Common.{◌≡◌, ◌<◌, ◌∙◌, length, sym, ap, subst, arith}
use Rattle.chain_arena.specs.Lists.{list_at, IsIn}
use Rattle.chain_arena.specs.Index.{Lists, lists_of, at, head_at}
use Rattle.chain_arena.proofs.IndexLemmas.{head_is, link_is, listed_within, list_covered, before_within, behind_within, one_counted, remove_made}
use Rattle.chain_arena.proofs.index.IndexLists.remove.Goals as goal

pub index-before-requires : goal.index-before-requires
index-before-requires c =
    let listed : IsIn c.args.index (list_at (lists_of c.self.inside.heads.items c.self.inside.nexts.items).lists c.args.list) =
    subst (λ (u : Lists). IsIn c.args.index (list_at u.lists c.args.list)) (sym c.self.view_is) c.requires.listed in
    omega (arith, c.self.invariant.enough, listed_within c.self.inside.heads.items c.self.inside.nexts.items c.self.inside.previous.items c.self.invariant c.args.list c.args.index listed)

pub index-behind-requires : goal.index-behind-requires
index-behind-requires c =
    let listed : IsIn c.args.index (list_at (lists_of c.self.inside.heads.items c.self.inside.nexts.items).lists c.args.list) =
    subst (λ (u : Lists). IsIn c.args.index (list_at u.lists c.args.list)) (sym c.self.view_is) c.requires.listed in
    omega (arith, listed_within c.self.inside.heads.items c.self.inside.nexts.items c.self.inside.previous.items c.self.invariant c.args.list c.args.index listed)

pub point-requires : goal.point-requires
point-requires c =
    let listed : IsIn c.args.index (list_at (lists_of c.self.inside.heads.items c.self.inside.nexts.items).lists c.args.list) =
    subst (λ (u : Lists). IsIn c.args.index (list_at u.lists c.args.list)) (sym c.self.view_is) c.requires.listed in
    let within : c.args.index < length c.self.inside.nexts.items = listed_within c.self.inside.heads.items c.self.inside.nexts.items c.self.inside.previous.items c.self.invariant c.args.list c.args.index listed in
    let before : c.index-before.result.now ≡ at c.self.inside.previous.items c.args.index =
    link_is c.self.inside.previous.items c.args.index c.index-before.result.now (omega (arith, c.self.invariant.enough)) c.index-before.ensures in
    record {
      within = λ x e. before_within c.self.inside.heads.items c.self.inside.nexts.items c.self.inside.previous.items c.self.invariant c.args.list c.args.index listed x (sym before ∙ e);
    }

pub point-requires-2 : goal.point-requires-2
point-requires-2 c =
    let listed : IsIn c.args.index (list_at (lists_of c.self.inside.heads.items c.self.inside.nexts.items).lists c.args.list) =
    subst (λ (u : Lists). IsIn c.args.index (list_at u.lists c.args.list)) (sym c.self.view_is) c.requires.listed in
    let within : c.args.index < length c.self.inside.nexts.items = listed_within c.self.inside.heads.items c.self.inside.nexts.items c.self.inside.previous.items c.self.invariant c.args.list c.args.index listed in
    let before : c.index-before.result.now ≡ at c.self.inside.previous.items c.args.index =
    link_is c.self.inside.previous.items c.args.index c.index-before.result.now (omega (arith, c.self.invariant.enough)) c.index-before.ensures in
    let behind : c.index-behind.result.now ≡ at c.self.inside.nexts.items c.args.index =
    link_is c.self.inside.nexts.items c.args.index c.index-behind.result.now within c.index-behind.ensures in
    record {
      within = λ x e. behind_within c.self.inside.heads.items c.self.inside.nexts.items c.self.inside.previous.items c.self.invariant c.args.list c.args.index listed x (sym behind ∙ e);
    }

pub overflow_sub-len : goal.overflow_sub-len
overflow_sub-len c =
    let listed : IsIn c.args.index (list_at (lists_of c.self.inside.heads.items c.self.inside.nexts.items).lists c.args.list) =
    subst (λ (u : Lists). IsIn c.args.index (list_at u.lists c.args.list)) (sym c.self.view_is) c.requires.listed in
    let is : c.index-head.result.now ≡ head_at c.self.inside.heads.items c.args.list =
    head_is c.self.inside.heads.items c.args.list c.index-head.result.now
    (list_covered c.self.inside.heads.items c.self.inside.nexts.items c.self.inside.previous.items c.self.invariant c.args.list c.args.index listed) c.index-head.ensures in
    omega (arith, ap (λ h. h.len) is, one_counted c.self.inside.heads.items c.self.inside.nexts.items c.self.inside.previous.items c.self.invariant c.args.list c.args.index listed)

pub invariant_of-self : goal.invariant_of-self
invariant_of-self c =
    let listed : IsIn c.args.index (list_at (lists_of c.self.inside.heads.items c.self.inside.nexts.items).lists c.args.list) =
    subst (λ (u : Lists). IsIn c.args.index (list_at u.lists c.args.list)) (sym c.self.view_is) c.requires.listed in
    let within : c.args.index < length c.self.inside.nexts.items = listed_within c.self.inside.heads.items c.self.inside.nexts.items c.self.inside.previous.items c.self.invariant c.args.list c.args.index listed in
    let before : c.index-before.result.now ≡ at c.self.inside.previous.items c.args.index =
    link_is c.self.inside.previous.items c.args.index c.index-before.result.now (omega (arith, c.self.invariant.enough)) c.index-before.ensures in
    let behind : c.index-behind.result.now ≡ at c.self.inside.nexts.items c.args.index =
    link_is c.self.inside.nexts.items c.args.index c.index-behind.result.now within c.index-behind.ensures in
    let is : c.index-head.result.now ≡ head_at c.self.inside.heads.items c.args.list =
    head_is c.self.inside.heads.items c.args.list c.index-head.result.now
    (list_covered c.self.inside.heads.items c.self.inside.nexts.items c.self.inside.previous.items c.self.invariant c.args.list c.args.index listed) c.index-head.ensures in
    let made =
    remove_made c.self.inside.heads.items c.self.inside.nexts.items c.self.inside.previous.items c.self.invariant c.args.list c.args.index
    c.args.self.now c.index-head.result.now c.index-before.result.now c.index-behind.result.now c.point.new.links.items
    c.point-2.new.links.items c.choose-first.result c.choose-last.result c.self.view_is is before behind c.point.ensures
    c.point-2.ensures c.choose-first.ensures c.choose-last.ensures c.requires.listed in
    made.index

pub returns-clause-changes : goal.returns-clause-changes
returns-clause-changes c =
    let listed : IsIn c.args.index (list_at (lists_of c.self.inside.heads.items c.self.inside.nexts.items).lists c.args.list) =
    subst (λ (u : Lists). IsIn c.args.index (list_at u.lists c.args.list)) (sym c.self.view_is) c.requires.listed in
    let within : c.args.index < length c.self.inside.nexts.items = listed_within c.self.inside.heads.items c.self.inside.nexts.items c.self.inside.previous.items c.self.invariant c.args.list c.args.index listed in
    let before : c.index-before.result.now ≡ at c.self.inside.previous.items c.args.index =
    link_is c.self.inside.previous.items c.args.index c.index-before.result.now (omega (arith, c.self.invariant.enough)) c.index-before.ensures in
    let behind : c.index-behind.result.now ≡ at c.self.inside.nexts.items c.args.index =
    link_is c.self.inside.nexts.items c.args.index c.index-behind.result.now within c.index-behind.ensures in
    let is : c.index-head.result.now ≡ head_at c.self.inside.heads.items c.args.list =
    head_is c.self.inside.heads.items c.args.list c.index-head.result.now
    (list_covered c.self.inside.heads.items c.self.inside.nexts.items c.self.inside.previous.items c.self.invariant c.args.list c.args.index listed) c.index-head.ensures in
    let made =
    remove_made c.self.inside.heads.items c.self.inside.nexts.items c.self.inside.previous.items c.self.invariant c.args.list c.args.index
    c.args.self.now c.index-head.result.now c.index-before.result.now c.index-behind.result.now c.point.new.links.items
    c.point-2.new.links.items c.choose-first.result c.choose-last.result c.self.view_is is before behind c.point.ensures
    c.point-2.ensures c.choose-first.ensures c.choose-last.ensures c.requires.listed in
    made.changes

pub returns-clause-unlisted : goal.returns-clause-unlisted
returns-clause-unlisted c =
    let listed : IsIn c.args.index (list_at (lists_of c.self.inside.heads.items c.self.inside.nexts.items).lists c.args.list) =
    subst (λ (u : Lists). IsIn c.args.index (list_at u.lists c.args.list)) (sym c.self.view_is) c.requires.listed in
    let within : c.args.index < length c.self.inside.nexts.items = listed_within c.self.inside.heads.items c.self.inside.nexts.items c.self.inside.previous.items c.self.invariant c.args.list c.args.index listed in
    let before : c.index-before.result.now ≡ at c.self.inside.previous.items c.args.index =
    link_is c.self.inside.previous.items c.args.index c.index-before.result.now (omega (arith, c.self.invariant.enough)) c.index-before.ensures in
    let behind : c.index-behind.result.now ≡ at c.self.inside.nexts.items c.args.index =
    link_is c.self.inside.nexts.items c.args.index c.index-behind.result.now within c.index-behind.ensures in
    let is : c.index-head.result.now ≡ head_at c.self.inside.heads.items c.args.list =
    head_is c.self.inside.heads.items c.args.list c.index-head.result.now
    (list_covered c.self.inside.heads.items c.self.inside.nexts.items c.self.inside.previous.items c.self.invariant c.args.list c.args.index listed) c.index-head.ensures in
    let made =
    remove_made c.self.inside.heads.items c.self.inside.nexts.items c.self.inside.previous.items c.self.invariant c.args.list c.args.index
    c.args.self.now c.index-head.result.now c.index-before.result.now c.index-behind.result.now c.point.new.links.items
    c.point-2.new.links.items c.choose-first.result c.choose-last.result c.self.view_is is before behind c.point.ensures
    c.point-2.ensures c.choose-first.ensures c.choose-last.ensures c.requires.listed in
    made.unlisted
