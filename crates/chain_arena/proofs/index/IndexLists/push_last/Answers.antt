use Rattle.std.proofs.Common.{◌≡◌, ◌<◌, ◌∙◌, Some, None, length, sym, ap, arith}
use Rattle.chain_arena.specs.Lists.{list_at}
use Rattle.chain_arena.specs.Index.{Lists, head_at}
use Rattle.chain_arena.proofs.IndexLemmas.{head_is, last_within, len_is, length-pointed, push_made, length-lists_of}
use Rattle.chain_arena.proofs.index.IndexLists.push_last.Goals as goal

pub point-requires-3 : goal.point-requires-3
point-requires-3 c =
    let covered : c.args.list < length c.self.inside.heads.items =
    omega (
      arith,
      c.requires.ready.covered,
      ap (λ (u : Lists). length u.lists) c.self.view_is,
      length-lists_of c.self.inside.heads.items c.self.inside.nexts.items,
    ) in
    let is : c.index-head.result.now ≡ head_at c.self.inside.heads.items c.args.list =
    head_is c.self.inside.heads.items c.args.list c.index-head.result.now covered c.index-head.ensures in
    record {
      within = λ x e. omega (
        arith,
        ap length c.point.ensures,
        length-pointed c.self.inside.nexts.items (Some c.args.index) None,
        last_within c.self.inside.heads.items c.self.inside.nexts.items c.self.inside.previous.items c.self.invariant c.args.list
            c.args.index x (ap (λ h. h.last) (sym is) ∙ e),
      );
    }

pub overflow_add-len : goal.overflow_add-len
overflow_add-len c =
    let covered : c.args.list < length c.self.inside.heads.items =
    omega (
      arith,
      c.requires.ready.covered,
      ap (λ (u : Lists). length u.lists) c.self.view_is,
      length-lists_of c.self.inside.heads.items c.self.inside.nexts.items,
    ) in
    let is : c.index-head.result.now ≡ head_at c.self.inside.heads.items c.args.list =
    head_is c.self.inside.heads.items c.args.list c.index-head.result.now covered c.index-head.ensures in
    omega (
      arith,
      c.requires.ready.fits,
      ap (λ h. h.len) is,
      len_is c.self.inside.heads.items c.self.inside.nexts.items c.self.inside.previous.items c.self.invariant c.args.list c.args.index,
      ap (λ (u : Lists). length (list_at u.lists c.args.list)) c.self.view_is,
    )

pub invariant_of-self : goal.invariant_of-self
invariant_of-self c =
    let covered : c.args.list < length c.self.inside.heads.items =
    omega (
      arith,
      c.requires.ready.covered,
      ap (λ (u : Lists). length u.lists) c.self.view_is,
      length-lists_of c.self.inside.heads.items c.self.inside.nexts.items,
    ) in
    let is : c.index-head.result.now ≡ head_at c.self.inside.heads.items c.args.list =
    head_is c.self.inside.heads.items c.args.list c.index-head.result.now covered c.index-head.ensures in
    let made =
    push_made c.self.inside.heads.items c.self.inside.nexts.items c.self.inside.previous.items c.self.invariant c.args.list c.args.index
    c.args.self.now c.index-head.result.now c.point.new.links.items c.point-3.new.links.items c.point-2.new.links.items
    c.choose-first.result c.self.view_is is c.point.ensures c.point-2.ensures c.point-3.ensures c.choose-first.ensures
    c.requires.ready c.requires.unlisted in
    made.index

pub returns : goal.returns
returns c =
    let covered : c.args.list < length c.self.inside.heads.items =
    omega (
      arith,
      c.requires.ready.covered,
      ap (λ (u : Lists). length u.lists) c.self.view_is,
      length-lists_of c.self.inside.heads.items c.self.inside.nexts.items,
    ) in
    let is : c.index-head.result.now ≡ head_at c.self.inside.heads.items c.args.list =
    head_is c.self.inside.heads.items c.args.list c.index-head.result.now covered c.index-head.ensures in
    let made =
    push_made c.self.inside.heads.items c.self.inside.nexts.items c.self.inside.previous.items c.self.invariant c.args.list c.args.index
    c.args.self.now c.index-head.result.now c.point.new.links.items c.point-3.new.links.items c.point-2.new.links.items
    c.choose-first.result c.self.view_is is c.point.ensures c.point-2.ensures c.point-3.ensures c.choose-first.ensures
    c.requires.ready c.requires.unlisted in
    record { changes = made.changes }
