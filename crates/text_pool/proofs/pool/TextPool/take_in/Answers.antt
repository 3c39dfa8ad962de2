use Rattle.std.proofs.Common.{sym}
use Rattle.text_pool.proofs.InternLemmas.{found-live, absent_from_number, interned_found}
use Rattle.text_pool.proofs.pool.TextPool.take_in.Goals as goal

pub own-requires : goal.own-requires
own-requires c = record {
  live = found-live _ _ _ c.args.key c.requires.marked c.self.view_is c.self.invariant _ (sym c.in-Some.ensures.value);
}

pub admit-requires : goal.admit-requires
admit-requires c = record {
  utf8 = c.requires.utf8;
  short = c.requires.short;
  marked = c.requires.marked;
  absent =
      absent_from_number _ _ _ c.args.key c.requires.marked c.self.view_is c.self.invariant c.requires.utf8
      (sym c.in-None.ensures.value);
}

pub returns-in-Some-clause-ok : goal.returns-in-Some-clause-ok
returns-in-Some-clause-ok c =
    interned_found _ _ _ c.args.key c.requires.marked c.self.view_is c.self.invariant c.requires.utf8 c.in-Some.number.now
    (sym c.in-Some.ensures.value) _ _ c.own.ensures.ok
