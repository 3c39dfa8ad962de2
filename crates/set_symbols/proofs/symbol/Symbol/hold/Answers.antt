use Rattle.std.proofs.Common.{refl}
use Rattle.set_symbols.proofs.TableLemmas.{from_entries-updates}
use Rattle.set_symbols.proofs.symbol.Symbol.hold.Goals as goal

pub returns-clause-ok : goal.returns-clause-ok
returns-clause-ok c = record {
  declared = refl;
  values = from_entries-updates c.args.self.now.values c.insert.new.self c.args.at c.args.value c.in_ok-insert.ensures.updates;
}
