use Rattle.std.proofs.Common.{◌∙◌}
use Rattle.set_symbols.proofs.TableLemmas.{table_from-admitted}
use Rattle.set_symbols.proofs.table.SetTable.admit.Goals as goal

pub returns-clause-ok : goal.returns-clause-ok
returns-clause-ok c =
    table_from-admitted c.self.inside.symbols _ c.in_ok-key.key c.args.symbol c.args.name.now c.args.self.now c.self.view_is c.requires
    (c.in_ok-key.ensures.ok ∙ c.text.ensures) c.in_ok-insert.ensures.entries
