use Rattle.std.proofs.Common.{ap, sym, ◌∙◌}
use Rattle.std.specs.Option.{option_map}
use Rattle.std.specs.Map.{lookup}
use Rattle.set_symbols.specs.Table.{symbol_of}
use Rattle.set_symbols.specs.Entries.{named}
use Rattle.set_symbols.proofs.TableLemmas.{named_copied, spells, symbol_of-table_from}
use Rattle.set_symbols.proofs.table.SetTable.find.Goals as goal

pub returns : goal.returns
returns c =
    named_copied c.args.name.now c.get.result
    ∙ ap (option_map (named c.args.name.now))
    (c.get.ensures.value ∙ ap (λ bytes. lookup (spells bytes) c.self.inside.symbols.entries) c.text.ensures)
    ∙ sym (symbol_of-table_from c.args.name.now c.self.inside.symbols.entries)
    ∙ ap (λ t. symbol_of t c.args.name.now) c.self.view_is
