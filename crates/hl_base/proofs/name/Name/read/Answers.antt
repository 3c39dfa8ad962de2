use Rattle.std.proofs.Common.{ap, sym, ◌∙◌}
use Rattle.std.proofs.lemmas.List.Sums.{AllPass-from_list_all}
use Rattle.hl_base.specs.Symbols.{is_symbol, is_symbol_character}
use Rattle.hl_base.proofs.SymbolLaws.{is_symbol-characters}
use Rattle.hl_base.proofs.name.Name.read.Goals as goal

pub upper_of-requires-clause-characters : goal.upper_of-requires-clause-characters
upper_of-requires-clause-characters c =
    let symbol = ap is_symbol (sym c.as_bytes.ensures.value) ∙ sym c.if-not-is_symbol.ensures in
    AllPass-from_list_all is_symbol_character c.args.text.now (is_symbol-characters c.args.text.now symbol)
