use Rattle.std.proofs.Common.{ap, sym, ◌∙◌}
use Rattle.std.specs.List.{list_all}
use Rattle.hl_base.specs.Symbols.{is_no_small_letter}
use Rattle.hl_base.proofs.SymbolLaws.{capitals_of_capitals}
use Rattle.hl_base.proofs.name.upper_of.Goals as goal

pub returns-then-have_no_small_letter : goal.returns-then-have_no_small_letter
returns-then-have_no_small_letter c =
    let capitals = ap (list_all is_no_small_letter) (sym c.as_bytes.ensures.value) ∙ sym c.if-have_no_small_letter.ensures in
    c.as_written.ensures ∙ sym (capitals_of_capitals c.args.symbol.now capitals)
