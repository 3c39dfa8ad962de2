use Rattle.std.proofs.Common.{◌∙◌, ap, string_bytes}
use Rattle.defined_symbols.specs.Held.{spelled}
use Rattle.defined_symbols.specs.Symbols.{with_symbol}
use Rattle.defined_symbols.proofs.SpellingLaws.{spelled-insert}
use Rattle.defined_symbols.proofs.symbols.DefinedSymbols.note.Goals as goal

pub returns : goal.returns
returns c =
    ap spelled c.in_ok-insert.ensures.keys
    ∙ spelled-insert c.self.inside.names.keys c.in_ok-key.key
    ∙ ap (λ known. with_symbol known (string_bytes c.in_ok-key.key)) c.self.view_is
    ∙ ap (with_symbol c.args.self.now) (c.in_ok-key.ensures.ok ∙ c.text.ensures)
