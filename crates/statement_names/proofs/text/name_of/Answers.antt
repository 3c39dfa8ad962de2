use Rattle.std.proofs.Common.{◌∙◌, sym, ap}
use Rattle.std.proofs.lemmas.Str.{encodes-chars}
use Rattle.hl_base.specs.Symbols.{symbol_of}
use Rattle.statement_names.proofs.text.name_of.Goals as goal

pub returns : goal.returns
returns c = c.read.ensures ∙ ap symbol_of (sym (encodes-chars c.args.text.now c.utf8.text))
