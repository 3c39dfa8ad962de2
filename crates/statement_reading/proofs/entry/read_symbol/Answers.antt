use Rattle.std.specs.Str.{chars}
use Rattle.std.proofs.lemmas.Result.{IfOk-weaker}
use Rattle.statement_reading.proofs.SymbolLaws.{symbol-found}
use Rattle.statement_reading.proofs.entry.read_symbol.Goals as goal

pub returns : goal.returns
returns c = IfOk-weaker c.symbol.result _ _ (λ found is. symbol-found (chars c.args.text.now) found is) c.symbol.ensures
