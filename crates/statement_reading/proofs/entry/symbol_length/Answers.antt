use Rattle.std.specs.Str.{chars}
use Rattle.std.proofs.lemmas.Result.{IfOk-weaker}
use Rattle.statement_reading.proofs.SymbolLaws.{reach-read}
use Rattle.statement_reading.proofs.entry.symbol_length.Goals as goal

pub returns : goal.returns
returns c = IfOk-weaker c.reach.result _ _ (λ count is. reach-read (chars c.args.text.now) count is) c.reach.ensures
