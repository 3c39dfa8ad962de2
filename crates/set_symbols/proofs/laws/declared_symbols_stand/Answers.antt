use Rattle.set_symbols.proofs.CallerLemmas.{declared_symbol_is_unset, other_symbols_stand}
use Rattle.set_symbols.proofs.laws.declared_symbols_stand.Goals as goal

pub returns : goal.returns
returns c = record { declared = declared_symbol_is_unset; others = other_symbols_stand }
