use Rattle.set_symbols.proofs.CallerLemmas.{set_value_is_held, other_values_stand}
use Rattle.set_symbols.proofs.laws.set_values_stand.Goals as goal

pub returns : goal.returns
returns c = record { held = set_value_is_held; others = other_values_stand }
