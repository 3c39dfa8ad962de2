use Rattle.macro_expand.proofs.EffectLaws.{effects_lead}
use Rattle.macro_expand.proofs.laws.effects_are_those_of_statements.Goals as goal

pub returns : goal.returns
returns c = effects_lead
