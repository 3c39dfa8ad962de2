use Rattle.std.proofs.Common.{◌==◌, rules}
use Rattle.std.proofs.lemmas.Iterator.{YieldsList-from_chars}
use Rattle.std.proofs.lemmas.Iterator.Search.{position_from_yields_List}
use Rattle.macro_binding.proofs.prototype.equals_at.Goals as goal

pub returns : goal.returns
returns c =
    position_from_yields_List (λ x. x == 61) _ _ c.position.result c.position.ensures.ran
    (YieldsList-from_chars c.args.text.now c.utf8.text c.chars.ensures.rest) (λ x b q k. search rules)
