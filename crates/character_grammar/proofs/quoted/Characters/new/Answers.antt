use Rattle.std.proofs.lemmas.Str.{chars-nil}
use Rattle.character_grammar.proofs.quoted.Characters.new.Goals as goal

pub returns : goal.returns
returns c = rw c.new.ensures.bytes chars-nil
