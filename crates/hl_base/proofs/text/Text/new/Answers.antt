use Rattle.std.specs.Prelude.{chars}
use Rattle.std.proofs.Common.{◌∙◌, ap}
use Rattle.std.proofs.lemmas.Str.{chars-nil}
use Rattle.hl_base.proofs.text.Text.new.Goals as goal

pub returns : goal.returns
returns c = ap chars c.new.ensures ∙ chars-nil
