use Rattle.std.proofs.Common.{ap, sym, ◌∙◌}
use Rattle.std.specs.Prelude.{encode_utf8_all}
use Rattle.std.proofs.lemmas.Str.{encodes-chars}
use Rattle.hl_base.specs.Symbols.{symbol_of}
use Rattle.member_paths.specs.Paths.{member_name}
use Rattle.member_paths.proofs.name.member_name.Goals as goal

pub returns : goal.returns
unfolding member_name
returns c =
    c.read.ensures
    ∙ ap symbol_of (sym (encodes-chars c.before_period.result.now c.before_period.utf8) ∙ ap encode_utf8_all c.before_period.ensures)
