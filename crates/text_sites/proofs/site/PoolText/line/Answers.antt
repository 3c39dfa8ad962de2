use Rattle.std.proofs.Common.{sym, ap, ◌∙◌}
use Rattle.std.specs.Option.{option_map}
use Rattle.std.specs.Str.{chars}
use Rattle.text_sites.proofs.LineLaws.{line_found, line_past}
use Rattle.text_sites.proofs.site.PoolText.line.Goals as goal

pub returns-in-Some : goal.returns-in-Some
returns-in-Some c = line_found _ _ _ (sym (ap (option_map (λ line. chars line.now)) c.in-Some.is) ∙ c.line.ensures)

pub returns-in-None : goal.returns-in-None
unfolding chars
returns-in-None c = line_past _ _ (sym (ap (option_map (λ line. chars line.now)) c.in-None.is) ∙ c.line.ensures)
