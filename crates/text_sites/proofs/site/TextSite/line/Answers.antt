use Rattle.std.proofs.Common.{sym, ap, ◌∙◌}
use Rattle.std.specs.Str.{chars}
use Rattle.document_store.specs.Positions.{line_of}
use Rattle.text_sites.specs.Kept.{text_in}
use Rattle.text_sites.specs.Sites.{Site}
use Rattle.text_sites.proofs.LineLaws.{line_of-nil}
use Rattle.text_sites.proofs.site.TextSite.line.Goals as goal

pub returns-in-Some : goal.returns-in-Some
returns-in-Some c =
    c.line.ensures
    ∙ ap (λ kept. line_of (text_in kept) c.args.line) (sym c.in-Some.is)
    ∙ ap (λ (s : Site). line_of s.text c.args.line) c.self.view_is

pub returns-in-None : goal.returns-in-None
unfolding chars
returns-in-None c =
    line_of-nil c.args.line
    ∙ ap (λ kept. line_of (text_in kept) c.args.line) (sym c.in-None.is)
    ∙ ap (λ (s : Site). line_of s.text c.args.line) c.self.view_is
