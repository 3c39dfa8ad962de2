use Rattle.std.proofs.Common.{◌∙◌, ◌-◌, ap, arith}
use Rattle.std.specs.Str.{chars}
use Rattle.std.proofs.lemmas.Iterator.Consumers.{nth_from_yields_List, YieldsList-from_first}
use Rattle.hl_base.specs.Texts as texts
use Rattle.text_pool.proofs.StartLemmas.{slice_get-behind}
use Rattle.text_pool.proofs.starts.line_at.Goals as goal

pub returns : goal.returns
returns c =
    nth_from_yields_List c.nth.result c.nth.new.self (c.args.line - c.min-near.result) c.nth.ensures.ran
    (YieldsList-from_first (λ line. chars line.now) (λ left. left) _
    (c.lines.ensures
    ∙ ap (λ bytes. texts.lines (chars bytes)) c.range_from.ensures.value
    ∙ (c.requires.each c.min-near.result (omega (arith, c.min-near.ensures, c.requires.some))).rest))
    ∙ slice_get-behind (texts.lines (chars c.args.text.now)) c.min-near.result (c.args.line - c.min-near.result) c.args.line
    (omega (arith, c.min-near.ensures))
