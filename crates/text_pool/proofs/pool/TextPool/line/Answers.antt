use Rattle.std.proofs.Common.{◌∙◌, sym, ap}
use Rattle.std.specs.Prelude.{slice_get}
use Rattle.std.specs.Str.{chars}
use Rattle.hl_base.specs.Texts as texts
use Rattle.text_pool.proofs.PoolLemmas.{live_contains, text_of-entry}
use Rattle.text_pool.proofs.pool.TextPool.line.Goals as goal

pub index-entry-requires : goal.index-entry-requires
index-entry-requires c = live_contains _ _ _ c.self.view_is c.requires.live

pub returns : goal.returns
returns c =
    c.line_at.ensures
    ∙ ap (λ text. slice_get (texts.lines text) c.args.n)
    (ap chars c.as_str.ensures.value ∙ sym (text_of-entry _ _ _ _ c.self.view_is c.index-entry.ensures))
